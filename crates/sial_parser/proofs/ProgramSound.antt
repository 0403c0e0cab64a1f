-- What is read as a program stands with its words.
use Rattle.std.proofs.Common.{◌≡◌, ℕ, zero, suc, ◌+◌, ◌*◌, ◌<◌, ◌≤◌, List, [], ◌∷◌, ◌++◌, Bool, true, false, cond, length, sum_by, Result, Ok, Err, refl, sym, ap, ◌∙◌, subst, append_assoc, append-nil, arith}
use Rattle.std.specs.List.{AllByRecursion}
use Rattle.std.proofs.lemmas.List.{length-append}
use Rattle.std.proofs.lemmas.List.Sums.{sum_by-cons}
use Rattle.sial_syntax.specs.Limits.{most_statements, most_names, most_nesting}
use Rattle.sial_syntax.specs.Numbering.{statements}
use Rattle.sial_syntax.specs.Proper.{body_nesting}
use Rattle.sial_syntax.specs.Tree.{Procedure, block_of}
use Rattle.sial_parser.specs.Grammar.{at, begins_proc, IsNamedEnd, IsBody, AreDeclarations, AreProcs, IsProgram, numbered, names_of, tree_of}
use Rattle.sial_parser.specs.Parsing.{◌>>=◌, Read, unexpected, is_line_end, is_end, is_sial, is_end_sial, is_end_proc, named_end, Statements, body, declarations, proc_names, with_procs, Procedures, proc_at, proc_one, procs, ended, program_from, read_program}
use Rattle.sial_parser.specs.Scope.{Scope, IsFree, Declared, nothing}
use Rattle.sial_parser.specs.declared.fault.Counted.TheVariants as counts
use Rattle.sial_parser.specs.declared.fault.ParseFault.{ParseFault}
use Rattle.sial_parser.specs.declared.keyword.Keyword.TheVariants as key
use Rattle.sial_parser.specs.declared.thing.Thing.TheVariants.{Proc}
use Rattle.sial_parser.specs.declared.word.Symbol.{Symbol}
use Rattle.sial_parser.specs.declared.word.Symbol.TheVariants.{Key, Name, LineEnd, End}
use Rattle.sial_parser.specs.declared.word.Word.{Word}
use Rattle.sial_parser.proofs.BodySound.{AsBody, body_right}
use Rattle.sial_parser.proofs.DeclarationsSound.{AllGrown, Few, declarations_right, new_after}
use Rattle.sial_parser.proofs.EndsSound.{named_end_right}
use Rattle.sial_parser.proofs.NoProcs.{procs_named, end_named}
use Rattle.sial_parser.proofs.ProcNames.{procs_scope}
use Rattle.sial_parser.proofs.Shapes.{proc_then, proc_shape}
use Rattle.sial_parser.proofs.Rights.{Right, right_then, right_map, Good, good_then, skip_good, name_good, Says, skip_after, line_end_says, end_says, sial_says, end_sial_says, end_proc_says}

-- how many statements procedures have together
abbrev pub in_procs : List Procedure → ℕ
in_procs ps = sum_by (λ (q : Procedure). statements q.body) ps

-- procedures that were read, behind so many
pub record Proced (s before : Scope) (number left : ℕ) (ps : List Procedure) (after : ℕ) (ws rest : List Word) : Type 0 where
  pub are : AreProcs s before number ps ws rest
  pub count : after + in_procs ps ≡ left
  pub few : number ≤ most_names → number + length ps ≤ most_names
  pub deep : AllByRecursion (λ (q : Procedure). body_nesting q.body ≤ most_nesting) ps

-- as an answer, behind those in front
abbrev pub AsProcs : (s before : Scope) (number left : ℕ) → (front : List Procedure) → List Word → Procedures → List Word → Type 0
AsProcs s before number left front ws x rest = (ps : List Procedure) × (x.0 ≡ front ++ ps) × Proced s before number left ps x.1 ws rest

-- an end that is read behind something, and what goes on from it
end_after : {A : Type 0} (E : List Word → Type 0) (P : A → List Word → Type 0) (r : Result (List Word) ParseFault) (f : List Word → Read A) → Good E r → ((rest : List Word) → E rest → Right P (f rest)) → Right P (r >>= f)
end_after E P (Ok rest) f h go = go rest h
end_after E P (Err fault) f h go = tt

right_good : {A X : Type 0} (P : A → List Word → Type 0) (Q : X → Type 0) (r : Read A) (f : A × List Word → Result X ParseFault) → Right P r → ((x : A) (rest : List Word) → P x rest → Good Q (f (x, rest))) → Good Q (r >>= f)
right_good P Q (Ok x) f h go = go x.0 x.1 h
right_good P Q (Err fault) f h go = tt

proc_says : Says begins_proc (Key key.Proc)
proc_says (Key key.Proc) e = refl
proc_says _ e = absurd cc

-- a procedure that was read behind `proc`
record OneProc (s before : Scope) (number left : ℕ) (p : Procedure) (after : ℕ) (ws rest : List Word) : Type 0 where
  pub k : ℕ
  pub m : ℕ
  pub j : ℕ
  pub within : List Word
  pub ends : List Word
  pub words : at k (Name p.name) ∷ at m LineEnd ∷ within ≡ ws
  pub free : IsFree before p.name
  pub room : number < most_names
  pub is : IsBody s p.body within (at j (Key key.EndProc) ∷ ends)
  pub count : after + statements p.body ≡ left
  pub deep : body_nesting p.body ≤ most_nesting
  pub end : IsNamedEnd p.name ends rest

abbrev AsProc : (s before : Scope) (number left : ℕ) → List Word → Procedure × ℕ → List Word → Type 0
AsProc s before number left ws x rest = OneProc s before number left x.0 x.1 ws rest

module _ (s : Scope) where
  proc_right : (before : Scope) (number left : ℕ) (ws : List Word) → Right (AsProc s before number left ws) (proc_at true s before number left ws)
  unfolding proc_at
  proc_right before number left ws = new_after before number counts.Procs (AsProc s before number left ws) ws _ (λ k x ws2 free room h.
      skip_after (λ v. at k (Name x) ∷ v ≡ ws) (AsProc s before number left ws) is_line_end LineEnd line_end_says ws2 _ h (λ m ws3 h2.
      right_then (AsBody s most_nesting left ws3) (AsProc s before number left ws) (body most_nesting true s left ws3) _ (body_right s most_nesting left ws3) (λ b mid g.
      skip_after (λ v. AsBody s most_nesting left ws3 b v) (AsProc s before number left ws) is_end_proc (Key key.EndProc) end_proc_says mid _ g (λ j ends g2.
      end_after (λ rest. IsNamedEnd x ends rest) (AsProc s before number left ws) (named_end x ends) _ (named_end_right x ends) (λ rest f.
      record { k = k; m = m; j = j; within = ws3; ends = ends; words = h2; free = free; room = room; is = g2.is; count = g2.count; deep = g2.deep; end = f })))))

  one_proc : (b : Bool) (n : ℕ) (before : Scope) (front : List Procedure) (left : ℕ) (w : Word) (ws : List Word) → begins_proc w.symbol ≡ b
      → ((before : Scope) (front : List Procedure) (left : ℕ) (ws : List Word) → Right (AsProcs s before (length front) left front ws) (procs true s n before front left ws))
      → Right (AsProcs s before (length front) left front (w ∷ ws)) (cond b (proc_then (procs true s n) before front (proc_at true s before (length front) left ws)) (Ok ((front, left), w ∷ ws)))
  one_proc false n before front left w ws e others = ([], sym (append-nil front), record { are = AreProcs.none e; count = omega arith; few = λ h. omega (arith, h); deep = tt })
  one_proc true n before front left w ws e others =
      right_then (AsProc s before (length front) left ws) (AsProcs s before (length front) left front (w ∷ ws)) (proc_at true s before (length front) left ws) _ (proc_right before (length front) left ws) (λ x rest g.
      let p = x.0 in
      let one : length (front ++ p ∷ []) ≡ length front + 1 = length-append front (p ∷ []) in
      right_map (AsProcs s (before ++ record { name = p.name; thing = Proc (length front) } ∷ []) (length (front ++ p ∷ [])) x.1 (front ++ p ∷ []) rest) (AsProcs s before (length front) left front (w ∷ ws))
      (procs true s n (before ++ record { name = p.name; thing = Proc (length front) } ∷ []) (front ++ p ∷ []) x.1 rest)
      (λ y rest2 a. (
        p ∷ a.0,
        a.1 ∙ append_assoc front (p ∷ []) a.0,
        record {
          are = subst (λ (v : List Word). AreProcs s before (length front) (p ∷ a.0) v rest2) (ap (λ (v : List Word). at w.line (Key key.Proc) ∷ v) g.words ∙ ap (λ (what : Symbol). at w.line what ∷ ws) (sym (proc_says w.symbol e)))
              (AreProcs.more g.free g.is g.end (subst (λ (c : ℕ). AreProcs s (before ++ record { name = p.name; thing = Proc (length front) } ∷ []) c a.0 rest rest2) one a.2.are));
          count = omega (arith, g.count, a.2.count, sum_by-cons (λ (q : Procedure). statements q.body) p a.0);
          few = λ within. omega (arith, g.room, one, a.2.few);
          deep = (g.deep, a.2.deep);
        },
      ))
      (others (before ++ record { name = p.name; thing = Proc (length front) } ∷ []) (front ++ p ∷ []) x.1 rest))

  no_procs : (n : ℕ) (before : Scope) (front : List Procedure) (left : ℕ) → Right (AsProcs s before (length front) left front []) (procs true s (suc n) before front left [])
  unfolding procs proc_one
  no_procs n before front left = tt

  procs_right : (n : ℕ) (before : Scope) (front : List Procedure) (left : ℕ) (ws : List Word) → Right (AsProcs s before (length front) left front ws) (procs true s n before front left ws)
  unfolding procs
  procs_right zero before front left ws = tt
  procs_right (suc n) before front left [] = no_procs n before front left
  procs_right (suc n) before front left (w ∷ ws) =
      subst (Right (AsProcs s before (length front) left front (w ∷ ws))) (sym (proc_shape true s n before front left w ws)) (one_proc (begins_proc w.symbol) n before front left w ws refl (λ before front left ws. procs_right n before front left ws))

-- the end of the text is the last word
ended_last : (b : Bool) (w : Word) → is_end w.symbol ≡ b → Good {X = List Word} (λ u. (h : ℕ) × (w ∷ [] ≡ at h End ∷ [])) (cond b (Ok []) (unexpected (w ∷ [])))
ended_last true w e = (w.line, ap (λ (what : Symbol). at w.line what ∷ []) (end_says w.symbol e))
ended_last false w e = tt

ended_right : (ws : List Word) → Good (λ u. (h : ℕ) × (ws ≡ at h End ∷ [])) (ended ws)
ended_right [] = tt
ended_right (w ∷ []) = ended_last (is_end w.symbol) w refl
ended_right (w ∷ v ∷ ws) = tt

-- a program with the names of its procedures known
program_made : (title : List ℕ) (d : Declared) (ps : List Procedure) (b : Statements) (l k m j h after : ℕ) (ws first second ends : List Word) → AreDeclarations nothing d ws first → Few d
    → Proced (with_procs d.scope 0 (proc_names first)) d.scope 0 most_statements ps after first second → AsBody (with_procs d.scope 0 (proc_names first)) most_nesting after second b (at j (Key key.EndSial) ∷ ends) → IsNamedEnd title ends (at h End ∷ [])
    → IsProgram (tree_of title d ps (block_of b.0)) (at l (Key key.Sial) ∷ at k (Name title) ∷ at m LineEnd ∷ ws)
program_made title d ps b l k m j h after ws first second ends declared few procs body end =
    let none : proc_names second ≡ [] = end_named (with_procs d.scope 0 (proc_names first)) (block_of b.0) title j h second ends (Key key.EndSial) refl body.is end in
    let names : proc_names first ≡ names_of ps = procs_named (with_procs d.scope 0 (proc_names first)) d.scope 0 ps first second procs.are ∙ ap (λ xs. names_of ps ++ xs) none ∙ append-nil (names_of ps) in
    let few_procs : 0 + length ps ≤ most_names = procs.few (omega arith) in
    let scope : with_procs d.scope 0 (proc_names first) ≡ d.scope ++ numbered 0 (names_of ps) =
    ap (with_procs d.scope 0) names ∙ procs_scope (with_procs d.scope 0 (proc_names first)) d.scope 0 ps first second procs.are few_procs in
    IsProgram.program declared
    (subst (λ (s : Scope). AreProcs s d.scope 0 ps first second) scope procs.are)
    (subst (λ (s : Scope). IsBody s (block_of b.0) second (at j (Key key.EndSial) ∷ ends)) scope body.is)
    end
    (record {
      indices = few.indices;
      arrays = few.arrays;
      scalars = few.scalars;
      procedures = omega (arith, procs.few (omega arith));
      statements = omega (arith, procs.count, body.count);
      nesting = body.deep;
      nestings = procs.deep;
    })

from_right : (title : List ℕ) (d : Declared) (l k m : ℕ) (ws first : List Word) → AreDeclarations nothing d ws first → Few d
    → Good (λ p. IsProgram p (at l (Key key.Sial) ∷ at k (Name title) ∷ at m LineEnd ∷ ws)) (program_from true (with_procs d.scope 0 (proc_names first)) title d first)
unfolding program_from
from_right title d l k m ws first declared few =
    let s : Scope = with_procs d.scope 0 (proc_names first) in
    right_good (AsProcs s d.scope 0 most_statements [] first) (λ p. IsProgram p (at l (Key key.Sial) ∷ at k (Name title) ∷ at m LineEnd ∷ ws)) (procs true s (most_names + 1) d.scope [] most_statements first) _ (procs_right s (most_names + 1) d.scope [] most_statements first) (λ x second a.
    right_good (AsBody s most_nesting x.1 second) (λ p. IsProgram p (at l (Key key.Sial) ∷ at k (Name title) ∷ at m LineEnd ∷ ws)) (body most_nesting true s x.1 second) _ (body_right s most_nesting x.1 second) (λ b mid g.
    skip_good is_end_sial (Key key.EndSial) end_sial_says (λ v. AsBody s most_nesting x.1 second b v) (λ p. IsProgram p (at l (Key key.Sial) ∷ at k (Name title) ∷ at m LineEnd ∷ ws)) mid _ g (λ j ends g2.
    good_then (λ rest. IsNamedEnd title ends rest) (λ p. IsProgram p (at l (Key key.Sial) ∷ at k (Name title) ∷ at m LineEnd ∷ ws)) (named_end title ends) _ (named_end_right title ends) (λ rest e.
    good_then (λ u. (h : ℕ) × (rest ≡ at h End ∷ [])) (λ p. IsProgram p (at l (Key key.Sial) ∷ at k (Name title) ∷ at m LineEnd ∷ ws)) (ended rest) _ (ended_right rest) (λ u last.
    subst (λ (ps : List Procedure). IsProgram (tree_of title d ps (block_of b.0)) (at l (Key key.Sial) ∷ at k (Name title) ∷ at m LineEnd ∷ ws)) (sym a.1)
    (program_made title d a.0 b l k m j last.0 x.1 ws first second ends declared few a.2 g2 (subst (λ (v : List Word). IsNamedEnd title ends v) last.1 e)))))))

-- a program that is read stands with its words
pub program_right : (ws : List Word) → Good (λ p. IsProgram p ws) (read_program true ws)
unfolding read_program
program_right ws = skip_good is_sial (Key key.Sial) sial_says (λ v. v ≡ ws) (λ p. IsProgram p ws) ws _ refl (λ l ws2 h.
    name_good (λ v. at l (Key key.Sial) ∷ v ≡ ws) (λ p. IsProgram p ws) ws2 _ h (λ k title ws3 h2.
    skip_good is_line_end LineEnd line_end_says (λ v. at l (Key key.Sial) ∷ at k (Name title) ∷ v ≡ ws) (λ p. IsProgram p ws) ws3 _ h2 (λ m ws4 h3.
    right_good (λ d rest. AllGrown nothing d ws4 rest) (λ p. IsProgram p ws) (declarations (3 * most_names + 1) nothing ws4) _ (declarations_right (3 * most_names + 1) nothing ws4) (λ d first g.
    subst (λ (v : List Word). Good (λ p. IsProgram p v) (program_from true (with_procs d.scope 0 (proc_names first)) title d first)) h3
    (from_right title d l k m ws4 first g.are (g.few (record { indices = omega arith; arrays = omega arith; scalars = omega arith })))))))
