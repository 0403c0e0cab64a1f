-- Procedures, and whole programs.
use Rattle.std.proofs.Common.{◌≡◌, ℕ, zero, suc, ◌+◌, ◌*◌, ◌<◌, ◌≤◌, List, [], ◌∷◌, ◌++◌, Bool, true, false, cond, length, Option, Some, None, Result, Ok, Err, refl, sym, ap, ◌∙◌, subst, arith}
use Rattle.std.specs.Str.{bytes_eq}
use Rattle.std.proofs.lemmas.List.{length-append}
use Rattle.sial_syntax.specs.Limits.{most_names, most_nesting, most_statements}
use Rattle.sial_syntax.specs.Tree.{Tree, Procedure, block_of}
use Rattle.sial_parser.specs.Grammar.{at, ends_body, begins_proc, tree_of}
use Rattle.sial_parser.specs.Parsing.{◌>>=◌, Read, unexpected, skip, name, name_by, is_line_end, is_end, is_end_sial, is_end_proc, called, named_end, named_end_by, Statements, body, new_name, declarations, is_new, with_procs, proc_names, Procedures, proc_at, proc_one, procs, ended, program_from, read_program}
use Rattle.sial_parser.specs.Scope.{Scope, thing_of, Declared, nothing}
use Rattle.sial_parser.specs.declared.fault.Counted.TheVariants as counts
use Rattle.sial_parser.specs.declared.fault.ParseFault.{ParseFault}
use Rattle.sial_parser.specs.declared.fault.ParseFault.TheVariants.{EndName}
use Rattle.sial_parser.specs.declared.keyword.Keyword.TheVariants as key
use Rattle.sial_parser.specs.declared.thing.Thing.{Thing}
use Rattle.sial_parser.specs.declared.thing.Thing.TheVariants.{Proc}
use Rattle.sial_parser.specs.declared.word.Symbol.{Symbol}
use Rattle.sial_parser.specs.declared.word.Symbol.TheVariants.{Key, Name, LineEnd}
use Rattle.sial_parser.specs.declared.word.Word.{Word}
use Rattle.sial_parser.proofs.Rights.{Right, right_then}
use Rattle.sial_parser.proofs.Shapes.{proc_shape, proc_then}
use Rattle.sial_faults.specs.Faults.{Past, at_start, unless, told, checked, body_fault, past_body}
use Rattle.sial_faults.specs.Forms.{says, where_so, after_body}
use Rattle.sial_faults.specs.Parts.{Part, a_procedure, of_program, of_procedure, Fixed, sial, line_end}
use Rattle.sial_faults.specs.Parts as part
use Rattle.sial_faults.specs.Faults.{fault_in}
use Rattle.sial_faults.specs.Faults.{any_name, first_fault}
use Rattle.sial_faults.proofs.Agreeing.{Agrees, AreAlike, LookAt, plain_thing, skip_agrees}
use Rattle.sial_faults.proofs.AgreeEnds.{named_end_agrees}
use Rattle.sial_faults.proofs.AgreeStatements.{at_left}
use Rattle.sial_faults.proofs.AgreeLoops.{EndsBody, BodyAgrees, body_then}
use Rattle.sial_faults.proofs.AgreeBodies.{body_agrees}
use Rattle.sial_faults.proofs.Growing.{new_right}
use Rattle.sial_faults.proofs.AgreePrograms.{new_agrees, declarations_agree, past_of}
use Rattle.sial_faults.proofs.Counts.{any_then}

only : (b : Bool) (n : ℕ) → plain_thing (cond b (Some (Proc n)) None) ≡ None
only true n = refl
only false n = refl

either : (b : Bool) (x y z : Option Thing) → plain_thing y ≡ plain_thing z → plain_thing (cond b x y) ≡ plain_thing (cond b x z)
either true x y z e = refl
either false x y z e = e

-- a procedure tells nothing of other things
pub one_more_plain : (s : Scope) (x y : List ℕ) (n : ℕ) → plain_thing (thing_of (s ++ record { name = x; thing = Proc n } ∷ []) y) ≡ plain_thing (thing_of s y)
one_more_plain [] x y n = only (bytes_eq y x) n
one_more_plain (e ∷ es) x y n = either (bytes_eq y e.name) (Some e.thing) (thing_of (es ++ record { name = x; thing = Proc n } ∷ []) y) (thing_of es y) (one_more_plain es x y n)

new_or_not : (b : Bool) (s : Scope) (n : ℕ) (x : List ℕ) (xs : List (List ℕ)) (y : List ℕ) → plain_thing (thing_of (with_procs (s ++ record { name = x; thing = Proc n } ∷ []) (n + 1) xs) y) ≡ plain_thing (thing_of s y) → plain_thing (thing_of (with_procs s n xs) y) ≡ plain_thing (thing_of s y)
    → plain_thing (thing_of (cond b (with_procs (s ++ record { name = x; thing = Proc n } ∷ []) (n + 1) xs) (with_procs s n xs)) y) ≡ plain_thing (thing_of s y)
new_or_not true s n x xs y e f = e
new_or_not false s n x xs y e f = f

pub procs_plain : (s : Scope) (n : ℕ) (xs : List (List ℕ)) (y : List ℕ) → plain_thing (thing_of (with_procs s n xs) y) ≡ plain_thing (thing_of s y)
procs_plain s n [] y = refl
procs_plain s n (x ∷ xs) y = new_or_not (is_new s n x) s n x xs y (procs_plain (s ++ record { name = x; thing = Proc n } ∷ []) (n + 1) xs y ∙ one_more_plain s x y n) (procs_plain s n xs y)

-- what is said with so many procedures
abbrev pub with_so_many : Declared → (before : Scope) → (number left : ℕ) → Past
with_so_many d before number left = record (past_of d) { scope = before; procs = number; left = left }

module _ (callable : (name : List ℕ) → Bool) (strict : Bool) (s : Scope) (calls : (l : ℕ) (x : List ℕ) → LookAt (callable x) l (called strict l (thing_of s x))) (d : Declared) where
  -- "endproc"
  module _ (past : Past) (inside : ℕ) (parts : List Part) {B : Type 0} (later : B → Past) (last : B → List Part) (go : List Word → Read B) (h : (rest : List Word) → Agrees callable (checked callable past parts rest) later last (go rest)) where
    proc_end_at : (l : ℕ) (what : Symbol) (ws : List Word) → ends_body what ≡ true → Agrees callable (checked callable past (part.body of_procedure inside ∷ parts) (at l what ∷ ws)) later last (skip is_end_proc (at l what ∷ ws) >>= go)
    proc_end_at l (Key key.EndProc) ws e = h ws
    proc_end_at l (Key key.EndSial) ws e = refl
    proc_end_at l (Key key.EndDo) ws e = refl
    proc_end_at l (Key key.EndPardo) ws e = refl
    proc_end_at l (Key key.EndIf) ws e = refl
    proc_end_at l (Key key.Else) ws e = refl
    proc_end_at l _ ws e = absurd cc

    proc_end_agrees : (ws : List Word) → EndsBody ws → Agrees callable (checked callable past (part.body of_procedure inside ∷ parts) ws) later last (skip is_end_proc ws >>= go)
    proc_end_agrees [] e = absurd e
    proc_end_agrees (w ∷ ws) e = proc_end_at w.line w.symbol ws e

  abbrev after_proc : (before : Scope) → (number : ℕ) → Procedure × ℕ → Past
  after_proc before number p = with_so_many d (before ++ record { name = p.0.name; thing = Proc number } ∷ []) (number + 1) p.1

  -- a procedure, behind `proc`
  proc_agrees : (before : Scope) → AreAlike s before → (number left : ℕ) (parts : List Part) (ws : List Word)
      → Agrees callable (checked callable (with_so_many d before number left) (part.new a_procedure ∷ parts) ws) (after_proc before number) (λ p. parts) (proc_at strict s before number left ws)
  unfolding proc_at
  proc_agrees before alike number left parts ws =
      new_agrees callable (after_proc before number) (λ p. parts) a_procedure (with_so_many d before number left) parts
      (λ x ws. skip is_line_end ws >>= λ ws. body most_nesting strict s left ws >>= λ b. skip is_end_proc b.1 >>= λ ends. named_end x ends >>= λ rest. Ok ((record { name = x; body = block_of b.0.0 }, b.0.1), rest)) (λ l x ws. refl)
      (λ x ws. skip_agrees callable (after_proc before number) (λ p. parts) line_end (with_so_many d (before ++ record { name = x; thing = Proc number } ∷ []) (number + 1) left) (part.body of_procedure most_nesting ∷ part.named_end x ∷ parts) ws
      (λ ws. body most_nesting strict s left ws >>= λ b. skip is_end_proc b.1 >>= λ ends. named_end x ends >>= λ rest. Ok ((record { name = x; body = block_of b.0.0 }, b.0.1), rest))
      (λ ws. inside x ws (λ y. alike y ∙ sym (one_more_plain before x y number))))
      ws
    where
      inside : (x : List ℕ) (ws : List Word) → AreAlike s (before ++ record { name = x; thing = Proc number } ∷ [])
          → Agrees callable (checked callable (with_so_many d (before ++ record { name = x; thing = Proc number } ∷ []) (number + 1) left) (part.body of_procedure most_nesting ∷ part.named_end x ∷ parts) ws) (after_proc before number) (λ p. parts)
          (body most_nesting strict s left ws >>= λ b. skip is_end_proc b.1 >>= λ ends. named_end x ends >>= λ rest. Ok ((record { name = x; body = block_of b.0.0 }, b.0.1), rest))
      inside x ws like =
          body_then callable strict s (with_so_many d (before ++ record { name = x; thing = Proc number } ∷ []) (number + 1) left) like calls of_procedure most_nesting (part.named_end x ∷ parts) (after_proc before number) (λ p. parts)
          (checked callable (with_so_many d (before ++ record { name = x; thing = Proc number } ∷ []) (number + 1) left) (part.body of_procedure most_nesting ∷ part.named_end x ∷ parts) ws) (body most_nesting strict s left ws)
          (λ b ws. skip is_end_proc ws >>= λ ends. named_end x ends >>= λ rest. Ok ((record { name = x; body = block_of b.0 }, b.1), rest))
          (body_agrees callable strict s (with_so_many d (before ++ record { name = x; thing = Proc number } ∷ []) (number + 1) left) like calls most_nesting of_procedure (part.named_end x ∷ parts) left ws)
          (λ b ws ends. proc_end_agrees (with_so_many d (before ++ record { name = x; thing = Proc number } ∷ []) (number + 1) b.1) most_nesting (part.named_end x ∷ parts) (after_proc before number) (λ p. parts)
          (λ ends. named_end x ends >>= λ rest. Ok ((record { name = x; body = block_of b.0 }, b.1), rest))
          (λ ends. named_end_agrees callable s (with_so_many d (before ++ record { name = x; thing = Proc number } ∷ []) (number + 1) b.1) like (after_proc before number) (λ p. parts) x parts ends (λ rest. Ok ((record { name = x; body = block_of b.0 }, b.1), rest)) (λ rest. refl)) ws ends)

  proc_room : (before : Scope) (number left : ℕ) (ws : List Word) → Right (λ p rest. number < most_names) (proc_at strict s before number left ws)
  unfolding proc_at
  proc_room before number left ws = right_then (λ y rest. number < most_names) (λ p rest. number < most_names) (new_name before number counts.Procs ws) _ (new_right before number counts.Procs ws)
      (λ x rest room. any_then (λ p rest. number < most_names) (skip is_line_end rest) _ (λ ws. any_then (λ p rest. number < most_names) (body most_nesting strict s left ws) _ (λ b. any_then (λ p rest. number < most_names) (skip is_end_proc b.1) _ (λ ends. any_then (λ p rest. number < most_names) (named_end x ends) _ (λ rest. room)))))

  module _ (parts : List Part) where
    -- what a reading of procedures says
    abbrev ProcsAgree : (first : Result Past ParseFault) → Read Procedures → Type 0
    ProcsAgree first (Ok x) = (before : Scope) × (AreAlike s before × (first ≡ checked callable (with_so_many d before (length x.0.0) x.0.1) (part.body of_program most_nesting ∷ parts) x.1))
    ProcsAgree first (Err fault) = first ≡ Err fault

    procs_told : (b : Bool) (before : Scope) (number left : ℕ) (w : Word) (ws : List Word) → begins_proc w.symbol ≡ b → checked callable (with_so_many d before number left) (part.procedures ∷ parts) (w ∷ ws)
        ≡ told w.line (cond b (Some (part.new a_procedure ∷ part.procedures ∷ [])) (after_body of_program most_nesting w.symbol)) (cond b None (body_fault (with_so_many d before number left) most_nesting w.line w.symbol ws))
        (λ more. checked callable (cond b (with_so_many d before number left) (past_body w.symbol (with_so_many d before number left))) (more ++ parts) ws)
    procs_told b before number left w ws e =
        ap (λ b. told w.line (cond b (Some (part.new a_procedure ∷ part.procedures ∷ [])) (after_body of_program most_nesting w.symbol)) (cond b None (body_fault (with_so_many d before number left) most_nesting w.line w.symbol ws))
        (λ more. checked callable (cond b (with_so_many d before number left) (past_body w.symbol (with_so_many d before number left))) (more ++ parts) ws)) e

    procs_then : (first : Result Past ParseFault) (before : Scope) (number : ℕ) (r : Read (Procedure × ℕ)) (go : Procedure × ℕ → List Word → Read Procedures) → Right (λ p rest. number < most_names) r → Agrees callable first (after_proc before number) (λ p. part.procedures ∷ parts) r
        → ((p : Procedure × ℕ) (ws : List Word) → number < most_names → ProcsAgree (checked callable (after_proc before number p) (part.procedures ∷ parts) ws) (go p ws)) → ProcsAgree first (r >>= λ p. go p.0 p.1)
    procs_then first before number (Ok p) go room h k = subst (λ t. ProcsAgree t (go p.0 p.1)) (sym h) (k p.0 p.1 room)
    procs_then first before number (Err fault) go room h k = h

    procs_by : (b : Bool) (n : ℕ) (before : Scope) → AreAlike s before → (front : List Procedure) (left : ℕ) (w : Word) (ws : List Word) → begins_proc w.symbol ≡ b → most_names + 1 ≤ length front + suc n
        → ((before : Scope) → AreAlike s before → (front : List Procedure) (left : ℕ) (ws : List Word) → length front ≤ most_names → most_names + 1 ≤ length front + n → ProcsAgree (checked callable (with_so_many d before (length front) left) (part.procedures ∷ parts) ws) (procs strict s n before front left ws))
        → ProcsAgree (checked callable (with_so_many d before (length front) left) (part.procedures ∷ parts) (w ∷ ws)) (cond b (proc_then (procs strict s n) before front (proc_at strict s before (length front) left ws)) (Ok ((front, left), w ∷ ws)))
    procs_by true n before alike front left w ws e room k =
        subst (λ t. ProcsAgree t (proc_then (procs strict s n) before front (proc_at strict s before (length front) left ws))) (sym (procs_told true before (length front) left w ws e))
        (procs_then (checked callable (with_so_many d before (length front) left) (part.new a_procedure ∷ part.procedures ∷ parts) ws) before (length front) (proc_at strict s before (length front) left ws) (λ p ws. procs strict s n (before ++ record { name = p.0.name; thing = Proc (length front) } ∷ []) (front ++ p.0 ∷ []) p.1 ws)
        (proc_room before (length front) left ws) (proc_agrees before alike (length front) left (part.procedures ∷ parts) ws)
        (λ p ws few. let longer : length (front ++ p.0 ∷ []) ≡ length front + 1 = length-append front (p.0 ∷ []) in
        subst (λ c. ProcsAgree (checked callable (with_so_many d (before ++ record { name = p.0.name; thing = Proc (length front) } ∷ []) c p.1) (part.procedures ∷ parts) ws) (procs strict s n (before ++ record { name = p.0.name; thing = Proc (length front) } ∷ []) (front ++ p.0 ∷ []) p.1 ws)) longer
        (k (before ++ record { name = p.0.name; thing = Proc (length front) } ∷ []) (λ y. alike y ∙ sym (one_more_plain before p.0.name y (length front))) (front ++ p.0 ∷ []) p.1 ws (omega (arith, longer, few)) (omega (arith, longer, room)))))
    procs_by false n before alike front left w ws e room k = (before, (alike, procs_told false before (length front) left w ws e))

    procs_agree : (n : ℕ) (before : Scope) → AreAlike s before → (front : List Procedure) (left : ℕ) (ws : List Word) → length front ≤ most_names → most_names + 1 ≤ length front + n
        → ProcsAgree (checked callable (with_so_many d before (length front) left) (part.procedures ∷ parts) ws) (procs strict s n before front left ws)
    unfolding procs proc_one
    procs_agree zero before alike front left ws few room = absurd (omega (arith, few, room))
    procs_agree (suc n) before alike front left [] few room = refl
    procs_agree (suc n) before alike front left (w ∷ ws) few room =
        subst (ProcsAgree (checked callable (with_so_many d before (length front) left) (part.procedures ∷ parts) (w ∷ ws))) (sym (proc_shape strict s n before front left w ws)) (procs_by (begins_proc w.symbol) n before alike front left w ws refl room (procs_agree n))

    procs_final : (first : Result Past ParseFault) (r : Read Procedures) (go : Procedures → List Word → Result Tree ParseFault) → ProcsAgree first r
        → ((before : Scope) → AreAlike s before → (ps : Procedures) (ws : List Word) → fault_in (checked callable (with_so_many d before (length ps.0) ps.1) (part.body of_program most_nesting ∷ parts) ws) ≡ fault_in (go ps ws)) → fault_in first ≡ fault_in (r >>= λ y. go y.0 y.1)
    procs_final first (Ok y) go h k = ap fault_in h.1.1 ∙ k h.0 h.1.0 y.0 y.1
    procs_final first (Err fault) go h k = ap fault_in h

-- the end of a program
module _ (callable : (name : List ℕ) → Bool) {X : Type 0} where
  pub final_skip : (one : Fixed) (past : Past) (parts : List Part) (ws : List Word) (go : List Word → Result X ParseFault) → ((rest : List Word) → fault_in (checked callable past parts rest) ≡ fault_in (go rest)) → fault_in (checked callable past (part.fixed one ∷ parts) ws) ≡ fault_in (skip (says one) ws >>= go)
  final_skip one past parts [] go h = refl
  final_skip one past parts (w ∷ ws) go h = by_test (says one w.symbol)
    where
      by_test : (b : Bool) → fault_in (told w.line (where_so b []) None (λ more. checked callable past (more ++ parts) ws)) ≡ fault_in (cond b (Ok ws) (unexpected (w ∷ ws)) >>= go)
      by_test true = h ws
      by_test false = refl

  pub final_then : {A : Type 0} (first : Result Past ParseFault) (later : A → Past) (parts : A → List Part) (r : Read A) (go : A → List Word → Result X ParseFault) → Agrees callable first later parts r → ((x : A) (ws : List Word) → fault_in (checked callable (later x) (parts x) ws) ≡ fault_in (go x ws)) → fault_in first ≡ fault_in (r >>= λ y. go y.0 y.1)
  final_then first later parts (Ok y) go h k = ap fault_in h ∙ k y.0 y.1
  final_then first later parts (Err fault) go h k = ap fault_in h

  named_by : (past : Past) (b : Bool) (l : ℕ) (parts : List Part) (ws : List Word) (go : List Word → Result X ParseFault) → ((rest : List Word) → fault_in (checked callable past parts rest) ≡ fault_in (go rest))
      → fault_in (told l (Some (part.fixed line_end ∷ [])) (unless b (EndName l) None) (λ more. checked callable past (more ++ parts) ws)) ≡ fault_in (cond b (skip is_line_end ws) (Err (EndName l)) >>= go)
  named_by past true l parts ws go h = final_skip line_end past parts ws go h
  named_by past false l parts ws go h = refl

  named_at : (past : Past) (x : List ℕ) (parts : List Part) (l : ℕ) (what : Symbol) (ws : List Word) (go : List Word → Result X ParseFault) → ((rest : List Word) → fault_in (checked callable past parts rest) ≡ fault_in (go rest)) → fault_in (checked callable past (part.named_end x ∷ parts) (at l what ∷ ws)) ≡ fault_in (named_end_by x what (at l what) ws >>= go)
  named_at past x parts l LineEnd ws go h = h ws
  named_at past x parts l (Name y) ws go h = named_by past (bytes_eq y x) l parts ws go h
  named_at past x parts l _ ws go h = refl

  pub final_named : (past : Past) (x : List ℕ) (parts : List Part) (ws : List Word) (go : List Word → Result X ParseFault) → ((rest : List Word) → fault_in (checked callable past parts rest) ≡ fault_in (go rest)) → fault_in (checked callable past (part.named_end x ∷ parts) ws) ≡ fault_in (named_end x ws >>= go)
  unfolding named_end
  final_named past x parts [] go h = refl
  final_named past x parts (w ∷ ws) go h = named_at past x parts w.line w.symbol ws go h

  pub final_end : (past : Past) (ws : List Word) (x : X) → fault_in (checked callable past (part.text_end ∷ []) ws) ≡ fault_in (ended ws >>= λ u. Ok x)
  final_end past [] x = refl
  final_end past (w ∷ []) x = by_test (is_end w.symbol)
    where
      by_test : (b : Bool) → fault_in (told w.line (where_so b []) None (λ more. checked callable past (more ++ []) [])) ≡ fault_in (◌>>=◌ {A = List Word} (cond b (Ok []) (unexpected (w ∷ []))) (λ u. Ok x))
      by_test true = refl
      by_test false = refl
  final_end past (w ∷ v ∷ ws) x = refl

  sial_end_at : (past : Past) (inside : ℕ) (parts : List Part) (go : List Word → Result X ParseFault) → ((rest : List Word) → fault_in (checked callable past parts rest) ≡ fault_in (go rest)) → (l : ℕ) (what : Symbol) (ws : List Word) → ends_body what ≡ true
      → fault_in (checked callable past (part.body of_program inside ∷ parts) (at l what ∷ ws)) ≡ fault_in (skip is_end_sial (at l what ∷ ws) >>= go)
  sial_end_at past inside parts go h l (Key key.EndSial) ws e = h ws
  sial_end_at past inside parts go h l (Key key.EndProc) ws e = refl
  sial_end_at past inside parts go h l (Key key.EndDo) ws e = refl
  sial_end_at past inside parts go h l (Key key.EndPardo) ws e = refl
  sial_end_at past inside parts go h l (Key key.EndIf) ws e = refl
  sial_end_at past inside parts go h l (Key key.Else) ws e = refl
  sial_end_at past inside parts go h l _ ws e = absurd cc

  pub final_sial_end : (past : Past) (inside : ℕ) (parts : List Part) (go : List Word → Result X ParseFault) → ((rest : List Word) → fault_in (checked callable past parts rest) ≡ fault_in (go rest)) → (ws : List Word) → EndsBody ws → fault_in (checked callable past (part.body of_program inside ∷ parts) ws) ≡ fault_in (skip is_end_sial ws >>= go)
  final_sial_end past inside parts go h [] e = absurd e
  final_sial_end past inside parts go h (w ∷ ws) e = sial_end_at past inside parts go h w.line w.symbol ws e

  name_at : (past : Past) (parts : List Part) (l : ℕ) (what : Symbol) (ws : List Word) (go : List ℕ → List Word → Result X ParseFault) → ((x : List ℕ) (rest : List Word) → fault_in (checked callable past (part.fixed line_end ∷ part.declarations ∷ part.named_end x ∷ part.text_end ∷ parts) rest) ≡ fault_in (go x rest))
      → fault_in (checked callable past (part.title ∷ parts) (at l what ∷ ws)) ≡ fault_in (name_by what (at l what) ws >>= λ y. go y.0 y.1)
  name_at past parts l (Name x) ws go h = h x ws
  name_at past parts l _ ws go h = refl

  pub final_title : (past : Past) (parts : List Part) (ws : List Word) (go : List ℕ → List Word → Result X ParseFault) → ((x : List ℕ) (rest : List Word) → fault_in (checked callable past (part.fixed line_end ∷ part.declarations ∷ part.named_end x ∷ part.text_end ∷ parts) rest) ≡ fault_in (go x rest))
      → fault_in (checked callable past (part.title ∷ parts) ws) ≡ fault_in (name ws >>= λ y. go y.0 y.1)
  final_title past parts [] go h = refl
  final_title past parts (w ∷ ws) go h = name_at past parts w.line w.symbol ws go h

-- what stands behind the declarations
module _ (callable : (name : List ℕ) → Bool) (strict : Bool) (s : Scope) (calls : (l : ℕ) (x : List ℕ) → LookAt (callable x) l (called strict l (thing_of s x))) (x : List ℕ) (d : Declared) (alike : AreAlike s d.scope) where
  body_final : (past : Past) (like : AreAlike s past.scope) (parts : List Part) (first : Result Past ParseFault) (r : Read Statements) (go : Statements → List Word → Result Tree ParseFault) → BodyAgrees callable strict s past like calls of_program most_nesting parts first r
      → ((b : Statements) (ws : List Word) → EndsBody ws → fault_in (checked callable (at_left past b.1) (part.body of_program most_nesting ∷ parts) ws) ≡ fault_in (go b ws)) → fault_in first ≡ fault_in (r >>= λ y. go y.0 y.1)
  body_final past like parts first (Ok y) go h k = ap fault_in h.0 ∙ k y.0 y.1 h.1
  body_final past like parts first (Err fault) go h k = ap fault_in h

  pub from_agrees : (ws : List Word) → fault_in (checked callable (past_of d) (part.procedures ∷ part.named_end x ∷ part.text_end ∷ []) ws) ≡ fault_in (program_from strict s x d ws)
  unfolding program_from
  from_agrees ws =
      procs_final callable strict s calls d (part.named_end x ∷ part.text_end ∷ []) (checked callable (past_of d) (part.procedures ∷ part.named_end x ∷ part.text_end ∷ []) ws) (procs strict s (most_names + 1) d.scope [] most_statements ws)
      (λ ps ws. body most_nesting strict s ps.1 ws >>= λ b. skip is_end_sial b.1 >>= λ ends. named_end x ends >>= λ rest. ended rest >>= λ u. Ok (tree_of x d ps.0 (block_of b.0.0)))
      (procs_agree callable strict s calls d (part.named_end x ∷ part.text_end ∷ []) (most_names + 1) d.scope alike [] most_statements ws (omega arith) (omega arith))
      (λ before like ps ws. body_final (with_so_many d before (length ps.0) ps.1) like (part.named_end x ∷ part.text_end ∷ []) (checked callable (with_so_many d before (length ps.0) ps.1) (part.body of_program most_nesting ∷ part.named_end x ∷ part.text_end ∷ []) ws) (body most_nesting strict s ps.1 ws)
      (λ b ws. skip is_end_sial ws >>= λ ends. named_end x ends >>= λ rest. ended rest >>= λ u. Ok (tree_of x d ps.0 (block_of b.0)))
      (body_agrees callable strict s (with_so_many d before (length ps.0) ps.1) like calls most_nesting of_program (part.named_end x ∷ part.text_end ∷ []) ps.1 ws)
      (λ b ws ends. final_sial_end callable (with_so_many d before (length ps.0) b.1) most_nesting (part.named_end x ∷ part.text_end ∷ []) (λ ends. named_end x ends >>= λ rest. ended rest >>= λ u. Ok (tree_of x d ps.0 (block_of b.0)))
      (λ ends. final_named callable (with_so_many d before (length ps.0) b.1) x (part.text_end ∷ []) ends (λ rest. ended rest >>= λ u. Ok (tree_of x d ps.0 (block_of b.0)))
      (λ rest. final_end callable (with_so_many d before (length ps.0) b.1) rest (tree_of x d ps.0 (block_of b.0)))) ws ends))

-- a program where any name may be called
pub meets_first : (ws : List Word) → first_fault any_name ws ≡ fault_in (read_program false ws)
unfolding read_program
meets_first ws =
    final_skip any_name sial at_start (part.title ∷ []) ws (λ ws. name ws >>= λ x. skip is_line_end x.1 >>= λ ws. declarations (3 * most_names + 1) nothing ws >>= λ d. program_from false (with_procs d.0.scope 0 (proc_names d.1)) x.0 d.0 d.1)
    (λ ws. final_title any_name at_start [] ws (λ x ws. skip is_line_end ws >>= λ ws. declarations (3 * most_names + 1) nothing ws >>= λ d. program_from false (with_procs d.0.scope 0 (proc_names d.1)) x d.0 d.1)
    (λ x ws. final_skip any_name line_end at_start (part.declarations ∷ part.named_end x ∷ part.text_end ∷ []) ws (λ ws. declarations (3 * most_names + 1) nothing ws >>= λ d. program_from false (with_procs d.0.scope 0 (proc_names d.1)) x d.0 d.1)
    (λ ws. final_then any_name (checked any_name at_start (part.declarations ∷ part.named_end x ∷ part.text_end ∷ []) ws) past_of (λ d. part.procedures ∷ part.named_end x ∷ part.text_end ∷ []) (declarations (3 * most_names + 1) nothing ws) (λ d ws. program_from false (with_procs d.scope 0 (proc_names ws)) x d ws)
    (declarations_agree any_name (part.named_end x ∷ part.text_end ∷ []) (3 * most_names + 1) nothing ws (record { indices = omega arith; arrays = omega arith; scalars = omega arith }) (omega arith))
    (λ d ws. from_agrees any_name false (with_procs d.scope 0 (proc_names ws)) (λ l x. tt) x d (procs_plain d.scope 0 (proc_names ws)) ws))))
