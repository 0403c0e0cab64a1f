-- The lines of a program stand with it, but for the lines that are kept in it.
use Rattle.std.proofs.Common.{◌≡◌, ℕ, zero, suc, ◌+◌, ◌<◌, ◌≤◌, List, [], ◌∷◌, ◌++◌, true, false, ◌&&◌, map, length, Option, Some, None, slice_get, refl, sym, ap, ◌∙◌, subst, append_assoc, append-nil, arith}
use Rattle.std.specs.Prelude.{IsTrue}
use Rattle.std.specs.List.{AllByRecursion, list_all, enumerate_from, flat_map, fold}
use Rattle.std.proofs.lemmas.Bool.{lt-ltb, ltb-true}
use Rattle.std.proofs.lemmas.Option.{slice_get_within}
use Rattle.sial_syntax.specs.Limits.{most_rank, most_nesting}
use Rattle.sial_syntax.specs.Names.{is_name}
use Rattle.sial_syntax.specs.Numbering as numbering
use Rattle.sial_syntax.specs.Proper.{IsProper, is_line, has_index, has_length, proper_bound, proper_range, proper_index, proper_array, proper_depth, proper_procedure, body_nesting}
use Rattle.sial_syntax.specs.Tree.{Tree, Procedure}
use Rattle.sial_syntax.specs.declared.array.ArrayDecl.{ArrayDecl}
use Rattle.sial_syntax.specs.declared.index.IndexDecl.{IndexDecl}
use Rattle.sial_syntax.specs.declared.index.Range.{Range}
use Rattle.sial_syntax.specs.declared.index.Range.TheVariants as range
use Rattle.sial_parser.specs.Grammar.{at, begins_proc, begins_declaration, AreIndices, AreDims, IsNamedEnd, IsBody, Declares, AreDeclarations, AreProcs, IsProgram, numbered, names_of, tree_of}
use Rattle.sial_parser.specs.Scope.{Scope, Entry, thing_of, Declared, nothing}
use Rattle.sial_parser.specs.Sound.{AreSound}
use Rattle.sial_parser.specs.declared.keyword.Keyword.TheVariants as key
use Rattle.sial_parser.specs.declared.sign.Sign.TheVariants as sign
use Rattle.sial_parser.specs.declared.thing.Thing.{Thing}
use Rattle.sial_parser.specs.declared.thing.Thing.TheVariants as thing
use Rattle.sial_parser.specs.declared.word.Symbol.{Symbol}
use Rattle.sial_parser.specs.declared.word.Symbol.TheVariants.{Key, Name, LineEnd, End}
use Rattle.sial_parser.specs.declared.word.Symbol.TheVariants as symbol
use Rattle.sial_parser.specs.declared.word.Word.{Word}
use Rattle.sial_parser.proofs.ProperBodies.{body_proper}
use Rattle.sial_parser.proofs.ProperOperands.{Has, Covers, named_end_sound}
use Rattle.sial_printer.specs.Lines.{index_line, ranged, array_line, scalar_line, procedure_lines, statements, declarations, program_lines}
use Rattle.sial_printer.specs.Placed.{placed, AreSaid, IsLine, AreLines}
use Rattle.sial_printer.specs.Relined.{relined, relined_indices, relined_arrays, relined_procedures, arrays_from, scalars_from, procedures_from, body_from, relined_tree}
use Rattle.sial_printer.specs.Symbols.{index_name, names, other_names, name_of_index, name_of_array, name_of_scalar, name_of_procedure}
use Rattle.sial_printer.proofs.NamesSpelled.{front, back}
use Rattle.sial_printer.proofs.OperandsStand.{name_of, placed_append, every_appended}
use Rattle.sial_printer.proofs.StatementsStand.{body_stands}
use Rattle.sial_printer.proofs.ScopeLemmas.{Same, same_append, front_found, back_found, entries, index_named, array_named, itself, ordered, all_moved, AreFound, found_same, nothing_found, all_found, looked, entries_named}
use Rattle.sial_printer.proofs.DeclarationsStand.{bound_said, list_at, index_at, same_body_nesting, same_body_count, BeforeArray, BeforeScalar, indices_after, arrays_after, scalars_after, after_scalars, indices_declared, arrays_declared, scalars_declared}

-- words behind declarations are those that tokens give
indices_rest : (s : Scope) (closing : Symbol) (is : List ℕ) (ws rest : List Word) → AreIndices s closing is ws rest → AreSound ws → AreSound rest
indices_rest s closing _ _ _ (AreIndices.last e) h = h.1.1
indices_rest s closing _ _ _ (AreIndices.more {is = is} {ws = ws} {rest = rest} e others) h = indices_rest s closing is ws rest others h.1.1

one_rest : (d e : Declared) (ws rest : List Word) → Declares d e ws rest → AreSound ws → AreSound rest
one_rest d _ _ _ (Declares.segments kind free is_lo is_hi) h = h.1.1.1.1.1.1.1
one_rest d _ _ _ (Declares.subindex free f) h = h.1.1.1.1.1
one_rest d _ _ _ (Declares.scalar free) h = h.1.1.1
one_rest d _ _ _ (Declares.array kind free (AreDims.dims {ws = first} are few)) h = (indices_rest d.scope (symbol.Sign sign.Close) _ first _ are h.1.1.1).1

all_rest : (d f : Declared) (ws rest : List Word) → AreDeclarations d f ws rest → AreSound ws → AreSound rest
all_rest _ _ _ _ (AreDeclarations.none e) h = h
all_rest _ _ _ _ (AreDeclarations.more {d = d} {e = e} {f = f} {ws = ws} {between = between} {rest = rest} one others) h = all_rest e f between rest others (one_rest d e ws between one h)

-- an entry that is there
get_within : {X : Type 0} (xs : List X) (i : ℕ) → i < length xs → (x : X) × (slice_get xs i ≡ Some x)
get_within [] i h = absurd (omega (arith, h))
get_within (x ∷ xs) zero h = (x, refl)
get_within (x ∷ xs) (suc i) h = get_within xs i (omega (arith, h))

found_at : {X : Type 0} (s : Scope) (make : ℕ → Thing) (name : X → List ℕ) (n : ℕ) (xs : List X) (i : ℕ) (x : X) → AreFound s make name n xs → slice_get xs i ≡ Some x → thing_of s (name x) ≡ Some (make (n + i))
found_at s make name n [] i x h e = absurd cc
found_at s make name n (y ∷ ys) zero x h e =
    let k : y ≡ x = cc in
    let m : n ≡ n + 0 = omega arith in
    ap (λ z. thing_of s (name z)) (sym k) ∙ h.0 ∙ ap (λ a. Some (make a)) m
found_at s make name n (y ∷ ys) (suc i) x h e =
    let m : n + 1 + i ≡ n + suc i = omega arith in
    found_at s make name (n + 1) ys i x h.1 e ∙ ap (λ a. Some (make a)) m

-- what holds of all things of a kind
entries_are : {X : Type 0} (P : Thing → Type 0) (make : ℕ → Thing) (name : X → List ℕ) (n : ℕ) (xs : List X) → ((i : ℕ) → P (make i)) → AllByRecursion (λ (m : Entry). P m.thing) (entries make name n xs)
entries_are P make name n [] go = tt
entries_are P make name n (x ∷ xs) go = (go n, entries_are P make name (n + 1) xs go)

abbrev procedure_named : Procedure → List ℕ
procedure_named q = q.name

numbered_entries : (n : ℕ) (ps : List Procedure) → numbered n (names_of ps) ≡ entries thing.Proc procedure_named n ps
numbered_entries n [] = refl
numbered_entries n (q ∷ ps) = ap (λ s. record { name = q.name; thing = thing.Proc n } ∷ s) (numbered_entries (n + 1) ps)

-- no index
abbrev IsOther : Thing → Type 0
IsOther (thing.Index i) = ⊥
IsOther (thing.Array a) = Unit {0}
IsOther (thing.Scalar x) = Unit {0}
IsOther (thing.Proc q) = Unit {0}

in_front : (r : Option Thing) (s behind : Scope) (x : List ℕ) (i : ℕ) → thing_of s x ≡ r → thing_of (s ++ behind) x ≡ Some (thing.Index i) → AllByRecursion (λ (m : Entry). IsOther m.thing) behind → thing_of s x ≡ Some (thing.Index i)
in_front (Some u) s behind x i e found others = e ∙ sym (front_found s behind x u e) ∙ found
in_front None s behind x i e found others = absurd (looked (λ y u. IsOther u) behind x (thing.Index i) others (sym (back_found s behind x e) ∙ found))

-- what a name and its thing have to do with a tree
abbrev IsNamed : Tree → List ℕ → Thing → Type 0
IsNamed p x u = (name_of p u ≡ x) × IsTrue (is_name x) × Has p u

indices_long : (line : ℕ) (xs : List IndexDecl) → length (relined_indices line xs) ≡ length xs
indices_long line [] = refl
indices_long line (x ∷ xs) = ap suc (indices_long (line + 1) xs)

arrays_long : (line : ℕ) (xs : List ArrayDecl) → length (relined_arrays line xs) ≡ length xs
arrays_long line [] = refl
arrays_long line (x ∷ xs) = ap suc (arrays_long (line + 1) xs)

module _ (p : Tree) where
  procs_long : (line : ℕ) (ps : List Procedure) → length (relined_procedures p line ps) ≡ length ps
  procs_long line [] = refl
  procs_long line (q ∷ ps) = ap suc (procs_long (line + length (procedure_lines p q)) ps)

  procs_called : (line : ℕ) (ps : List Procedure) → names_of (relined_procedures p line ps) ≡ names_of ps
  procs_called line [] = refl
  procs_called line (q ∷ ps) = ap (λ xs. q.name ∷ xs) (procs_called (line + length (procedure_lines p q)) ps)

  procs_nested : (line : ℕ) (ps : List Procedure) → AllByRecursion (λ (q : Procedure). body_nesting q.body ≤ most_nesting) ps → AllByRecursion (λ (q : Procedure). body_nesting q.body ≤ most_nesting) (relined_procedures p line ps)
  procs_nested line [] h = tt
  procs_nested line (q ∷ ps) h = (omega (arith, h.0, same_body_nesting p (line + 1) q.body), procs_nested (line + length (procedure_lines p q)) ps h.1)

  procs_counted : (line sum : ℕ) (ps : List Procedure) → fold (λ n (q : Procedure). n + numbering.statements q.body) sum (relined_procedures p line ps) ≡ fold (λ n (q : Procedure). n + numbering.statements q.body) sum ps
  procs_counted line sum [] = refl
  procs_counted line sum (q ∷ ps) =
      procs_counted (line + length (procedure_lines p q)) (sum + numbering.statements (relined p (line + 1) q.body)) ps
      ∙ ap (λ n. fold (λ m (r : Procedure). m + numbering.statements r.body) (sum + n) ps) (same_body_count p (line + 1) q.body)

  -- the first word behind declarations
  procs_begin : (line : ℕ) (ps : List Procedure) (w : Word) (others : List Word) → begins_declaration w.symbol ≡ false → (v : Word) × (vs : List Word) × (placed line (flat_map (procedure_lines p) ps) (w ∷ others) ≡ v ∷ vs) × (begins_declaration v.symbol ≡ false)
  procs_begin line [] w others e = (w, others, refl, e)
  procs_begin line (q ∷ ps) w others e =
      (at line (Key key.Proc), at line (Name q.name) ∷ at line LineEnd ∷ placed (line + 1) ((statements p q.body ++ (Key key.EndProc ∷ Name q.name ∷ []) ∷ []) ++ flat_map (procedure_lines p) ps) (w ∷ others), refl, refl)

  index_is_name : (i : ℕ) → IsTrue (list_all proper_index (enumerate_from 0 p.indices)) → i < length p.indices → IsTrue (is_name (index_name p i))
  index_is_name i proper below =
      let x = get_within p.indices i below in
      subst (λ (o : Option IndexDecl). IsTrue (is_name (name_of_index o))) (sym x.1) (index_at 0 p.indices i x.0 proper x.1)

  -- declarations are lines of names and numbers
  indices_said : (n : ℕ) (xs : List IndexDecl) → ((i : ℕ) → i < length p.indices → IsTrue (is_name (index_name p i))) → n + length xs ≤ length p.indices → IsTrue (list_all proper_index (enumerate_from n xs)) → AreLines (map (index_line p) xs)
  indices_said n [] called few h = tt
  indices_said n (x ∷ xs) called few h =
      let own = front (proper_index (n, x)) (list_all proper_index (enumerate_from (n + 1) xs)) h in
      let ranges : IsTrue (proper_range n x.range) = back (is_line x.line) (proper_range n x.range) (back (is_name x.name) (is_line x.line && proper_range n x.range) own) in (
        one_said x.name x.range n called (omega (arith, few)) (front (is_name x.name) (is_line x.line && proper_range n x.range) own) ranges,
        indices_said (n + 1) xs called (omega (arith, few)) (back (proper_index (n, x)) (list_all proper_index (enumerate_from (n + 1) xs)) h),
      )
    where
      one_said : (name : List ℕ) (r : Range) (n : ℕ) → ((i : ℕ) → i < length p.indices → IsTrue (is_name (index_name p i))) → n < length p.indices → IsTrue (is_name name) → IsTrue (proper_range n r) → IsLine (ranged p name r)
      one_said name (range.Segments of lo hi) n called below h proper = (tt, (h, (tt, (bound_said lo (front (proper_bound lo) (proper_bound hi) proper), (tt, (bound_said hi (back (proper_bound lo) (proper_bound hi) proper), tt))))))
      one_said name (range.Sub i) n called below h proper = (tt, (h, (tt, (called i (omega (arith, below, ltb-true i n proper)), tt))))

  names_said : (is : List ℕ) (ss : List Symbol) → ((i : ℕ) → i < length p.indices → IsTrue (is_name (index_name p i))) → IsTrue (list_all (has_index p) is) → AreSaid ss → AreSaid (names p is ss)
  names_said [] ss called h said = said
  names_said (i ∷ is) ss called h said = (called i (ltb-true i (length p.indices) (front (has_index p i) (list_all (has_index p) is) h)), others_said is ss called (back (has_index p i) (list_all (has_index p) is) h) said)
    where
      others_said : (is : List ℕ) (ss : List Symbol) → ((i : ℕ) → i < length p.indices → IsTrue (is_name (index_name p i))) → IsTrue (list_all (has_index p) is) → AreSaid ss → AreSaid (other_names p is ss)
      others_said [] ss called h said = said
      others_said (i ∷ is) ss called h said = (tt, (called i (ltb-true i (length p.indices) (front (has_index p i) (list_all (has_index p) is) h)), others_said is ss called (back (has_index p i) (list_all (has_index p) is) h) said))

  arrays_said : (xs : List ArrayDecl) → ((i : ℕ) → i < length p.indices → IsTrue (is_name (index_name p i))) → IsTrue (list_all (proper_array p) xs) → AreLines (map (array_line p) xs)
  arrays_said [] called h = tt
  arrays_said (x ∷ xs) called h =
      let own = front (proper_array p x) (list_all (proper_array p) xs) h in
      let fits : has_length most_rank x.dims && list_all (has_index p) x.dims ≡ true = back (is_line x.line) (has_length most_rank x.dims && list_all (has_index p) x.dims) (back (is_name x.name) (is_line x.line && (has_length most_rank x.dims && list_all (has_index p) x.dims)) own) in (
        (tt, (front (is_name x.name) (is_line x.line && (has_length most_rank x.dims && list_all (has_index p) x.dims)) own, (tt, names_said x.dims (symbol.Sign sign.Close ∷ []) called (back (has_length most_rank x.dims) (list_all (has_index p) x.dims) fits) (tt, tt)))),
        arrays_said xs called (back (proper_array p x) (list_all (proper_array p) xs) h),
      )

  scalars_said : (xs : List (List ℕ)) → IsTrue (list_all is_name xs) → AreLines (map scalar_line xs)
  scalars_said [] h = tt
  scalars_said (x ∷ xs) h = ((tt, (front (is_name x) (list_all is_name xs) h, tt)), scalars_said xs (back (is_name x) (list_all is_name xs) h))

  -- procedures that stand
  record ProcsStand (t before : Scope) (n : ℕ) (ps : List Procedure) (rest : List Word) : Type 0 where
    pub said : AreLines (flat_map (procedure_lines p) ps)
    pub is : (line : ℕ) (w : Word) (others : List Word) → begins_proc w.symbol ≡ false → AreProcs t before n (relined_procedures p line ps) (placed line (flat_map (procedure_lines p) ps) (w ∷ others)) (w ∷ others)
    pub sound : AreSound rest

  module _ (s t : Scope) (covers : Covers p s) (carries : (x : List ℕ) (u : Thing) → thing_of s x ≡ Some u → thing_of t (name_of p u) ≡ Some u) (named : (x : List ℕ) (u : Thing) → thing_of s x ≡ Some u → IsTrue (is_name (name_of p u))) where
    procs_stand : (before here : Scope) (n : ℕ) (ps : List Procedure) (ws rest : List Word) → AreProcs s before n ps ws rest → Same here before → AreSound ws → ProcsStand t here n ps rest
    procs_stand _ here _ _ _ _ (AreProcs.none e) same h = record { said = tt; is = λ line w others next. AreProcs.none next; sound = h }
    procs_stand _ here _ _ _ _ (AreProcs.more {before = before} {n = n} {name = x} {body = b} {others = qs} {ws = ws} {ends = ends} {between = between} {rest = rest} free is end others) same h =
        let o = body_stands p s t covers carries named b ws _ is h.1.1.1 in
        let n_entry : Entry = record { name = x; thing = thing.Proc n } in
        let q : Procedure = record { name = x; body = b } in
        let r = procs_stand (before ++ n_entry ∷ []) (here ++ n_entry ∷ []) (n + 1) qs between rest others (same_append here before (n_entry ∷ []) same) (named_end_sound p s covers x ends between end (body_proper p s covers b ws _ is h.1.1.1).sound.1) in
        let last : List (List Symbol) = (Key key.EndProc ∷ Name x ∷ []) ∷ [] in
        record {
          said = ((tt, (h.1.0.1, tt)), every_appended IsLine (statements p b ++ last) (flat_map (procedure_lines p) qs) (every_appended IsLine (statements p b) last o.said ((tt, (h.1.0.1, tt)), tt)) r.said);
          is = λ line w others_behind next.
              let behind = placed (line + length (procedure_lines p q)) (flat_map (procedure_lines p) qs) (w ∷ others_behind) in
              subst (λ (vs : List Word). AreProcs t here n (relined_procedures p line (q ∷ qs)) vs (w ∷ others_behind)) (sym (placed_append line (procedure_lines p q) (flat_map (procedure_lines p) qs) (w ∷ others_behind)))
              (subst (λ (vs : List Word). AreProcs t here n (relined_procedures p line (q ∷ qs)) (at line (Key key.Proc) ∷ at line (Name x) ∷ at line LineEnd ∷ vs) (w ∷ others_behind)) (sym (placed_append (line + 1) (statements p b) last behind))
              (AreProcs.more (same x ∙ free) (o.is (line + 1) (line + 1 + length (statements p b)) (Key key.EndProc) _ refl) IsNamedEnd.named (r.is (line + length (procedure_lines p q)) w others_behind next)));
          sound = r.sound;
        }

-- a program that stands with its lines
pub record ProgramStands (p : Tree) : Type 0 where
  pub said : AreLines (program_lines p)
  pub is : (line : ℕ) → IsProgram (relined_tree p) (placed 1 (program_lines p) (at line End ∷ []))

pub program_stands : (p : Tree) (ws : List Word) → AreSound ws → IsProper p → IsProgram p ws → ProgramStands p
program_stands _ _ h proper (IsProgram.program {name = title} {d = d} {procs = ps} {body = b} {ws = ws} {first = first} {second = second} {ends = ends} declared are body_is end within) =
    let p : Tree = tree_of title d ps b in
    let i0 : Scope = entries thing.Index index_named 0 d.indices in
    let a0 : Scope = entries thing.Array array_named 0 d.arrays in
    let x0 : Scope = entries thing.Scalar itself 0 d.scalars in
    let whole : Scope = ordered d in
    let n0 : Scope = numbered 0 (names_of ps) in
    let s : Scope = d.scope ++ n0 in
    let t : Scope = whole ++ n0 in
    let same0 : Same whole d.scope = all_moved nothing d ws first declared (λ x. refl) in
    let same : Same t s = same_append whole d.scope n0 same0 in
    let found = all_found nothing d ws first declared nothing_found in
    let found_indices = found_same d.scope whole thing.Index index_named 0 d.indices same0 found.indices in
    let found_arrays = found_same d.scope whole thing.Array array_named 0 d.arrays same0 found.arrays in
    let found_scalars = found_same d.scope whole thing.Scalar itself 0 d.scalars same0 found.scalars in
    let named_indices : AllByRecursion (λ (m : Entry). IsNamed p m.name m.thing) i0 = entries_named (IsNamed p) thing.Index index_named d.indices [] d.indices
    (λ i x e. (ap name_of_index e, index_at 0 d.indices i x proper.indices e, lt-ltb i (length d.indices) (slice_get_within d.indices i x e))) refl in
    let named_arrays : AllByRecursion (λ (m : Entry). IsNamed p m.name m.thing) a0 = entries_named (IsNamed p) thing.Array array_named d.arrays [] d.arrays
    (λ i x e. (ap name_of_array e, front (is_name x.name) (is_line x.line && (has_length most_rank x.dims && list_all (has_index p) x.dims)) (list_at (proper_array p) d.arrays i x proper.arrays e), lt-ltb i (length d.arrays) (slice_get_within d.arrays i x e))) refl in
    let named_scalars : AllByRecursion (λ (m : Entry). IsNamed p m.name m.thing) x0 = entries_named (IsNamed p) thing.Scalar itself d.scalars [] d.scalars
    (λ i x e. (ap name_of_scalar e, list_at is_name d.scalars i x proper.scalars e, lt-ltb i (length d.scalars) (slice_get_within d.scalars i x e))) refl in
    let named_procs : AllByRecursion (λ (m : Entry). IsNamed p m.name m.thing) n0 = subst (AllByRecursion (λ (m : Entry). IsNamed p m.name m.thing)) (sym (numbered_entries 0 ps)) (entries_named (IsNamed p) thing.Proc procedure_named ps [] ps
    (λ i q e. (ap name_of_procedure e, front (is_name q.name) (proper_depth p q.body) (list_at (proper_procedure p) ps i q proper.procedures e), lt-ltb i (length ps) (slice_get_within ps i q e))) refl) in
    let named_all : AllByRecursion (λ (m : Entry). IsNamed p m.name m.thing) t = every_appended _ whole n0 (every_appended _ i0 (a0 ++ x0) named_indices (every_appended _ a0 x0 named_arrays named_scalars)) named_procs in
    let told : (x : List ℕ) (u : Thing) → thing_of s x ≡ Some u → IsNamed p x u = λ x u e. looked (IsNamed p) t x u named_all (same x ∙ e) in
    let carries : (x : List ℕ) (u : Thing) → thing_of s x ≡ Some u → thing_of t (name_of p u) ≡ Some u = λ x u e. ap (thing_of t) (told x u e).0 ∙ same x ∙ e in
    let named : (x : List ℕ) (u : Thing) → thing_of s x ≡ Some u → IsTrue (is_name (name_of p u)) = λ x u e. subst (λ (y : List ℕ). IsTrue (is_name y)) (sym (told x u e).0) (told x u e).1 in
    let covers : Covers p s = λ x u e. (told x u e).2 in
    let o = procs_stand p s t covers carries named d.scope whole 0 ps first second are same0 (all_rest nothing d ws first declared h.1.1.1) in
    let q = body_stands p s t covers carries named b second _ body_is o.sound in
    let called : (i : ℕ) → i < length p.indices → IsTrue (is_name (index_name p i)) = λ i below. index_is_name p i proper.indices below in
    let last : List (List Symbol) = (Key key.EndSial ∷ Name title ∷ []) ∷ [] in
    let i_lines = map (index_line p) d.indices in
    let a_lines = map (array_line p) d.arrays in
    let x_lines = map scalar_line d.scalars in
    let p_lines = flat_map (procedure_lines p) ps in
    let b_lines = statements p b in
    let tail : List (List Symbol) = p_lines ++ (b_lines ++ last) in
    record {
      said = (
        (tt, (proper.name, tt)),
        every_appended IsLine (declarations p) tail
            (every_appended IsLine i_lines (a_lines ++ x_lines) (indices_said p 0 d.indices called (omega arith) proper.indices) (every_appended IsLine a_lines x_lines (arrays_said p d.arrays called proper.arrays) (scalars_said p d.scalars proper.scalars)))
            (every_appended IsLine p_lines (b_lines ++ last) o.said (every_appended IsLine b_lines last q.said ((tt, (proper.name, tt)), tt))),
      );
      is = λ line.
          let ending : List Word = at line End ∷ [] in
          let z = body_from p + length b_lines in
          let close : List Word = at z (Name title) ∷ at z LineEnd ∷ ending in
          let body_words = placed (body_from p) b_lines (at z (Key key.EndSial) ∷ close) in
          let body_begin = q.begin (body_from p) z (Key key.EndSial) close (refl, refl, refl) in
          let proc_words = placed (procedures_from p) p_lines body_words in
          let proc_begin = procs_begin p (procedures_from p) ps body_begin.0 body_begin.1 body_begin.3.2 in
          let g : Declared = record { scope = whole; indices = relined_indices 2 d.indices; arrays = relined_arrays (arrays_from p) d.arrays; scalars = d.scalars } in
          let e1 : Declared = record { scope = i0; indices = relined_indices 2 d.indices; arrays = []; scalars = [] } in
          let e2 : Declared = record { scope = i0 ++ a0; indices = relined_indices 2 d.indices; arrays = relined_arrays (arrays_from p) d.arrays; scalars = [] } in
          let proc_start : proc_words ≡ proc_begin.0 ∷ proc_begin.1 = ap (placed (procedures_from p) p_lines) body_begin.2 ∙ proc_begin.2 in
          let none : AreDeclarations g g proc_words proc_words = subst (λ (vs : List Word). AreDeclarations g g vs vs) (sym proc_start) (AreDeclarations.none proc_begin.3) in
          let all_scalars : after_scalars e2 d.scalars ≡ g = scalars_after e2 d.scalars ∙ ap (λ v. record { scope = v; indices = relined_indices 2 d.indices; arrays = relined_arrays (arrays_from p) d.arrays; scalars = d.scalars }) (append_assoc i0 a0 x0) in
          let by_scalars : AreDeclarations e2 g (placed (scalars_from p) x_lines proc_words) proc_words =
          scalars_declared p whole d.scalars e2 0 (scalars_from p) [] g proc_words proc_words refl (sym (append_assoc i0 a0 x0) ∙ ap (λ v. (i0 ++ a0) ++ v) (sym (append-nil x0))) found_scalars
          (every_appended _ i0 a0 (entries_are (BeforeScalar 0) thing.Index index_named 0 d.indices (λ i. tt)) (entries_are (BeforeScalar 0) thing.Array array_named 0 d.arrays (λ i. tt)))
          (subst (λ (e : Declared). AreDeclarations e g proc_words proc_words) (sym all_scalars) none) in
          let prior : (i : ℕ) → i < length p.indices → thing_of i0 (index_name p i) ≡ Some (thing.Index i) = λ i below.
          let x = get_within d.indices i below in
          let k : 0 + i ≡ i = omega arith in
          in_front (thing_of i0 (index_name p i)) i0 (a0 ++ x0) (index_name p i) i refl (ap (λ o. thing_of whole (name_of_index o)) x.1 ∙ found_at whole thing.Index index_named 0 d.indices i x.0 found_indices x.1 ∙ ap (λ m. Some (thing.Index m)) k)
          (every_appended _ a0 x0 (entries_are IsOther thing.Array array_named 0 d.arrays (λ j. tt)) (entries_are IsOther thing.Scalar itself 0 d.scalars (λ j. tt))) in
          let by_arrays : AreDeclarations e1 g (placed (arrays_from p) a_lines (placed (scalars_from p) x_lines proc_words)) proc_words =
          arrays_declared p whole d.arrays e1 0 (arrays_from p) x0 g (placed (scalars_from p) x_lines proc_words) proc_words refl refl found_arrays
          (entries_are (BeforeArray 0) thing.Index index_named 0 d.indices (λ i. tt)) prior proper.arrays
          (subst (λ (e : Declared). AreDeclarations e g (placed (scalars_from p) x_lines proc_words) proc_words) (sym (arrays_after (arrays_from p) e1 d.arrays)) by_scalars) in
          let by_indices : AreDeclarations nothing g (placed 2 i_lines (placed (arrays_from p) a_lines (placed (scalars_from p) x_lines proc_words))) proc_words =
          indices_declared p whole [] d.indices nothing 0 2 (a0 ++ x0) g (placed (arrays_from p) a_lines (placed (scalars_from p) x_lines proc_words)) proc_words refl refl refl refl found_indices tt (λ i below. absurd (omega (arith, below))) proper.indices
          (subst (λ (e : Declared). AreDeclarations e g (placed (arrays_from p) a_lines (placed (scalars_from p) x_lines proc_words)) proc_words) (sym (indices_after 2 nothing d.indices)) by_arrays) in
          let behind_declarations : placed (procedures_from p) tail ending ≡ proc_words = placed_append (procedures_from p) p_lines (b_lines ++ last) ending ∙ ap (placed (procedures_from p) p_lines) (placed_append (body_from p) b_lines last ending) in
          let all_words : placed 2 (declarations p ++ tail) ending ≡ placed 2 i_lines (placed (arrays_from p) a_lines (placed (scalars_from p) x_lines proc_words)) =
          ap (λ ls. placed 2 ls ending) (append_assoc i_lines (a_lines ++ x_lines) tail ∙ ap (λ ls. i_lines ++ ls) (append_assoc a_lines x_lines tail))
          ∙ placed_append 2 i_lines (a_lines ++ (x_lines ++ tail)) ending
          ∙ ap (placed 2 i_lines) (placed_append (arrays_from p) a_lines (x_lines ++ tail) ending
          ∙ ap (placed (arrays_from p) a_lines) (placed_append (scalars_from p) x_lines tail ending ∙ ap (placed (scalars_from p) x_lines) behind_declarations)) in
          let qs = relined_procedures p (procedures_from p) ps in
          let same_names : names_of ps ≡ names_of qs = sym (procs_called p (procedures_from p) ps) in
          let by_procs : AreProcs t whole 0 qs proc_words body_words =
          subst (λ (vs : List Word). AreProcs t whole 0 qs (placed (procedures_from p) p_lines vs) vs) (sym body_begin.2) (o.is (procedures_from p) body_begin.0 body_begin.1 body_begin.3.1) in
          subst (λ (vs : List Word). IsProgram (relined_tree p) (at 1 (Key key.Sial) ∷ at 1 (Name title) ∷ at 1 LineEnd ∷ vs)) (sym all_words)
          (IsProgram.program by_indices
          (subst (λ (xs : List (List ℕ)). AreProcs (whole ++ numbered 0 xs) whole 0 qs proc_words body_words) same_names by_procs)
          (subst (λ (xs : List (List ℕ)). IsBody (whole ++ numbered 0 xs) (relined p (body_from p) b) body_words (at z (Key key.EndSial) ∷ close)) same_names (q.is (body_from p) z (Key key.EndSial) close refl))
          IsNamedEnd.named
          (record {
            indices = omega (arith, within.indices, indices_long 2 d.indices);
            arrays = omega (arith, within.arrays, arrays_long (arrays_from p) d.arrays);
            scalars = within.scalars;
            procedures = omega (arith, within.procedures, procs_long p (procedures_from p) ps);
            statements = omega (arith, within.statements, same_body_count p (body_from p) b, procs_counted p (procedures_from p) 0 ps);
            nesting = omega (arith, within.nesting, same_body_nesting p (body_from p) b);
            nestings = procs_nested p (procedures_from p) ps within.nestings;
          }));
    }
