-- A program of sound words has a proper tree.
use Rattle.std.proofs.Common.{◌≡◌, ℕ, suc, ◌+◌, ◌<◌, ◌≤◌, List, [], ◌∷◌, ◌++◌, Bool, true, false, ◌&&◌, cond, nat_lt, nat_le, length, Option, Some, refl, ap, ◌∙◌, subst, arith}
use Rattle.std.specs.Prelude.{IsTrue}
use Rattle.std.specs.List.{AllByRecursion, list_all, flat_map, enumerate_from}
use Rattle.std.specs.Str.{bytes_eq}
use Rattle.std.proofs.lemmas.Bool.{lt-ltb, le-leb}
use Rattle.std.proofs.lemmas.List.{length-append}
use Rattle.sial_syntax.specs.Limits.{most_nesting, most_rank, past_lines, past_numbers}
use Rattle.sial_syntax.specs.Names.{is_name}
use Rattle.sial_syntax.specs.Proper.{IsProper, is_line, has_index, has_length, proper_bound, proper_index, proper_array, proper_body, proper_procedure, proper_numbers, body_nesting}
use Rattle.sial_syntax.specs.Tree.{Tree, Procedure}
use Rattle.sial_syntax.specs.Visits.{body_visits}
use Rattle.sial_syntax.specs.declared.array.ArrayDecl.{ArrayDecl}
use Rattle.sial_syntax.specs.declared.index.Bound.{Bound}
use Rattle.sial_syntax.specs.declared.index.IndexDecl.{IndexDecl}
use Rattle.sial_syntax.specs.declared.index.Range.TheVariants as range
use Rattle.sial_parser.specs.Grammar.{IsBound, AreDims, Declares, AreDeclarations, AreProcs, IsProgram, numbered, names_of, tree_of}
use Rattle.sial_parser.specs.Scope.{Scope, Entry, thing_of, Declared, nothing}
use Rattle.sial_parser.specs.Sound.{AreSound, IsSoundSymbol}
use Rattle.sial_parser.specs.declared.thing.Thing.{Thing}
use Rattle.sial_parser.specs.declared.thing.Thing.TheVariants as thing
use Rattle.sial_parser.specs.declared.word.Symbol.{Symbol}
use Rattle.sial_parser.specs.declared.word.Word.{Word}
use Rattle.sial_parser.proofs.ProgramAgain.{all_below}
use Rattle.sial_parser.proofs.ProperBodies.{body_proper, all_appended}
use Rattle.sial_parser.proofs.ProperOperands.{both, Has, Covers, fits_length, indices_proper, named_end_sound}

-- all of two lists
every_appended : {X : Type 0} (P : X → Type 0) (xs ys : List X) → AllByRecursion P xs → AllByRecursion P ys → AllByRecursion P (xs ++ ys)
every_appended P [] ys h g = g
every_appended P (x ∷ xs) ys h g = (h.0, every_appended P xs ys h.1 g)

every_mapped : {X : Type 0} (P Q : X → Type 0) → ((x : X) → P x → Q x) → (xs : List X) → AllByRecursion P xs → AllByRecursion Q xs
every_mapped P Q go [] h = tt
every_mapped P Q go (x ∷ xs) h = (go x h.0, every_mapped P Q go xs h.1)

numbered_last : {X : Type 0} (n : ℕ) (xs : List X) (x : X) → enumerate_from n (xs ++ x ∷ []) ≡ enumerate_from n xs ++ (n + length xs, x) ∷ []
numbered_last n [] x = let k : n ≡ n + 0 = omega arith in ap (λ m. (m, x) ∷ []) k
numbered_last n (y ∷ ys) x = let k : n + 1 + length ys ≡ n + suc (length ys) = omega arith in ap (λ r. (n, y) ∷ r) (numbered_last (n + 1) ys x ∙ ap (λ m. enumerate_from (n + 1) ys ++ (m, x) ∷ []) k)

-- what all entries satisfy, a name that is looked up does
found_one : (Q : Thing → Type 0) (b : Bool) (u t : Thing) (r : Option Thing) → Q u → (r ≡ Some t → Q t) → cond b (Some u) r ≡ Some t → Q t
found_one Q true u t r h go e = let k : u ≡ t = cc in subst Q k h
found_one Q false u t r h go e = go e

found_all : (Q : Thing → Type 0) (s : Scope) (x : List ℕ) (t : Thing) → AllByRecursion (λ (e : Entry). Q e.thing) s → thing_of s x ≡ Some t → Q t
found_all Q [] x t h e = absurd cc
found_all Q (n ∷ s) x t h e = found_one Q (bytes_eq x n.name) n.thing t (thing_of s x) h.0 (λ f. found_all Q s x t h.1 f) e

-- an index before so many
abbrev IndexBelow : ℕ → Thing → Type 0
IndexBelow n (thing.Index i) = i < n
IndexBelow n (thing.Array a) = Unit {0}
IndexBelow n (thing.Scalar x) = Unit {0}
IndexBelow n (thing.Proc q) = Unit {0}

later : (m n : ℕ) → m ≤ n → (t : Thing) → IndexBelow m t → IndexBelow n t
later m n few (thing.Index i) h = omega arith
later m n few (thing.Array a) h = tt
later m n few (thing.Scalar x) h = tt
later m n few (thing.Proc q) h = tt

bound_proper : (b : Bound) (what : Symbol) → IsBound b what → IsSoundSymbol what → IsTrue (proper_bound b)
bound_proper _ _ (IsBound.number {n = n}) h = lt-ltb n past_numbers h
bound_proper _ _ IsBound.named h = h

module _ (p : Tree) where
  -- declarations that are proper, and whose names are in the tree
  record Well (d : Declared) : Type 0 where
    pub scope : AllByRecursion (λ (e : Entry). Has p e.thing) d.scope
    pub own : AllByRecursion (λ (e : Entry). IndexBelow (length d.indices) e.thing) d.scope
    pub indices : IsTrue (list_all proper_index (enumerate_from 0 d.indices))
    pub arrays : IsTrue (list_all (proper_array p) d.arrays)
    pub scalars : IsTrue (list_all is_name d.scalars)

  -- no more of each than the tree has
  record Within (d : Declared) : Type 0 where
    pub indices : length d.indices ≤ length p.indices
    pub arrays : length d.arrays ≤ length p.arrays
    pub scalars : length d.scalars ≤ length p.scalars

  one_index : (d : Declared) (x : IndexDecl) → Well d → length d.indices < length p.indices → IsTrue (proper_index (length d.indices, x))
      → Well (record { scope = d.scope ++ record { name = x.name; thing = thing.Index (length d.indices) } ∷ []; indices = d.indices ++ x ∷ []; arrays = d.arrays; scalars = d.scalars })
  one_index d x w room is =
      let long : length (d.indices ++ x ∷ []) ≡ length d.indices + 1 = length-append d.indices (x ∷ []) in
      let last : enumerate_from 0 (d.indices ++ x ∷ []) ≡ enumerate_from 0 d.indices ++ (length d.indices, x) ∷ [] = numbered_last 0 d.indices x ∙ (let k : 0 + length d.indices ≡ length d.indices = omega arith in ap (λ m. enumerate_from 0 d.indices ++ (m, x) ∷ []) k) in
      record {
        scope = every_appended _ d.scope _ w.scope (lt-ltb (length d.indices) (length p.indices) room, tt);
        own = every_appended _ d.scope _ (every_mapped _ _ (λ e h. later (length d.indices) (length (d.indices ++ x ∷ [])) (omega (arith, long)) e.thing h) d.scope w.own) (omega (arith, long), tt);
        indices = ap (list_all proper_index) last ∙ all_appended proper_index (enumerate_from 0 d.indices) ((length d.indices, x) ∷ []) w.indices (both (proper_index (length d.indices, x)) true is refl);
        arrays = w.arrays;
        scalars = w.scalars;
      }

  declared_well : (d e : Declared) (ws rest : List Word) → Declares d e ws rest → Within e → Well d → AreSound ws → Well e × AreSound rest
  declared_well d _ _ _ (Declares.segments {name = x} {lo = lo} {hi = hi} {first = first} {last = last} {l = l} kind free is_lo is_hi) room w h =
      let i : IndexDecl = record { name = x; line = l; range = range.Segments _ lo hi } in (
        one_index d i w (omega (arith, room.indices, length-append d.indices (i ∷ [])))
            (both (is_name x) (is_line l && (proper_bound lo && proper_bound hi)) h.1.0.1
            (both (is_line l) (proper_bound lo && proper_bound hi) (lt-ltb l past_lines h.0.0) (both (proper_bound lo) (proper_bound hi) (bound_proper lo first is_lo h.1.1.1.0.1) (bound_proper hi last is_hi h.1.1.1.1.1.0.1)))),
        h.1.1.1.1.1.1.1,
      )
  declared_well d _ _ _ (Declares.subindex {name = x} {super = y} {i = j} {l = l} free f) room w h =
      let i : IndexDecl = record { name = x; line = l; range = range.Sub j } in (
        one_index d i w (omega (arith, room.indices, length-append d.indices (i ∷ [])))
            (both (is_name x) (is_line l && nat_lt j (length d.indices)) h.1.0.1
            (both (is_line l) (nat_lt j (length d.indices)) (lt-ltb l past_lines h.0.0) (lt-ltb j (length d.indices) (found_all (IndexBelow (length d.indices)) d.scope y (thing.Index j) w.own f)))),
        h.1.1.1.1.1,
      )
  declared_well d _ _ _ (Declares.scalar {name = x} {l = l} free) room w h =
      let long : length (d.scalars ++ x ∷ []) ≡ length d.scalars + 1 = length-append d.scalars (x ∷ []) in (
        record {
          scope = every_appended _ d.scope _ w.scope (lt-ltb (length d.scalars) (length p.scalars) (omega (arith, room.scalars, long)), tt);
          own = every_appended _ d.scope _ w.own (tt, tt);
          indices = w.indices;
          arrays = w.arrays;
          scalars = all_appended is_name d.scalars (x ∷ []) w.scalars (both (is_name x) true h.1.0.1 refl);
        },
        h.1.1.1,
      )
  declared_well d _ _ _ (Declares.array {of = of} {name = x} {is = is} {l = l} {ws = ws} kind free (AreDims.dims {ws = first} are few)) room w h =
      let a : ArrayDecl = record { name = x; line = l; kind = of; dims = is } in
      let long : length (d.arrays ++ a ∷ []) ≡ length d.arrays + 1 = length-append d.arrays (a ∷ []) in
      let o = indices_proper p d.scope (λ y t e. found_all (Has p) d.scope y t w.scope e) _ is first _ are h.1.1.1 in (
        record {
          scope = every_appended _ d.scope _ w.scope (lt-ltb (length d.arrays) (length p.arrays) (omega (arith, room.arrays, long)), tt);
          own = every_appended _ d.scope _ w.own (tt, tt);
          indices = w.indices;
          arrays = all_appended (proper_array p) d.arrays (a ∷ []) w.arrays (both (proper_array p a) true
              (both (is_name x) (is_line l && (has_length most_rank is && list_all (has_index p) is)) h.1.0.1
              (both (is_line l) (has_length most_rank is && list_all (has_index p) is) (lt-ltb l past_lines h.0.0) (both (has_length most_rank is) (list_all (has_index p) is) (fits_length most_rank is o.some few) o.all))) refl);
          scalars = w.scalars;
        },
        o.sound.1,
      )

  all_well : (d f : Declared) (ws rest : List Word) → AreDeclarations d f ws rest → Within f → Well d → AreSound ws → Well f × AreSound rest
  all_well _ _ _ _ (AreDeclarations.none e) room w h = (w, h)
  all_well _ _ _ _ (AreDeclarations.more {d = d} {e = e} {f = f} {ws = ws} {between = between} {rest = rest} one others) room w h =
      let below = all_below e f between rest others in
      let o = declared_well d e ws between one (record { indices = omega (arith, below.indices, room.indices); arrays = omega (arith, below.arrays, room.arrays); scalars = omega (arith, below.scalars, room.scalars) }) w h in
      all_well e f between rest others room o.0 o.1

  -- the procedures are in the tree
  numbered_has : (n : ℕ) (xs : List (List ℕ)) → n + length xs ≤ length p.procedures → AllByRecursion (λ (e : Entry). Has p e.thing) (numbered n xs)
  numbered_has n [] few = tt
  numbered_has n (x ∷ xs) few = (lt-ltb n (length p.procedures) (omega (arith, few)), numbered_has (n + 1) xs (omega (arith, few)))

  -- procedures that are proper
  record Procs (ps : List Procedure) (rest : List Word) : Type 0 where
    pub all : IsTrue (list_all (proper_procedure p) ps)
    pub numbers : IsTrue (list_all proper_numbers (flat_map (λ (q : Procedure). body_visits q.body) ps))
    pub sound : AreSound rest

  procs_proper : (s before : Scope) (n : ℕ) (ps : List Procedure) (ws rest : List Word) → Covers p s → AreProcs s before n ps ws rest → AllByRecursion (λ (q : Procedure). body_nesting q.body ≤ most_nesting) ps → AreSound ws → Procs ps rest
  procs_proper _ _ _ _ _ _ covers (AreProcs.none e) deep h = record { all = refl; numbers = refl; sound = h }
  procs_proper s _ _ _ _ _ covers (AreProcs.more {before = before} {n = n} {name = x} {body = b} {others = ps} {ws = ws} {ends = ends} {between = between} {rest = rest} free is end others) deep h =
      let o = body_proper p s covers b ws _ is h.1.1.1 in
      let q = procs_proper s _ _ ps between rest covers others deep.1 (named_end_sound p s covers x ends between end o.sound.1) in
      record {
        all = both (is_name x && (proper_body p b && nat_le (body_nesting b) most_nesting)) (list_all (proper_procedure p) ps)
            (both (is_name x) (proper_body p b && nat_le (body_nesting b) most_nesting) h.1.0.1 (both (proper_body p b) (nat_le (body_nesting b) most_nesting) o.body (le-leb (body_nesting b) most_nesting deep.0))) q.all;
        numbers = all_appended proper_numbers (body_visits b) (flat_map (λ (q : Procedure). body_visits q.body) ps) (o.numbers [] false) q.numbers;
        sound = q.sound;
      }

names_long : (ps : List Procedure) → length (names_of ps) ≡ length ps
names_long [] = refl
names_long (q ∷ ps) = ap suc (names_long ps)

-- the tree of sound words is proper
pub program_proper : (p : Tree) (ws : List Word) → AreSound ws → IsProgram p ws → IsProper p
program_proper _ _ h (IsProgram.program {name = title} {d = d} {procs = ps} {body = b} {ws = ws} {first = first} {second = second} declared are body_is end within) =
    let p : Tree = tree_of title d ps b in
    let s : Scope = d.scope ++ numbered 0 (names_of ps) in
    let start : Well p nothing = record { scope = tt; own = tt; indices = refl; arrays = refl; scalars = refl } in
    let room : Within p d = record { indices = omega arith; arrays = omega arith; scalars = omega arith } in
    let w = all_well p nothing d ws first declared room start h.1.1.1 in
    let entries = every_appended (λ (e : Entry). Has p e.thing) d.scope (numbered 0 (names_of ps)) w.0.scope (numbered_has p 0 (names_of ps) (omega (arith, names_long ps))) in
    let covers : Covers p s = λ x t e. found_all (Has p) s x t entries e in
    let o = procs_proper p s d.scope 0 ps first second covers are within.nestings w.1 in
    let q = body_proper p s covers b second _ body_is o.sound in
    record {
      name = h.1.0.1;
      indices = w.0.indices;
      arrays = w.0.arrays;
      scalars = w.0.scalars;
      procedures = o.all;
      body = both (proper_body p b) (nat_le (body_nesting b) most_nesting) q.body (le-leb (body_nesting b) most_nesting within.nesting);
      numbers = all_appended proper_numbers (body_visits b) (flat_map (λ (q : Procedure). body_visits q.body) ps) (q.numbers [] false) o.numbers;
      few_indices = within.indices;
      few_arrays = within.arrays;
      few_scalars = within.scalars;
      few_procedures = within.procedures;
      few_statements = within.statements;
    }
