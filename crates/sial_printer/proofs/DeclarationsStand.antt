-- The declarations of a program, each kind by itself, declare the same.
use Rattle.std.proofs.Common.{◌≡◌, ℕ, zero, suc, ◌+◌, ◌<◌, ◌≤◌, List, [], ◌∷◌, ◌++◌, Bool, true, false, ◌&&◌, max, nat_lt, nat_le, map, length, Some, slice_get, refl, sym, ap, ◌∙◌, subst, append_assoc, append-nil, arith}
use Rattle.std.specs.Prelude.{IsTrue}
use Rattle.std.specs.List.{AllByRecursion, list_all, enumerate_from}
use Rattle.std.proofs.lemmas.Bool.{ltb-true, ltb-false, leb-true}
use Rattle.std.proofs.lemmas.List.{length-append}
use Rattle.sial_syntax.specs.Limits.{most_rank, past_numbers}
use Rattle.sial_syntax.specs.Names.{is_name}
use Rattle.sial_syntax.specs.Numbering as numbering
use Rattle.sial_syntax.specs.Proper.{is_line, has_index, has_length, proper_bound, proper_range, proper_index, proper_array, nesting, body_nesting}
use Rattle.sial_syntax.specs.Tree.{Tree, Block, End as Ended, Then, Plain, Do, DoIn, Pardo, If, IfElse}
use Rattle.sial_syntax.specs.declared.array.ArrayDecl.{ArrayDecl}
use Rattle.sial_syntax.specs.declared.array.ArrayKind.{ArrayKind}
use Rattle.sial_syntax.specs.declared.array.ArrayKind.TheVariants as arrays
use Rattle.sial_syntax.specs.declared.index.Bound.{Bound}
use Rattle.sial_syntax.specs.declared.index.Bound.TheVariants as bound
use Rattle.sial_syntax.specs.declared.index.IndexDecl.{IndexDecl}
use Rattle.sial_syntax.specs.declared.index.Kind.{Kind}
use Rattle.sial_syntax.specs.declared.index.Kind.TheVariants as kind
use Rattle.sial_syntax.specs.declared.index.Range.{Range}
use Rattle.sial_syntax.specs.declared.index.Range.TheVariants as range
use Rattle.sial_parser.specs.Grammar.{at, IsKind, IsArrayKind, IsBound, AreIndices, AreDims, Declares, AreDeclarations}
use Rattle.sial_parser.specs.Scope.{Scope, Entry, IsFree, thing_of, Declared, with_index, with_array, with_scalar}
use Rattle.sial_parser.specs.declared.sign.Sign.TheVariants as sign
use Rattle.sial_parser.specs.declared.thing.Thing.{Thing}
use Rattle.sial_parser.specs.declared.thing.Thing.TheVariants as thing
use Rattle.sial_parser.specs.declared.word.Symbol.TheVariants.{Key, Name, LineEnd, End}
use Rattle.sial_parser.specs.declared.word.Symbol.TheVariants as symbol
use Rattle.sial_parser.specs.declared.word.Word.{Word}
use Rattle.sial_printer.specs.Lines.{index_line, ranged, array_line, scalar_line, statement, statements}
use Rattle.sial_printer.specs.Placed.{placed_line, placed, IsSaid}
use Rattle.sial_printer.specs.Relined.{relined_form, relined, relined_indices, relined_arrays}
use Rattle.sial_printer.specs.Symbols.{index_name, name_of_index, bound_symbol, kind_key, array_key, names}
use Rattle.sial_printer.proofs.NamesSpelled.{front, back}
use Rattle.sial_printer.proofs.OperandsStand.{every_appended}
use Rattle.sial_printer.proofs.ScopeLemmas.{front_found, last_found, entries, index_named, array_named, itself, AreFound, free_here, get_at}

-- words of declarations are those of the grammar
kind_is : (of : Kind) → IsKind of (kind_key of)
kind_is kind.Ao = IsKind.ao
kind_is kind.Mo = IsKind.mo
kind_is kind.Moa = IsKind.moa
kind_is kind.Mob = IsKind.mob
kind_is kind.Index = IsKind.index

array_kind_is : (of : ArrayKind) → IsArrayKind of (array_key of)
array_kind_is arrays.Static = IsArrayKind.static
array_kind_is arrays.Temp = IsArrayKind.temp
array_kind_is arrays.Local = IsArrayKind.local
array_kind_is arrays.Distributed = IsArrayKind.distributed
array_kind_is arrays.Served = IsArrayKind.served

bound_is : (b : Bound) → IsBound b (bound_symbol b)
bound_is (bound.Number n) = IsBound.number
bound_is (bound.Named x) = IsBound.named

pub bound_said : (b : Bound) → IsTrue (proper_bound b) → IsSaid (bound_symbol b)
bound_said (bound.Number n) h = ltb-true n past_numbers h
bound_said (bound.Named x) h = h

every_mapped : {X : Type 0} (P Q : X → Type 0) → ((x : X) → P x → Q x) → (xs : List X) → AllByRecursion P xs → AllByRecursion Q xs
every_mapped P Q go [] h = tt
every_mapped P Q go (x ∷ xs) h = (go x h.0, every_mapped P Q go xs h.1)

-- an entry of a list whose entries all pass a test
pub list_at : {X : Type 0} (test : X → Bool) (xs : List X) (i : ℕ) (x : X) → list_all test xs ≡ true → slice_get xs i ≡ Some x → test x ≡ true
list_at test [] i x h e = absurd cc
list_at test (y ∷ ys) zero x h e = let k : y ≡ x = cc in ap test (sym k) ∙ front (test y) (list_all test ys) h
list_at test (y ∷ ys) (suc i) x h e = list_at test ys i x (back (test y) (list_all test ys) h) e

pub index_at : (n : ℕ) (xs : List IndexDecl) (i : ℕ) (x : IndexDecl) → list_all proper_index (enumerate_from n xs) ≡ true → slice_get xs i ≡ Some x → IsTrue (is_name x.name)
index_at n [] i x h e = absurd cc
index_at n (y ∷ ys) zero x h e =
    let k : y ≡ x = cc in
    subst (λ (z : IndexDecl). IsTrue (is_name z.name)) k (front (is_name y.name) (is_line y.line && proper_range n y.range) (front (proper_index (n, y)) (list_all proper_index (enumerate_from (n + 1) ys)) h))
index_at n (y ∷ ys) (suc i) x h e = index_at (n + 1) ys i x (back (proper_index (n, y)) (list_all proper_index (enumerate_from (n + 1) ys)) h) e

-- as many statements, as deep
mutual
  pub same_nesting : (p : Tree) (line : ℕ) (form : Plain) → nesting (relined_form p line form) ≡ nesting form
  same_nesting p line (Do i b) = ap (λ n. 1 + n) (same_body_nesting p _ b)
  same_nesting p line (DoIn ii i b) = ap (λ n. 1 + n) (same_body_nesting p _ b)
  same_nesting p line (Pardo is cs b) = ap (λ n. 1 + n) (same_body_nesting p _ b)
  same_nesting p line (If c b) = ap (λ n. 1 + n) (same_body_nesting p _ b)
  same_nesting p line (IfElse c b d) = ap (λ n. 1 + max n (body_nesting (relined p (line + 1 + length (statements p b) + 1) d))) (same_body_nesting p (line + 1) b) ∙ ap (λ n. 1 + max (body_nesting b) n) (same_body_nesting p _ d)
  same_nesting p line _ = refl

  pub same_body_nesting : (p : Tree) (line : ℕ) (b : Block) → body_nesting (relined p line b) ≡ body_nesting b
  same_body_nesting p line Ended = refl
  same_body_nesting p line (Then was form rest) = ap (λ n. max n (body_nesting (relined p (line + length (statement p form)) rest))) (same_nesting p line form) ∙ ap (max (nesting form)) (same_body_nesting p (line + length (statement p form)) rest)

mutual
  pub same_count : (p : Tree) (line : ℕ) (form : Plain) → numbering.statements_in (relined_form p line form) ≡ numbering.statements_in form
  same_count p line (Do i b) = ap (λ n. 1 + n) (same_body_count p _ b)
  same_count p line (DoIn ii i b) = ap (λ n. 1 + n) (same_body_count p _ b)
  same_count p line (Pardo is cs b) = ap (λ n. 1 + n) (same_body_count p _ b)
  same_count p line (If c b) = ap (λ n. 1 + n) (same_body_count p _ b)
  same_count p line (IfElse c b d) = ap (λ n. 1 + (n + numbering.statements (relined p (line + 1 + length (statements p b) + 1) d))) (same_body_count p (line + 1) b) ∙ ap (λ n. 1 + (numbering.statements b + n)) (same_body_count p _ d)
  same_count p line _ = refl

  pub same_body_count : (p : Tree) (line : ℕ) (b : Block) → numbering.statements (relined p line b) ≡ numbering.statements b
  same_body_count p line Ended = refl
  same_body_count p line (Then was form rest) = ap (λ n. n + numbering.statements (relined p (line + length (statement p form)) rest)) (same_count p line form) ∙ ap (λ n. numbering.statements_in form + n) (same_body_count p (line + length (statement p form)) rest)

-- declarations taken in, a line each
abbrev pub after_indices : ℕ → Declared → List IndexDecl → Declared
after_indices line e [] = e
after_indices line e (x ∷ xs) = after_indices (line + 1) (with_index e (record { name = x.name; line = line; range = x.range })) xs

abbrev pub after_arrays : ℕ → Declared → List ArrayDecl → Declared
after_arrays line e [] = e
after_arrays line e (x ∷ xs) = after_arrays (line + 1) (with_array e (record { name = x.name; line = line; kind = x.kind; dims = x.dims })) xs

abbrev pub after_scalars : Declared → List (List ℕ) → Declared
after_scalars e [] = e
after_scalars e (x ∷ xs) = after_scalars (with_scalar e x) xs

-- two that declare the same in each respect
declared_same : (d : Declared) (s : Scope) (is : List IndexDecl) (ds : List ArrayDecl) (xs : List (List ℕ)) → d.scope ≡ s → d.indices ≡ is → d.arrays ≡ ds → d.scalars ≡ xs → d ≡ record { scope = s; indices = is; arrays = ds; scalars = xs }
declared_same d s is ds xs e f g h =
    ap (λ a. record { scope = a; indices = d.indices; arrays = d.arrays; scalars = d.scalars }) e
    ∙ ap (λ a. record { scope = s; indices = a; arrays = d.arrays; scalars = d.scalars }) f
    ∙ ap (λ a. record { scope = s; indices = is; arrays = a; scalars = d.scalars }) g
    ∙ ap (λ a. record { scope = s; indices = is; arrays = ds; scalars = a }) h

pub indices_after : (line : ℕ) (e : Declared) (xs : List IndexDecl) → after_indices line e xs ≡ record { scope = e.scope ++ entries thing.Index index_named (length e.indices) xs; indices = e.indices ++ relined_indices line xs; arrays = e.arrays; scalars = e.scalars }
indices_after line e [] = declared_same e _ _ _ _ (sym (append-nil e.scope)) (sym (append-nil e.indices)) refl refl
indices_after line e (x ∷ xs) =
    let y : IndexDecl = record { name = x.name; line = line; range = x.range } in
    let n : Entry = record { name = x.name; thing = thing.Index (length e.indices) } in
    let long : length (e.indices ++ y ∷ []) ≡ length e.indices + 1 = length-append e.indices (y ∷ []) in
    indices_after (line + 1) (with_index e y) xs
    ∙ declared_same _ _ _ _ _ (append_assoc e.scope (n ∷ []) (entries thing.Index index_named (length (e.indices ++ y ∷ [])) xs) ∙ ap (λ m. e.scope ++ n ∷ entries thing.Index index_named m xs) long) (append_assoc e.indices (y ∷ []) (relined_indices (line + 1) xs)) refl refl

pub arrays_after : (line : ℕ) (e : Declared) (xs : List ArrayDecl) → after_arrays line e xs ≡ record { scope = e.scope ++ entries thing.Array array_named (length e.arrays) xs; indices = e.indices; arrays = e.arrays ++ relined_arrays line xs; scalars = e.scalars }
arrays_after line e [] = declared_same e _ _ _ _ (sym (append-nil e.scope)) refl (sym (append-nil e.arrays)) refl
arrays_after line e (x ∷ xs) =
    let y : ArrayDecl = record { name = x.name; line = line; kind = x.kind; dims = x.dims } in
    let n : Entry = record { name = x.name; thing = thing.Array (length e.arrays) } in
    let long : length (e.arrays ++ y ∷ []) ≡ length e.arrays + 1 = length-append e.arrays (y ∷ []) in
    arrays_after (line + 1) (with_array e y) xs
    ∙ declared_same _ _ _ _ _ (append_assoc e.scope (n ∷ []) (entries thing.Array array_named (length (e.arrays ++ y ∷ [])) xs) ∙ ap (λ m. e.scope ++ n ∷ entries thing.Array array_named m xs) long) refl (append_assoc e.arrays (y ∷ []) (relined_arrays (line + 1) xs)) refl

pub scalars_after : (e : Declared) (xs : List (List ℕ)) → after_scalars e xs ≡ record { scope = e.scope ++ entries thing.Scalar itself (length e.scalars) xs; indices = e.indices; arrays = e.arrays; scalars = e.scalars ++ xs }
scalars_after e [] = declared_same e _ _ _ _ (sym (append-nil e.scope)) refl refl (sym (append-nil e.scalars))
scalars_after e (x ∷ xs) =
    let n : Entry = record { name = x; thing = thing.Scalar (length e.scalars) } in
    let long : length (e.scalars ++ x ∷ []) ≡ length e.scalars + 1 = length-append e.scalars (x ∷ []) in
    scalars_after (with_scalar e x) xs
    ∙ declared_same _ _ _ _ _ (append_assoc e.scope (n ∷ []) (entries thing.Scalar itself (length (e.scalars ++ x ∷ [])) xs) ∙ ap (λ m. e.scope ++ n ∷ entries thing.Scalar itself m xs) long) refl refl (append_assoc e.scalars (x ∷ []) xs)

-- things before a number of a kind, and of the kinds before it
abbrev pub BeforeIndex : ℕ → Thing → Type 0
BeforeIndex n (thing.Index i) = i < n
BeforeIndex n (thing.Array a) = ⊥
BeforeIndex n (thing.Scalar x) = ⊥
BeforeIndex n (thing.Proc q) = ⊥

abbrev pub BeforeArray : ℕ → Thing → Type 0
BeforeArray n (thing.Index i) = Unit {0}
BeforeArray n (thing.Array a) = a < n
BeforeArray n (thing.Scalar x) = ⊥
BeforeArray n (thing.Proc q) = ⊥

abbrev pub BeforeScalar : ℕ → Thing → Type 0
BeforeScalar n (thing.Index i) = Unit {0}
BeforeScalar n (thing.Array a) = Unit {0}
BeforeScalar n (thing.Scalar x) = x < n
BeforeScalar n (thing.Proc q) = ⊥

index_apart : (n : ℕ) (u : Thing) → BeforeIndex n u → u ≡ thing.Index n → ⊥
index_apart n (thing.Index i) h e = let k : i ≡ n = cc in omega (arith, h, k)
index_apart n (thing.Array a) h e = h
index_apart n (thing.Scalar x) h e = h
index_apart n (thing.Proc q) h e = h

array_apart : (n : ℕ) (u : Thing) → BeforeArray n u → u ≡ thing.Array n → ⊥
array_apart n (thing.Index i) h e = absurd cc
array_apart n (thing.Array a) h e = let k : a ≡ n = cc in omega (arith, h, k)
array_apart n (thing.Scalar x) h e = h
array_apart n (thing.Proc q) h e = h

scalar_apart : (n : ℕ) (u : Thing) → BeforeScalar n u → u ≡ thing.Scalar n → ⊥
scalar_apart n (thing.Index i) h e = absurd cc
scalar_apart n (thing.Array a) h e = absurd cc
scalar_apart n (thing.Scalar x) h e = let k : x ≡ n = cc in omega (arith, h, k)
scalar_apart n (thing.Proc q) h e = h

index_later : (n : ℕ) (u : Thing) → BeforeIndex n u → BeforeIndex (n + 1) u
index_later n (thing.Index i) h = omega (arith, h)
index_later n (thing.Array a) h = h
index_later n (thing.Scalar x) h = h
index_later n (thing.Proc q) h = h

array_later : (n : ℕ) (u : Thing) → BeforeArray n u → BeforeArray (n + 1) u
array_later n (thing.Index i) h = tt
array_later n (thing.Array a) h = omega (arith, h)
array_later n (thing.Scalar x) h = h
array_later n (thing.Proc q) h = h

scalar_later : (n : ℕ) (u : Thing) → BeforeScalar n u → BeforeScalar (n + 1) u
scalar_later n (thing.Index i) h = tt
scalar_later n (thing.Array a) h = tt
scalar_later n (thing.Scalar x) h = omega (arith, h)
scalar_later n (thing.Proc q) h = h

-- a whole scope with one more entry of its front
shifted : (whole s : Scope) (n : Entry) (m : Thing) (rest : Scope) → m ≡ n.thing → whole ≡ s ++ n ∷ rest → whole ≡ (s ++ record { name = n.name; thing = m } ∷ []) ++ rest
shifted whole s n m rest same is = is ∙ sym (append_assoc s (n ∷ []) rest) ∙ ap (λ u. (s ++ record { name = n.name; thing = u } ∷ []) ++ rest) (sym same)

module _ (p : Tree) (whole : Scope) where
  index_declares : (e : Declared) (name : List ℕ) (r : Range) (line place : ℕ) (between : List Word) → IsFree e.scope name → IsTrue (proper_range place r) → ((i : ℕ) → i < place → thing_of e.scope (index_name p i) ≡ Some (thing.Index i))
      → Declares e (with_index e (record { name = name; line = line; range = r })) (placed_line line (ranged p name r) between) between
  index_declares e name (range.Segments of lo hi) line place between free proper before = Declares.segments (kind_is of) free (bound_is lo) (bound_is hi)
  index_declares e name (range.Sub i) line place between free proper before = Declares.subindex free (before i (ltb-true i place proper))

  before_next : (b : Bool) (e : Declared) (x : IndexDecl) (name : List ℕ) (n i : ℕ) → nat_lt i n ≡ b → i < n + 1 → length e.indices ≡ n → index_name p n ≡ name → IsFree e.scope name → ((j : ℕ) → j < n → thing_of e.scope (index_name p j) ≡ Some (thing.Index j))
      → thing_of (e.scope ++ record { name = name; thing = thing.Index (length e.indices) } ∷ []) (index_name p i) ≡ Some (thing.Index i)
  before_next true e x name n i t below count called free before = front_found e.scope _ (index_name p i) (thing.Index i) (before i (ltb-true i n t))
  before_next false e x name n i t below count called free before =
      let here : i ≡ n = omega (arith, below, ltb-false i n t) in
      ap (λ m. thing_of (e.scope ++ record { name = name; thing = thing.Index (length e.indices) } ∷ []) (index_name p m)) here
      ∙ ap (thing_of (e.scope ++ record { name = name; thing = thing.Index (length e.indices) } ∷ [])) called
      ∙ last_found e.scope (record { name = name; thing = thing.Index (length e.indices) }) free
      ∙ ap (λ m. Some (thing.Index m)) (count ∙ sym here)

  pub indices_declared : (fronts xs : List IndexDecl) (e : Declared) (n line : ℕ) (more : Scope) (f : Declared) (behind rest : List Word)
      → p.indices ≡ fronts ++ xs → length fronts ≡ n → length e.indices ≡ n → whole ≡ e.scope ++ (entries thing.Index index_named n xs ++ more) → AreFound whole thing.Index index_named n xs
      → AllByRecursion (λ (m : Entry). BeforeIndex n m.thing) e.scope → ((i : ℕ) → i < n → thing_of e.scope (index_name p i) ≡ Some (thing.Index i)) → IsTrue (list_all proper_index (enumerate_from n xs))
      → AreDeclarations (after_indices line e xs) f behind rest → AreDeclarations e f (placed line (map (index_line p) xs) behind) rest
  indices_declared fronts [] e n line more f behind rest split long count is found before prior proper go = go
  indices_declared fronts (x ∷ xs) e n line more f behind rest split long count is found before prior proper go =
      let free : IsFree e.scope x.name = free_here e.scope _ whole x.name (thing.Index n) is found.0 (every_mapped _ _ (λ m h. index_apart n m.thing h) e.scope before) in
      let own = front (proper_index (n, x)) (list_all proper_index (enumerate_from (n + 1) xs)) proper in
      let ranges : IsTrue (proper_range n x.range) = back (is_line x.line) (proper_range n x.range) (back (is_name x.name) (is_line x.line && proper_range n x.range) own) in
      let y : IndexDecl = record { name = x.name; line = line; range = x.range } in
      let called : index_name p n ≡ x.name = ap (λ m. name_of_index (slice_get p.indices m)) (sym long) ∙ ap (λ l. name_of_index (slice_get l (length fronts))) split ∙ ap name_of_index (get_at fronts x xs) in
      let same : thing.Index (length e.indices) ≡ thing.Index n = ap thing.Index count in
      AreDeclarations.more (index_declares e x.name x.range line n (placed (line + 1) (map (index_line p) xs) behind) free ranges prior)
      (indices_declared (fronts ++ x ∷ []) xs (with_index e y) (n + 1) (line + 1) more f behind rest
      (split ∙ sym (append_assoc fronts (x ∷ []) xs)) (length-append fronts (x ∷ []) ∙ ap (λ m. m + 1) long) (length-append e.indices (y ∷ []) ∙ ap (λ m. m + 1) count)
      (shifted whole e.scope (record { name = x.name; thing = thing.Index n }) (thing.Index (length e.indices)) (entries thing.Index index_named (n + 1) xs ++ more) same is)
      found.1 (every_appended _ e.scope _ (every_mapped _ _ (λ m h. index_later n m.thing h) e.scope before) (omega (arith, count), tt))
      (λ i below. before_next (nat_lt i n) e x x.name n i refl below count called free prior)
      (back (proper_index (n, x)) (list_all proper_index (enumerate_from (n + 1) xs)) proper) go)

  names_declared : (s : Scope) (line : ℕ) (is : List ℕ) (between : List Word) → 1 ≤ length is → IsTrue (list_all (has_index p) is) → ((i : ℕ) → i < length p.indices → thing_of s (index_name p i) ≡ Some (thing.Index i))
      → AreIndices s (symbol.Sign sign.Close) is (placed_line line (names p is (symbol.Sign sign.Close ∷ [])) between) (at line LineEnd ∷ between)
  names_declared s line [] between some all prior = absurd (omega (arith, some))
  names_declared s line (i ∷ []) between some all prior = AreIndices.last (prior i (ltb-true i (length p.indices) (front (has_index p i) true all)))
  names_declared s line (i ∷ j ∷ is) between some all prior =
      AreIndices.more (prior i (ltb-true i (length p.indices) (front (has_index p i) (list_all (has_index p) (j ∷ is)) all)))
      (names_declared s line (j ∷ is) between (omega arith) (back (has_index p i) (list_all (has_index p) (j ∷ is)) all) prior)

  pub arrays_declared : (xs : List ArrayDecl) (e : Declared) (n line : ℕ) (more : Scope) (f : Declared) (behind rest : List Word)
      → length e.arrays ≡ n → whole ≡ e.scope ++ (entries thing.Array array_named n xs ++ more) → AreFound whole thing.Array array_named n xs
      → AllByRecursion (λ (m : Entry). BeforeArray n m.thing) e.scope → ((i : ℕ) → i < length p.indices → thing_of e.scope (index_name p i) ≡ Some (thing.Index i)) → IsTrue (list_all (proper_array p) xs)
      → AreDeclarations (after_arrays line e xs) f behind rest → AreDeclarations e f (placed line (map (array_line p) xs) behind) rest
  arrays_declared [] e n line more f behind rest count is found before prior proper go = go
  arrays_declared (x ∷ xs) e n line more f behind rest count is found before prior proper go =
      let free : IsFree e.scope x.name = free_here e.scope _ whole x.name (thing.Array n) is found.0 (every_mapped _ _ (λ m h. array_apart n m.thing h) e.scope before) in
      let own = front (proper_array p x) (list_all (proper_array p) xs) proper in
      let fits : has_length most_rank x.dims && list_all (has_index p) x.dims ≡ true = back (is_line x.line) (has_length most_rank x.dims && list_all (has_index p) x.dims) (back (is_name x.name) (is_line x.line && (has_length most_rank x.dims && list_all (has_index p) x.dims)) own) in
      let long : has_length most_rank x.dims ≡ true = front (has_length most_rank x.dims) (list_all (has_index p) x.dims) fits in
      let some : 1 ≤ length x.dims = leb-true 1 (length x.dims) (front (nat_le 1 (length x.dims)) (nat_le (length x.dims) most_rank) long) in
      let few : length x.dims ≤ most_rank = leb-true (length x.dims) most_rank (back (nat_le 1 (length x.dims)) (nat_le (length x.dims) most_rank) long) in
      let y : ArrayDecl = record { name = x.name; line = line; kind = x.kind; dims = x.dims } in
      let between = placed (line + 1) (map (array_line p) xs) behind in
      let same : thing.Array (length e.arrays) ≡ thing.Array n = ap thing.Array count in
      AreDeclarations.more (Declares.array (array_kind_is x.kind) free (AreDims.dims (names_declared e.scope line x.dims between some (back (has_length most_rank x.dims) (list_all (has_index p) x.dims) fits) prior) few))
      (arrays_declared xs (with_array e y) (n + 1) (line + 1) more f behind rest (length-append e.arrays (y ∷ []) ∙ ap (λ m. m + 1) count)
      (shifted whole e.scope (record { name = x.name; thing = thing.Array n }) (thing.Array (length e.arrays)) (entries thing.Array array_named (n + 1) xs ++ more) same is)
      found.1 (every_appended _ e.scope _ (every_mapped _ _ (λ m h. array_later n m.thing h) e.scope before) (omega (arith, count), tt))
      (λ i below. front_found e.scope _ (index_name p i) (thing.Index i) (prior i below))
      (back (proper_array p x) (list_all (proper_array p) xs) proper) go)

  pub scalars_declared : (xs : List (List ℕ)) (e : Declared) (n line : ℕ) (more : Scope) (f : Declared) (behind rest : List Word)
      → length e.scalars ≡ n → whole ≡ e.scope ++ (entries thing.Scalar itself n xs ++ more) → AreFound whole thing.Scalar itself n xs
      → AllByRecursion (λ (m : Entry). BeforeScalar n m.thing) e.scope
      → AreDeclarations (after_scalars e xs) f behind rest → AreDeclarations e f (placed line (map scalar_line xs) behind) rest
  scalars_declared [] e n line more f behind rest count is found before go = go
  scalars_declared (x ∷ xs) e n line more f behind rest count is found before go =
      let free : IsFree e.scope x = free_here e.scope _ whole x (thing.Scalar n) is found.0 (every_mapped _ _ (λ m h. scalar_apart n m.thing h) e.scope before) in
      let same : thing.Scalar (length e.scalars) ≡ thing.Scalar n = ap thing.Scalar count in
      AreDeclarations.more (Declares.scalar free)
      (scalars_declared xs (with_scalar e x) (n + 1) (line + 1) more f behind rest (length-append e.scalars (x ∷ []) ∙ ap (λ m. m + 1) count)
      (shifted whole e.scope (record { name = x; thing = thing.Scalar n }) (thing.Scalar (length e.scalars)) (entries thing.Scalar itself (n + 1) xs ++ more) same is)
      found.1 (every_appended _ e.scope _ (every_mapped _ _ (λ m h. scalar_later n m.thing h) e.scope before) (omega (arith, count), tt)) go)
