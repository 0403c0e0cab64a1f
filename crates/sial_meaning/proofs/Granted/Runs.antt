-- Runs of blocks: the blocks of an array among those of its class, replaced together.
use Rattle.std.proofs.Common.{◌≡◌, ℕ, zero, suc, ◌+◌, ◌<◌, ◌≤◌, ◌⊎◌, inl, inr, List, [], ◌∷◌, filter, take, length, slice_index_or, slice_set, true, false, cond, refl, sym, ap, ◌∙◌, arith}
use Rattle.std.proofs.lemmas.List.{length-set, get_or-set_same, get_or-set_other}
use Rattle.std.proofs.lemmas.List.Sums.{sum_by-cons}
use Rattle.std.specs.Prelude.{sum_by}
use Rattle.sial_syntax.specs.declared.array.ArrayDecl.{ArrayDecl}
use Rattle.sial_syntax.specs.declared.array.ArrayKind.{ArrayKind}
use Rattle.sial_syntax.specs.declared.array.ArrayKind.TheVariants.{Static, Temp, Local, Distributed, Served}
use Rattle.sial_syntax.specs.Spaces.{Spaces, blocks_of, blocks_together, same_kind}
use Rattle.sial_meaning.specs.Setting.{Setting, array_kind, block_count, first_of_class, no_array}
use Rattle.sial_meaning.specs.State.{with_run}
use Rattle.sial_meaning.proofs.AcceptedInOtherWords.Pairs.{never}

-- a run replaced leaves the list as long as it was
pub run-long : {X : Type 0} (first : ℕ) (ys xs : List X) → length (with_run first ys xs) ≡ length xs
run-long first [] xs = refl
run-long first (y ∷ ys) xs = run-long (first + 1) ys (slice_set xs first y) ∙ length-set xs first y

-- outside of the run nothing changes
pub run-other : {X : Type 0} (first : ℕ) (ys xs : List X) (j : ℕ) (d : X) → (j < first) ⊎ ((first + length ys) ≤ j) → slice_index_or (with_run first ys xs) j d ≡ slice_index_or xs j d
run-other first [] xs j d out = refl
run-other first (y ∷ ys) xs j d (inl before) =
    run-other (first + 1) ys (slice_set xs first y) j d (inl (omega (arith, before))) ∙ get_or-set_other xs first j y d (λ e. omega (arith, before, e))
run-other first (y ∷ ys) xs j d (inr behind) =
    run-other (first + 1) ys (slice_set xs first y) j d (inr (omega (arith, behind))) ∙ get_or-set_other xs first j y d (λ e. omega (arith, behind, e))

-- in the run stand the new blocks
pub run-same : {X : Type 0} (first : ℕ) (ys xs : List X) (k : ℕ) (d : X) → k < length ys → (first + k) < length xs → slice_index_or (with_run first ys xs) (first + k) d ≡ slice_index_or ys k d
run-same first [] xs k d below inside = absurd (omega (arith, below))
run-same first (y ∷ ys) xs zero d below inside =
    let none : first + 0 ≡ first = omega arith in
    ap (λ j. slice_index_or (with_run (first + 1) ys (slice_set xs first y)) j d) none
    ∙ (run-other (first + 1) ys (slice_set xs first y) first d (inl (omega arith)) ∙ get_or-set_same xs first y d (omega (arith, inside)))
run-same first (y ∷ ys) xs (suc k) d below inside =
    let on : first + suc k ≡ (first + 1) + k = omega arith in
    let long = length-set xs first y in
    ap (λ j. slice_index_or (with_run (first + 1) ys (slice_set xs first y)) j d) on
    ∙ run-same (first + 1) ys (slice_set xs first y) k d (omega (arith, below)) (omega (arith, inside, long))

-- a kind is the same as itself
pub kind-self : (k : ArrayKind) → same_kind k k ≡ true
kind-self Static = refl
kind-self Temp = refl
kind-self Local = refl
kind-self Distributed = refl
kind-self Served = refl

-- the blocks of one more array: counted where it is of the kind
abbrev pub counted : Spaces → ArrayKind → ArrayDecl → ℕ
counted spaces kind x = cond (same_kind x.kind kind) (blocks_of spaces x) 0

-- the blocks of a kind, counted with one more array
pub one-more : (spaces : Spaces) (kind : ArrayKind) (x : ArrayDecl) (xs : List ArrayDecl) → blocks_together spaces kind (x ∷ xs) ≡ counted spaces kind x + blocks_together spaces kind xs
one-more spaces kind x xs =
    elim (same_kind x.kind kind) as (λ b. sum_by (blocks_of spaces) (cond b (x ∷ filter (λ (a : ArrayDecl). same_kind a.kind kind) xs) (filter (λ (a : ArrayDecl). same_kind a.kind kind) xs)) ≡ cond b (blocks_of spaces x) 0 + blocks_together spaces kind xs) [
      | true ↦ sum_by-cons (blocks_of spaces) x (filter (λ (a : ArrayDecl). same_kind a.kind kind) xs)
      | false ↦ omega arith
    ]

counted-is : (spaces : Spaces) (kind : ArrayKind) (x : ArrayDecl) → x.kind ≡ kind → counted spaces kind x ≡ blocks_of spaces x
counted-is spaces kind x is = ap (λ b. cond b (blocks_of spaces x) 0) (ap (λ k. same_kind k kind) is ∙ kind-self kind)

-- an array's blocks end before those of a later array of its kind begin
ends-before-next : (spaces : Spaces) (kind : ArrayKind) (xs : List ArrayDecl) (a b : ℕ) → a < b → (slice_index_or xs a no_array).kind ≡ kind → same_kind kind Temp ≡ false
    → (blocks_together spaces kind (take a xs) + blocks_of spaces (slice_index_or xs a no_array)) ≤ blocks_together spaces kind (take b xs)
ends-before-next spaces kind [] a b below is other = absurd (never (sym other ∙ ap (λ k. same_kind k Temp) (sym is)))
ends-before-next spaces kind (x ∷ xs) zero zero below is other = absurd (omega (arith, below))
ends-before-next spaces kind (x ∷ xs) zero (suc b) below is other =
    let more = one-more spaces kind x (take b xs) in
    let here : counted spaces kind x ≡ blocks_of spaces x = counted-is spaces kind x is in
    let none : blocks_together spaces kind [] ≡ 0 = refl in
    omega (arith, more, here, none)
ends-before-next spaces kind (x ∷ xs) (suc a) zero below is other = absurd (omega (arith, below))
ends-before-next spaces kind (x ∷ xs) (suc a) (suc b) below is other =
    let rest = ends-before-next spaces kind xs a b (omega (arith, below)) is other in
    let first = one-more spaces kind x (take a xs) in
    let second = one-more spaces kind x (take b xs) in
    omega (arith, rest, first, second)

-- all of a list
pub take-whole : {X : Type 0} (xs : List X) → take (length xs) xs ≡ xs
take-whole [] = refl
take-whole (x ∷ xs) = ap (λ rest. x ∷ rest) (take-whole xs)

-- an array that isn't temp is declared
pub declared-array : (g : Setting) (a : ℕ) (kind : ArrayKind) → array_kind g a ≡ kind → same_kind kind Temp ≡ false → a < length g.program.arrays
declared-array g a kind is other = there g.program.arrays a is
  where
    there : (xs : List ArrayDecl) (a : ℕ) → (slice_index_or xs a no_array).kind ≡ kind → a < length xs
    there [] a is = absurd (never (sym other ∙ ap (λ k. same_kind k Temp) (sym is)))
    there (x ∷ xs) zero is = omega arith
    there (x ∷ xs) (suc a) is = let rest = there xs a is in omega (arith, rest)

-- an array's blocks lie among those of its kind
pub within-class : (g : Setting) (a : ℕ) (kind : ArrayKind) → array_kind g a ≡ kind → same_kind kind Temp ≡ false → (first_of_class g a + block_count g a) ≤ blocks_together g.spaces kind g.program.arrays
within-class g a kind is other =
    let inside = declared-array g a kind is other in
    let ends = ends-before-next g.spaces kind g.program.arrays a (length g.program.arrays) inside is other in
    let all = ap (blocks_together g.spaces kind) (take-whole g.program.arrays) in
    let first : first_of_class g a ≡ blocks_together g.spaces kind (take a g.program.arrays) = ap (λ k. blocks_together g.spaces k (take a g.program.arrays)) is in
    omega (arith, ends, all, first)

-- a block of one array is none of another's
pub apart-in-class : (g : Setting) (a b n : ℕ) (kind : ArrayKind) → array_kind g a ≡ kind → array_kind g b ≡ kind → same_kind kind Temp ≡ false → n < block_count g a → (a ≡ b → ⊥)
    → ((first_of_class g a + n) < first_of_class g b) ⊎ ((first_of_class g b + block_count g b) ≤ (first_of_class g a + n))
apart-in-class g a b n kind is-a is-b other below differ =
    elim (lower a b differ) as (λ q. ((first_of_class g a + n) < first_of_class g b) ⊎ ((first_of_class g b + block_count g b) ≤ (first_of_class g a + n))) [
      | inl less ↦ let ends = ends-before-next g.spaces kind g.program.arrays a b less is-a other in inl (omega (arith, ends, below, first-a, first-b))
      | inr more ↦ let ends = ends-before-next g.spaces kind g.program.arrays b a more is-b other in inr (omega (arith, ends, first-a, first-b))
    ]
  where
    first-a : first_of_class g a ≡ blocks_together g.spaces kind (take a g.program.arrays)
    first-a = ap (λ k. blocks_together g.spaces k (take a g.program.arrays)) is-a

    first-b : first_of_class g b ≡ blocks_together g.spaces kind (take b g.program.arrays)
    first-b = ap (λ k. blocks_together g.spaces k (take b g.program.arrays)) is-b

    lower : (x y : ℕ) → (x ≡ y → ⊥) → (x < y) ⊎ (y < x)
    lower zero zero differ = absurd (differ refl)
    lower zero (suc y) differ = inl (omega arith)
    lower (suc x) zero differ = inr (omega arith)
    lower (suc x) (suc y) differ = elim (lower x y (λ e. differ (ap suc e))) as (λ q. (suc x < suc y) ⊎ (suc y < suc x)) [ inl l ↦ inl (omega (arith, l)) | inr m ↦ inr (omega (arith, m)) ]
