-- Lists that have the rows of all arrays of a kind one after another.
use Rattle.std.proofs.Common.{◌≡◌, cond, false, ℕ, zero, suc, ◌+◌, ◌-◌, ◌<◌, List, [], ◌∷◌, ◌++◌, map, take, length, slice_index_or, refl, sym, ap, ◌∙◌, subst, arith}
use Rattle.std.proofs.Common.{append_assoc, length-append}
use Rattle.std.proofs.lemmas.List.Concat.{get_or-flat_map}
use Rattle.std.specs.List.{flat_map}
use Rattle.sial_syntax.specs.declared.array.ArrayDecl.{ArrayDecl}
use Rattle.sial_syntax.specs.declared.array.ArrayKind.{ArrayKind}
use Rattle.sial_syntax.specs.declared.array.ArrayKind.TheVariants.{Temp}
use Rattle.sial_syntax.specs.Boxes.{numbers_from}
use Rattle.sial_syntax.specs.Spaces.{blocks_together, same_kind}
use Rattle.sial_meaning.specs.Own.{for_each}
use Rattle.sial_meaning.specs.Setting.{Setting, array_kind, array_of, block_count, first_of_class, no_array}
use Rattle.sial_meaning.proofs.Granted.Runs.{counted, declared-array, kind-self, one-more, take-whole}
use Rattle.sial_meaning.proofs.PardosKeepTheControl.Changes.{each-long}
use Rattle.sial_meaning.proofs.StatesAreWhole.Created.{each-read}

-- the numbers of arrays from one on
abbrev pub arrays_from : (first n : ℕ) → List ℕ
arrays_from first n = map (λ a. a) (numbers_from first n)

-- the rows of the arrays that are left, with the first of them
pub next-row : {X : Type 0} (f : ℕ → List X) (a n : ℕ) → a < n → flat_map f (arrays_from a (n - a)) ≡ f a ++ flat_map f (arrays_from (a + 1) (n - (a + 1)))
next-row f a n below = let more : n - a ≡ suc (n - (a + 1)) = omega (arith, below) in ap (λ m. flat_map f (arrays_from a m)) more

-- what is left of an array's blocks, with the first of them
pub next-entry : {X : Type 0} (f : ℕ → X) (a n : ℕ) → a < n → map f (numbers_from a (n - a)) ≡ f a ∷ map f (numbers_from (a + 1) (n - (a + 1)))
next-entry f a n below = let more : n - a ≡ suc (n - (a + 1)) = omega (arith, below) in ap (λ m. map f (numbers_from a m)) more

-- the rows of one more array were taken
pub row-taken : {X : Type 0} (f : ℕ → List X) (a n : ℕ) (xs new all : List X) → a < n → new ≡ xs ++ f a → xs ++ flat_map f (arrays_from a (n - a)) ≡ all → new ++ flat_map f (arrays_from (a + 1) (n - (a + 1))) ≡ all
row-taken f a n xs new all below taken was =
    let rest = flat_map f (arrays_from (a + 1) (n - (a + 1))) in
    ap (λ ys. ys ++ rest) taken ∙ (append_assoc xs (f a) rest ∙ (ap (λ r. xs ++ r) (sym (next-row f a n below)) ∙ was))

-- one more entry was
pub entry-taken : {X : Type 0} (f : ℕ → X) (a n : ℕ) (xs new all : List X) (x : X) → a < n → new ≡ xs ++ x ∷ [] → x ≡ f a → xs ++ map f (numbers_from a (n - a)) ≡ all → new ++ map f (numbers_from (a + 1) (n - (a + 1))) ≡ all
entry-taken f a n xs new all x below taken is was =
    let rest = map f (numbers_from (a + 1) (n - (a + 1))) in
    ap (λ ys. ys ++ rest) taken ∙ (append_assoc xs (x ∷ []) rest ∙ (ap (λ y. xs ++ (y ∷ rest)) is ∙ (ap (λ r. xs ++ r) (sym (next-entry f a n below)) ∙ was)))

module _ {X : Type 0} (g : Setting) (kind : ArrayKind) (f : ℕ → List X) (long : (a : ℕ) → length (f a) ≡ counted g.spaces kind (array_of g a)) where
  -- the rows of the first arrays are as long as they have blocks of the kind
  rows-long : (first : ℕ) (xs : List ArrayDecl) (k : ℕ) → ((i : ℕ) → i < length xs → array_of g (first + i) ≡ slice_index_or xs i no_array)
      → length (flat_map f (take k (arrays_from first (length xs)))) ≡ blocks_together g.spaces kind (take k xs)
  rows-long first [] zero are = refl
  rows-long first [] (suc k) are = refl
  rows-long first (x ∷ xs) zero are = refl
  rows-long first (x ∷ xs) (suc k) are =
      let none : first + 0 ≡ first = omega arith in
      let here : array_of g first ≡ x = ap (array_of g) (sym none) ∙ are 0 (omega arith) in
      let rest = rows-long (first + 1) xs k (λ i inside. let on : (first + 1) + i ≡ first + suc i = omega arith in ap (array_of g) on ∙ are (suc i) (omega (arith, inside))) in
      length-append (f first) (flat_map f (take k (arrays_from (first + 1) (length xs))))
      ∙ (ap (λ m. m + length (flat_map f (take k (arrays_from (first + 1) (length xs))))) (long first ∙ ap (counted g.spaces kind) here)
      ∙ (ap (λ m. counted g.spaces kind x + m) rest ∙ sym (one-more g.spaces kind x (take k xs))))

  arrays-are : (i : ℕ) → i < length g.program.arrays → array_of g (0 + i) ≡ slice_index_or g.program.arrays i no_array
  arrays-are i inside = let none : 0 + i ≡ i = omega arith in ap (array_of g) none

  -- all rows together
  pub flat-long : length (flat_map f (for_each (length g.program.arrays) (λ a. a))) ≡ blocks_together g.spaces kind g.program.arrays
  flat-long =
      let all : take (length g.program.arrays) (arrays_from 0 (length g.program.arrays)) ≡ arrays_from 0 (length g.program.arrays) =
      ap (λ m. take m (arrays_from 0 (length g.program.arrays))) (sym (each-long (length g.program.arrays) (λ a. a))) ∙ take-whole (arrays_from 0 (length g.program.arrays)) in
      ap (λ arrays. length (flat_map f arrays)) (sym all)
      ∙ (rows-long 0 g.program.arrays (length g.program.arrays) arrays-are ∙ ap (blocks_together g.spaces kind) (take-whole g.program.arrays))

  -- an array's row stands where its blocks do
  pub flat-read : (a n : ℕ) (d : X) → same_kind kind Temp ≡ false → array_kind g a ≡ kind → n < block_count g a → slice_index_or (flat_map f (for_each (length g.program.arrays) (λ a. a))) (first_of_class g a + n) d ≡ slice_index_or (f a) n d
  flat-read a n d other is below =
      let declared = declared-array g a kind is other in
      let many : length (arrays_from 0 (length g.program.arrays)) ≡ length g.program.arrays = each-long (length g.program.arrays) (λ a. a) in
      let here : slice_index_or (arrays_from 0 (length g.program.arrays)) a 0 ≡ a = each-read (length g.program.arrays) (λ a. a) a 0 declared in
      let first : first_of_class g a ≡ length (flat_map f (take a (arrays_from 0 (length g.program.arrays)))) =
      ap (λ k. blocks_together g.spaces k (take a g.program.arrays)) is ∙ sym (rows-long 0 g.program.arrays a arrays-are) in
      let row : length (f a) ≡ block_count g a = long a ∙ counted-here a is in
      let inside : n < length (f (slice_index_or (arrays_from 0 (length g.program.arrays)) a 0)) = subst (λ x. n < length (f x)) (sym here) (omega (arith, row, below)) in
      ap (λ m. slice_index_or (flat_map f (arrays_from 0 (length g.program.arrays))) (m + n) d) first
      ∙ (get_or-flat_map f (arrays_from 0 (length g.program.arrays)) a n 0 d (omega (arith, declared, many)) inside ∙ ap (λ x. slice_index_or (f x) n d) here)
    where
      counted-here : (a : ℕ) → array_kind g a ≡ kind → counted g.spaces kind (array_of g a) ≡ block_count g a
      counted-here a is = ap (λ b. cond b (block_count g a) 0) (ap (λ k. same_kind k kind) is ∙ kind-self kind)
