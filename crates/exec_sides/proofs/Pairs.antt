-- Contractions, outer products and scalings of named blocks.
use Rattle.std.proofs.Common.{◌≡◌, ℕ, ◌*◌, ◌%◌, ◌^◌, Bool, true, false, ◌==◌, ◌||◌, not, eqb-true, List, [], ◌∷◌, ◌++◌, map, filter, append-nil, refl, sym, ap, ◌∙◌, subst, arith}
use Rattle.std.specs.Prelude.{if◌then◌else◌, sum_by}
use Rattle.std.proofs.lemmas.List.Sums.{sum_by-cons}
use Rattle.sial_syntax.specs.Agreeing.{contains, in_one, same_set, share_any}
use Rattle.sial_syntax.specs.Boxes.{tuples}
use Rattle.sial_syntax.specs.Spaces.{Spaces, extent}
use Rattle.sial_meaning.specs.JoinLaws.{contracted, shared_indices, word_under}
use Rattle.sial_meaning.specs.Number.{times}
use Rattle.sial_meaning.specs.Sight.{Sight, lengths}
use Rattle.sial_meaning.proofs.AcceptedInOtherWords.Pairs.{never}
use Rattle.sial_meaning.proofs.AssignmentsReadBack.Places.{neither, or-left, or-right}
use Rattle.exec_sides.specs.Contracting.{IsContraction, summed}
use Rattle.exec_sides.specs.Fits.{IsNamed}
use Rattle.exec_sides.specs.Named.{IsCopy, length_under}
use Rattle.exec_sides.proofs.Linking.{lengths-on, named-alike, named-laid, named-length}
use Rattle.exec_sides.proofs.Names.{same-images, same-one}
use Rattle.exec_sides.proofs.StrideSums.{absent, kept-from}

-- all that passes a test
pub all-kept : (p : ℕ → Bool) (is : List ℕ) → ((i : ℕ) → contains is i ≡ true → p i ≡ true) → filter p is ≡ is
all-kept p [] each = refl
all-kept p (i ∷ is) each =
    let rest = all-kept p is (λ j in-is. each j (or-right (i == j) (contains is j) in-is)) in
    ap (λ b. if b then i ∷ filter p is else filter p is) (each i (or-left (i == i) (contains is i) (same-one i))) ∙ ap (λ xs. i ∷ xs) rest

-- nothing that passes it
pub none-kept : (p : ℕ → Bool) (is : List ℕ) → ((i : ℕ) → contains is i ≡ true → p i ≡ false) → filter p is ≡ []
none-kept p [] each = refl
none-kept p (i ∷ is) each =
    ap (λ b. if b then i ∷ filter p is else filter p is) (each i (or-left (i == i) (contains is i) (same-one i)))
    ∙ none-kept p is (λ j in-is. each j (or-right (i == j) (contains is j) in-is))

-- no index of two blocks that share none
none-shared : (xs ys : List ℕ) → share_any xs ys ≡ false → (i : ℕ) → contains xs i ≡ true → contains ys i ≡ false
none-shared [] ys apart i in-xs = absurd (never in-xs)
none-shared (x ∷ xs) ys apart i in-xs =
    let parts = neither (contains ys x) (share_any xs ys) apart in
    elim (x == i) as (λ b. (x == i) ≡ b → contains ys i ≡ false) [
      | true ↦ λ e. subst (λ k. contains ys k ≡ false) (eqb-true x i e) parts.0
      | false ↦ λ e. none-shared xs ys parts.1 i (subst (λ b. (b || contains xs i) ≡ true) e in-xs)
    ] refl

-- the indices that stand in one of two blocks alone are all of them, where they share none
pub alone-of-apart : (xs ys : List ℕ) → share_any xs ys ≡ false → in_one xs ys ≡ xs ++ ys
alone-of-apart xs ys apart =
    ap (λ zs. zs ++ filter (λ y. not (contains xs y)) ys) (all-kept (λ x. not (contains ys x)) xs (λ i in-xs. ap not (none-shared xs ys apart i in-xs)))
    ∙ ap (λ zs. xs ++ zs) (all-kept (λ y. not (contains xs y)) ys (λ i in-ys. ap not (absent xs i (λ q. never (sym (none-shared xs ys apart i q) ∙ in-ys)))))

-- and they share none
pub none-common : (xs ys : List ℕ) → share_any xs ys ≡ false → shared_indices xs ys ≡ []
none-common xs ys apart = none-kept (contains ys) xs (none-shared xs ys apart)

-- the indices that stand in one of a block and a number
pub alone-of-number : (xs : List ℕ) → in_one xs [] ≡ xs
alone-of-number xs = ap (λ zs. zs ++ []) (all-kept (λ x. true) xs (λ i in-xs. refl)) ∙ append-nil xs

-- a sum over no index is one product
pub one-product : (names tuple : List ℕ) (left right : Sight) → shared_indices left.at right.at ≡ [] → summed names tuple left right ≡ times (word_under names tuple left) (word_under names tuple right)
one-product names tuple left right none =
    let over : List ℕ → ℕ = λ shared.
    sum_by (λ s. word_under (names ++ shared) (tuple ++ s) left * word_under (names ++ shared) (tuple ++ s) right) (tuples (map (length_under left) shared)) % 2 ^ 64 in
    let term : List ℕ → ℕ = λ s. word_under (names ++ []) (tuple ++ s) left * word_under (names ++ []) (tuple ++ s) right in
    let whole = sum_by-cons term [] [] in
    let same : term [] ≡ word_under names tuple left * word_under names tuple right =
    ap (λ ns. word_under ns (tuple ++ []) left * word_under ns (tuple ++ []) right) (append-nil names)
    ∙ ap (λ t. word_under names t left * word_under names t right) (append-nil tuple) in
    let sum : sum_by term ([] ∷ []) ≡ word_under names tuple left * word_under names tuple right = omega (arith, whole, same) in
    ap over none ∙ ap (λ n. n % 2 ^ 64) sum

-- a number as a block without indices
abbrev pub number_block : ℕ → Sight
number_block n = record { at = []; extents = []; words = n ∷ [] }

-- a target with the indices of a block is a contraction of it with a number
pub scaled-fits : (to from : Sight) (n : ℕ) → IsCopy to from → IsContraction to from (number_block n)
scaled-fits to from n copy = record {
  target = copy.target;
  first = copy.source;
  second = record { once = refl; most = omega arith; extents = refl; words = refl; few = omega arith };
  alone = subst (λ (xs : List ℕ). same_set to.at xs ≡ true) (sym (alone-of-number from.at)) copy.same;
  alike = λ i in-from in-none. absurd (never in-none);
  left_free = copy.alike;
  right_free = λ i in-to in-none. absurd (never in-none);
}

-- and what it comes to
pub scaled-is : (names tuple : List ℕ) (from : Sight) (n : ℕ) → summed names tuple from (number_block n) ≡ times (word_under names tuple from) n
scaled-is names tuple from n = one-product names tuple from (number_block n) (none-kept (contains []) from.at (λ i in-from. refl))

-- two named blocks are contracted into a named target
pub named-contraction : (spaces : Spaces) (values : List ℕ) (to left right : Sight) → IsNamed spaces values to → IsNamed spaces values left → IsNamed spaces values right → same_set to.at (in_one left.at right.at) ≡ true → IsContraction to left right
named-contraction spaces values to left right target first second alone = record {
  target = named-laid spaces values to target;
  first = named-laid spaces values left first;
  second = named-laid spaces values right second;
  alone = alone;
  alike = named-alike spaces values left right first second;
  left_free = named-alike spaces values to left target first;
  right_free = named-alike spaces values to right target second;
}

-- their sums are those of the definitions
pub summed-named : (spaces : Spaces) (values names tuple : List ℕ) (left right : Sight) → IsNamed spaces values left → summed names tuple left right ≡ contracted spaces values names tuple left right
summed-named spaces values names tuple left right first =
    let shared = shared_indices left.at right.at in
    let dims : map (length_under left) shared ≡ lengths (map (extent spaces values) shared) =
    same-images (length_under left) (λ i. (extent spaces values i).len) shared (λ i is. named-length spaces values left first i (kept-from (contains right.at) left.at i is).0)
    ∙ sym (lengths-on (extent spaces values) shared) in
    ap (λ ns. sum_by (λ s. word_under (names ++ shared) (tuple ++ s) left * word_under (names ++ shared) (tuple ++ s) right) (tuples ns) % 2 ^ 64) dims
