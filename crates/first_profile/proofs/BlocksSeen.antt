-- Blocks of the first profile as the sequential meaning sees them: on one dimension.
use Rattle.std.proofs.Common.{◌≡◌, ℕ, ◌+◌, ◌-◌, ◌*◌, ◌%◌, ◌^◌, ◌<◌, true, false, ◌&&◌, nat_eq, List, [], ◌∷◌, ◌++◌, Some, None, map, length, replicate, slice_index_or, sum_by, sum, fold, refl, sym, ap, ◌∙◌, arith, add-one, cond, ◌||◌}
use Rattle.std.proofs.lemmas.Bool.Decides.{nat_tests}
use Rattle.std.proofs.lemmas.Simd.{map-map}
use Rattle.std.specs.Prelude.{find, unwrap_or}
use Rattle.block_math.specs.Elements.{paired, sums, dot_of}
use Rattle.sial_syntax.specs.Boxes.{numbers_from, tuples, place_of}
use Rattle.sial_syntax.specs.Spaces.{Spaces, Extent}
use Rattle.sial_syntax.specs.declared.operand.Op.{Op}
use Rattle.sial_syntax.specs.declared.operand.Op.TheVariants.{Set, Add}
use Rattle.sial_meaning.specs.Number.{plus}
use Rattle.sial_meaning.specs.Right.{Plain, Shown, Side, Alone, assigned, product_at, shared_dims, dim_lengths, side_at, met, both}
use Rattle.sial_meaning.specs.Sight.{Sight, element, position, itself_or, stands_for, word_at, lies_on, places_at}
use Rattle.sial_syntax.proofs.BoxLemmas.{map-from, numbers-step}
use Rattle.first_profile.proofs.Places.{tuples-one, map-tuples, place-one, map-same}

-- a number is itself
pub same-self : (n : ℕ) → nat_eq n n ≡ true
same-self n = grind (arith, nat_tests)

-- a position within an extent lies on it
pub lies-within : (e : Extent) (k : ℕ) → k < e.len → lies_on e (e.start + k) ≡ true
lies-within e k within = grind (arith, nat_tests)

-- a block with one index
abbrev pub one : (index : ℕ) → Extent → List ℕ → Sight
one index extent words = record { at = index ∷ []; extents = extent ∷ []; words = words }

-- the position of an index that was given one
pub position-one : (spaces : Spaces) (own : List ℕ) (index p : ℕ) → position spaces own ((index, p) ∷ []) index ≡ p
position-one spaces own index p =
    ap
    (λ b. itself_or (cond b (Some (index, p)) None) (find (λ (q : ℕ × ℕ). stands_for spaces own index q.0) ((index, p) ∷ [])))
    (same-self index)

-- the element of a block with one index at a position of that index
pub element-one : (spaces : Spaces) (index : ℕ) (e : Extent) (words : List ℕ) (k : ℕ) → k < e.len → element spaces ((index, e.start + k) ∷ []) (one index e words) ≡ Some (slice_index_or words k 0)
element-one spaces index e words k within =
    let at : ((e.start + k) - e.start) * 1 + 0 ≡ k = omega arith in
    ap (λ p. cond (lies_on e p && true) (Some (slice_index_or words ((p - e.start) * 1 + 0) 0)) None) (position-one spaces (index ∷ []) index (e.start + k))
    ∙ (ap (λ b. cond (b && true) (Some (slice_index_or words (((e.start + k) - e.start) * 1 + 0) 0)) None) (lies-within e k within)
    ∙ ap (λ n. Some (slice_index_or words n 0)) at)

-- f of the places of one list and those of another, paired
pub map-paired : (f : ℕ → ℕ → ℕ) (xs ys : List ℕ) → length xs ≡ length ys → map (λ (k : ℕ). f (slice_index_or xs k 0) (slice_index_or ys k 0)) (numbers_from 0 (length xs)) ≡ paired f xs ys
map-paired f [] ys same = refl
map-paired f (x ∷ xs) [] same = absurd (omega (arith, same))
map-paired f (x ∷ xs) (y ∷ ys) same =
    let rest : length xs ≡ length ys = omega (arith, same) in
    ap
    (λ zs. f x y ∷ zs)
    (ap (map (λ (k : ℕ). f (slice_index_or (x ∷ xs) k 0) (slice_index_or (y ∷ ys) k 0))) (sym (numbers-step 0 (length xs)))
    ∙ (map-map (λ (k : ℕ). f (slice_index_or (x ∷ xs) k 0) (slice_index_or (y ∷ ys) k 0)) (λ (k : ℕ). k + 1) (numbers_from 0 (length xs))
    ∙ (map-from
    (λ (k : ℕ). f (slice_index_or (x ∷ xs) (k + 1) 0) (slice_index_or (y ∷ ys) (k + 1) 0))
    (λ (k : ℕ). f (slice_index_or xs k 0) (slice_index_or ys k 0))
    0
    (length xs)
    (λ k from below. ap (λ j. f (slice_index_or (x ∷ xs) j 0) (slice_index_or (y ∷ ys) j 0)) (add-one k))
    ∙ map-paired f xs ys rest)))

-- an assignment to a block with one index, number by number
pub assigned-one : (spaces : Spaces) (op : Op) (index : ℕ) (e : Extent) (words : List ℕ) (side : Side) → assigned spaces op (one index e words) side ≡ map (λ (k : ℕ). met op (slice_index_or words k 0) (side_at spaces ((index, e.start + k) ∷ []) side)) (numbers_from 0 e.len)
assigned-one spaces op index e words side =
    ap (map (λ t. met op (word_at (one index e words) t) (side_at spaces (places_at ((index, e) ∷ []) t) side))) (tuples-one e.len)
    ∙ (map-tuples (λ t. met op (word_at (one index e words) t) (side_at spaces (places_at ((index, e) ∷ []) t) side)) (numbers_from 0 e.len)
    ∙ map-from
    (λ (k : ℕ). met op (slice_index_or words (place_of (e.len ∷ []) (k ∷ [])) 0) (side_at spaces ((index, e.start + k) ∷ []) side))
    (λ (k : ℕ). met op (slice_index_or words k 0) (side_at spaces ((index, e.start + k) ∷ []) side))
    0
    e.len
    (λ k from below. ap (λ n. met op (slice_index_or words n 0) (side_at spaces ((index, e.start + k) ∷ []) side)) (place-one e.len k)))

-- a number set in each place
pub filled-one : (spaces : Spaces) (index : ℕ) (e : Extent) (words : List ℕ) (n : ℕ) → assigned spaces Set (one index e words) (Alone (Plain n)) ≡ replicate e.len n
filled-one spaces index e words n = assigned-one spaces Set index e words (Alone (Plain n)) ∙ map-same n 0 e.len

-- a block added at each place
pub added-one : (spaces : Spaces) (index : ℕ) (e : Extent) (words other : List ℕ) → length words ≡ e.len → length other ≡ e.len → assigned spaces Add (one index e words) (Alone (Shown (one index e other))) ≡ sums words other
added-one spaces index e words other words_len other_len =
    assigned-one spaces Add index e words (Alone (Shown (one index e other)))
    ∙ (map-from
    (λ (k : ℕ). met Add (slice_index_or words k 0) (element spaces ((index, e.start + k) ∷ []) (one index e other)))
    (λ (k : ℕ). plus (slice_index_or words k 0) (slice_index_or other k 0))
    0
    e.len
    (λ k from below. ap (met Add (slice_index_or words k 0)) (element-one spaces index e other k (omega (arith, below))))
    ∙ (ap (λ n. map (λ (k : ℕ). plus (slice_index_or words k 0) (slice_index_or other k 0)) (numbers_from 0 n)) (sym words_len)
    ∙ map-paired plus words other (words_len ∙ sym other_len)))

-- a sum of what each gives is the sum of what all give
pub fold-map : {X : Type 0} (f : X → ℕ) (a : ℕ) (xs : List X) → fold (λ b x. b + f x) a xs ≡ fold ◌+◌ a (map f xs)
fold-map f a [] = refl
fold-map f a (x ∷ xs) = fold-map f (a + f x) xs

-- two blocks with one index share it
pub shared-one : (index : ℕ) (e : Extent) (words other : List ℕ) → shared_dims (one index e words) (one index e other) ≡ (index, e) ∷ []
shared-one index e words other = ap (λ b. cond (b || false) ((index, e) ∷ []) []) (same-self index)

-- the product of two blocks with one index, summed over it
pub product-one : (spaces : Spaces) (index : ℕ) (e : Extent) (words other : List ℕ) → length words ≡ e.len → length other ≡ e.len → product_at spaces [] (one index e words) (one index e other) ≡ dot_of words other
product-one spaces index e words other words_len other_len =
    let a = one index e words in
    let b = one index e other in
    let term : List (ℕ × Extent) → List ℕ → ℕ = λ dims t. unwrap_or (both (λ x y. x * y) (element spaces ([] ++ places_at dims t) a) (element spaces ([] ++ places_at dims t) b)) 0 in
    ap (λ dims. sum_by (term dims) (tuples (dim_lengths dims)) % 2 ^ 64) (shared-one index e words other)
    ∙ ap
    (λ n. n % 2 ^ 64)
    (fold-map (term ((index, e) ∷ [])) 0 (tuples (e.len ∷ []))
    ∙ ap
    sum
    (ap (map (term ((index, e) ∷ []))) (tuples-one e.len)
    ∙ (map-tuples (term ((index, e) ∷ [])) (numbers_from 0 e.len)
    ∙ (map-from
    (λ (k : ℕ). term ((index, e) ∷ []) (k ∷ []))
    (λ (k : ℕ). slice_index_or words k 0 * slice_index_or other k 0)
    0
    e.len
    (λ k from below.
    ap (λ x. unwrap_or (both (λ x y. x * y) x (element spaces ((index, e.start + k) ∷ []) b)) 0) (element-one spaces index e words k (omega (arith, below)))
    ∙ ap (λ y. unwrap_or (both (λ x y. x * y) (Some (slice_index_or words k 0)) y) 0) (element-one spaces index e other k (omega (arith, below))))
    ∙ (ap (λ n. map (λ (k : ℕ). slice_index_or words k 0 * slice_index_or other k 0) (numbers_from 0 n)) (sym words_len)
    ∙ map-paired (λ x y. x * y) words other (words_len ∙ sym other_len))))))
