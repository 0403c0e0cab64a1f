-- Boxes of one dimension, and blocks that lie on them.
use Rattle.std.proofs.Common.{◌≡◌, ℕ, zero, suc, ◌+◌, List, [], ◌∷◌, map, length, replicate, slice_index_or, refl, sym, ap, ◌∙◌, arith, add-one}
use Rattle.std.proofs.lemmas.Simd.{map-map}
use Rattle.std.specs.List.{flat_map}
use Rattle.sial_syntax.specs.Boxes.{numbers_from, tuples, place_of}
use Rattle.sial_syntax.proofs.BoxLemmas.{map-from, numbers-step}

-- the tuples of one dimension are its numbers, each alone
pub flat-alone : (ks : List ℕ) → flat_map (λ k. map (λ t. k ∷ t) ([] ∷ [])) ks ≡ map (λ (k : ℕ). k ∷ []) ks
flat-alone [] = refl
flat-alone (k ∷ ks) = ap (λ rest. (k ∷ []) ∷ rest) (flat-alone ks)

-- the tuples of one dimension
pub tuples-one : (n : ℕ) → tuples (n ∷ []) ≡ map (λ (k : ℕ). k ∷ []) (numbers_from 0 n)
tuples-one n = flat-alone (numbers_from 0 n)

-- f of each tuple of one dimension is f of each number alone
pub map-tuples : {X : Type 0} (f : List ℕ → X) (ks : List ℕ) → map f (map (λ (k : ℕ). k ∷ []) ks) ≡ map (λ (k : ℕ). f (k ∷ [])) ks
map-tuples f [] = refl
map-tuples f (k ∷ ks) = ap (λ rest. f (k ∷ []) ∷ rest) (map-tuples f ks)

-- the place of a tuple of one dimension is its number
pub place-one : (n k : ℕ) → place_of (n ∷ []) (k ∷ []) ≡ k
place-one n k = omega arith

-- the same for each number of a row
pub map-same : {X : Type 0} (x : X) (first n : ℕ) → map (λ (k : ℕ). x) (numbers_from first n) ≡ replicate n x
map-same x first zero = refl
map-same x first (suc n) = ap (λ rest. x ∷ rest) (map-same x (first + 1) n)

-- a list read at each of its places
pub map-read : {X Y : Type 0} (f : X → Y) (d : X) (xs : List X) → map (λ (k : ℕ). f (slice_index_or xs k d)) (numbers_from 0 (length xs)) ≡ map f xs
map-read f d [] = refl
map-read f d (x ∷ xs) =
    ap
    (λ rest. f x ∷ rest)
    (ap (map (λ (k : ℕ). f (slice_index_or (x ∷ xs) k d))) (sym (numbers-step 0 (length xs)))
    ∙ (map-map (λ (k : ℕ). f (slice_index_or (x ∷ xs) k d)) (λ (k : ℕ). k + 1) (numbers_from 0 (length xs))
    ∙ (map-from (λ (k : ℕ). f (slice_index_or (x ∷ xs) (k + 1) d)) (λ (k : ℕ). f (slice_index_or xs k d)) 0 (length xs) (λ k from below. ap (λ j. f (slice_index_or (x ∷ xs) j d)) (add-one k))
    ∙ map-read f d xs)))
