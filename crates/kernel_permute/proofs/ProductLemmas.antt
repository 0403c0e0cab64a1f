-- Lemmas on products of dimensions and on strides.
use Rattle.std.proofs.Common.{◌≡◌, ℕ, zero, suc, ◌+◌, ◌*◌, ◌<◌, ◌≤◌, List, [], ◌∷◌, length, get_or, drop, set, ap, sym, ◌∙◌, refl, arith}
use Rattle.std.proofs.Math.Nat.{mul_comm, le-mul_of_pos_right}
use Rattle.std.proofs.lemmas.List.{drop-set, drop_more}
use Rattle.kernel_permute.specs.Positions.{product, strides_of}

-- a product that is not 0 has no factor 0
pub positive_left : (n m : ℕ) → 0 < n * m → 0 < n
positive_left zero m h = absurd (omega arith)
positive_left (suc n) m h = omega arith

pub positive_right : (n m : ℕ) → 0 < n * m → 0 < m
positive_right n m h = let flipped : 0 < m * n = rw (mul_comm m n) h in positive_left m n flipped

-- the product of the later dimensions is not above that of all
pub product-drop : (ds : List ℕ) (k : ℕ) → 0 < product ds → product (drop k ds) ≤ product ds
product-drop ds zero some = omega arith
product-drop [] (suc k) some = omega arith
product-drop (d ∷ ds) (suc k) some =
    let rest : product (drop k ds) ≤ product ds = product-drop ds k (positive_right d (product ds) some) in
    let more : product ds ≤ product ds * d = le-mul_of_pos_right (product ds) (positive_left d (product ds) some) in
    omega arith

-- one more dimension, to the left of those that are done
pub product_turn : (dims : List ℕ) (j k width : ℕ) → j + 1 ≡ k → k ≤ length dims → width ≡ product (drop k dims) → width * get_or dims j 0 ≡ product (drop j dims)
product_turn dims j k width next below is =
    let inside : j < length dims = omega arith in
    rw (is, ← next, drop_more dims j 0 inside) (mul_comm (product (drop (j + 1) dims)) (get_or dims j 0))

pub strides_turn : (dims strides : List ℕ) (j k width : ℕ) → j + 1 ≡ k → k ≤ length dims → length strides ≡ length dims → width ≡ product (drop k dims) → drop k strides ≡ strides_of (drop k dims) → drop j (set strides j width) ≡ strides_of (drop j dims)
strides_turn dims strides j k width next below long is before =
    let inside : j < length dims = omega arith in
    let within : j < length strides = omega arith in
    drop-set strides j width within
    ∙ (rw (next, before, is, ← next) refl)
    ∙ ap strides_of (sym (drop_more dims j 0 inside))

pub length-strides_of : (ds : List ℕ) → length (strides_of ds) ≡ length ds
length-strides_of [] = refl
length-strides_of (d ∷ ds) = ap (λ n. suc n) (length-strides_of ds)
