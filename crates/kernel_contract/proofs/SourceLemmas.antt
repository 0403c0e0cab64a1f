-- Offsets in the sources modulo 2^64, and sums over shared positions as far as a walk has come.
use Rattle.std.proofs.Common.{◌≡◌, ℕ, ◌+◌, ◌*◌, ◌%◌, ◌^◌, ◌<◌, ◌≤◌, ◌⊎◌, inl, inr, subst, List, [], ◌∷◌, get_or, ap, sym, ◌∙◌, arith, add_comm}
use Rattle.std.proofs.Math.Nat.{add-mod-mod, mod-add-mod}
use Rattle.kernel_contract.specs.Parts.{Reaches, sum_from, term_at}
use Rattle.kernel_contract.specs.Positions.{IsPosition, offset_a, offset_b, sum_over}
use Rattle.kernel_contract.specs.Product.{entry, row_by}
use Rattle.kernel_contract.specs.Sum.{sum_to}
use Rattle.kernel_contract.specs.Walks.{count, position_at}
use Rattle.kernel_contract.specs.declared.axis.Axis.{Axis}
use Rattle.kernel_contract.proofs.PositionLemmas.{IsPosition-position_at}
use Rattle.kernel_contract.proofs.Sums.{sum_to-cong}

-- an offset that is added may be known modulo 2^64 alone
pub add-known : (p x o : ℕ) → x ≡ o % 2 ^ 64 → (p + x) % 2 ^ 64 ≡ (p + o) % 2 ^ 64
add-known p x o e = rw e (add-mod-mod p o (2 ^ 64))

pub known-add : (x o p : ℕ) → x ≡ o % 2 ^ 64 → (x + p) % 2 ^ 64 ≡ (o + p) % 2 ^ 64
known-add x o p e = rw e (mod-add-mod o (2 ^ 64) p)

-- the position with a number is reached
pub Reaches-position_at : (offset_of : List Axis → List ℕ → ℕ) (axes : List Axis) (from len k x : ℕ) → Reaches offset_of axes from len → k < count axes
    → x ≡ offset_of axes (position_at axes k) % 2 ^ 64 → (from + x) % 2 ^ 64 < len
Reaches-position_at offset_of axes from len k x reaches low e =
    rw (add-known from x (offset_of axes (position_at axes k)) e) (reaches (position_at axes k) (IsPosition-position_at axes k low))

split : (i n : ℕ) → (i < n) ⊎ (n ≤ i)
split i n = grind arith

-- what holds of a run's offsets holds of all that fill the array
pub all-filled : (N : ℕ) (P : ℕ → Type 0) (xs : List ℕ) (n : ℕ) → 0 < n → ((i : ℕ) → n ≤ i → i < N → get_or xs i 0 ≡ get_or xs 0 0)
    → ((i : ℕ) → i < n → P (get_or xs i 0)) → (i : ℕ) → i < N → P (get_or xs i 0)
all-filled N P xs n some filled holds i low =
    elim (split i n) [ inl front ↦ holds i front | inr behind ↦ subst P (sym (filled i behind low)) (holds 0 some) ]

-- equal terms have equal sums over all positions
pub sum_over-cong : (axes : List Axis) (f g : List ℕ → ℕ) → ((s : List ℕ) → IsPosition axes s → f s ≡ g s) → sum_over axes f ≡ sum_over axes g
sum_over-cong [] f g e = e [] tt
sum_over-cong (x ∷ xs) f g e =
    sum_to-cong x.len (λ n. sum_over xs (λ s. f (n ∷ s))) (λ n. sum_over xs (λ s. g (n ∷ s)))
    (λ n h. sum_over-cong xs (λ s. f (n ∷ s)) (λ s. g (n ∷ s)) (λ s p. e (n ∷ s) (h, p)))

-- so the second offset of a sum may be known modulo 2^64 alone
pub sum_from-known : (a b : List ℕ) (axes : List Axis) (p x o : ℕ) → x ≡ o % 2 ^ 64 → sum_from a b axes p x ≡ sum_from a b axes p o
sum_from-known a b axes p x o e =
    ap (λ t. t % 2 ^ 64)
    (sum_over-cong axes
    (λ s. get_or a ((p + offset_a axes s) % 2 ^ 64) 0 * get_or b ((x + offset_b axes s) % 2 ^ 64) 0)
    (λ s. get_or a ((p + offset_a axes s) % 2 ^ 64) 0 * get_or b ((o + offset_b axes s) % 2 ^ 64) 0)
    (λ s _. ap (λ t. get_or a ((p + offset_a axes s) % 2 ^ 64) 0 * get_or b t 0) (known-add x o (offset_b axes s) e)))

-- the product of a packed row and a packed column is the sum of their terms
pub row_by-terms : (a b : List ℕ) (axes : List Axis) (p q first s : ℕ) (row : List ℕ) (part : List (List ℕ)) (j : ℕ) (x y : ℕ → ℕ)
    → ((k : ℕ) → k < s → get_or row k 0 ≡ get_or a ((p + x k) % 2 ^ 64) 0)
    → ((k : ℕ) → k < s → entry part k j ≡ get_or b ((y k + q) % 2 ^ 64) 0)
    → ((k : ℕ) → k < s → x k ≡ offset_a axes (position_at axes (first + k)) % 2 ^ 64)
    → ((k : ℕ) → k < s → y k ≡ offset_b axes (position_at axes (first + k)) % 2 ^ 64)
    → row_by row part s j ≡ sum_to s (λ k. term_at a b axes p q (first + k))
row_by-terms a b axes p q first s row part j x y rows columns in_a in_b =
    sum_to-cong s (λ k. get_or row k 0 * entry part k j) (λ k. term_at a b axes p q (first + k))
    (λ k h.
    let left = rows k h ∙ ap (λ t. get_or a t 0) (add-known p (x k) (offset_a axes (position_at axes (first + k))) (in_a k h)) in
    let turned = ap (λ t. t % 2 ^ 64) (add_comm (y k) q) in
    let right = columns k h ∙ ap (λ t. get_or b t 0) (turned ∙ add-known q (y k) (offset_b axes (position_at axes (first + k))) (in_b k h)) in
    rw (left, right))
