-- Sums of a term over the first numbers.
use Rattle.std.proofs.Common.{◌≡◌, ℕ, ◌+◌, ◌*◌, ◌%◌, ◌^◌, ◌<◌, zero, suc, refl, ap, ◌∙◌, arith, add-one}
use Rattle.std.proofs.Math.Nat.{mod-add-mod}
use Rattle.kernel_contract.specs.Sum.{sum_to}
use Rattle.kernel_contract.proofs.Numbers.{mod_both}

-- equal terms have equal sums
pub sum_to-cong : (n : ℕ) (f g : ℕ → ℕ) → ((k : ℕ) → k < n → f k ≡ g k) → sum_to n f ≡ sum_to n g
sum_to-cong zero f g e = refl
sum_to-cong (suc n) f g e =
    let front : sum_to n f ≡ sum_to n g = sum_to-cong n f g (λ k h. e k (omega arith)) in
    let last : f n ≡ g n = e n (omega arith) in
    rw (front, last)

-- a sum in two parts
pub sum_to-add : (n m : ℕ) (f : ℕ → ℕ) → sum_to (n + m) f ≡ sum_to n f + sum_to m (λ k. f (n + k))
sum_to-add n zero f = let shape : n + 0 ≡ n = omega arith in rw shape (omega arith)
sum_to-add n (suc m) f =
    let front : sum_to (n + m) f ≡ sum_to n f + sum_to m (λ k. f (n + k)) = sum_to-add n m f in
    let shape : n + suc m ≡ suc (n + m) = omega arith in
    rw shape (omega (arith, front))

-- a sum over rows of one length
pub sum_to-mul : (n m : ℕ) (f : ℕ → ℕ) → sum_to (n * m) f ≡ sum_to n (λ i. sum_to m (λ j. f (i * m + j)))
sum_to-mul zero m f = let shape : 0 * m ≡ 0 = omega arith in rw shape
sum_to-mul (suc n) m f =
    let front : sum_to (n * m) f ≡ sum_to n (λ i. sum_to m (λ j. f (i * m + j))) = sum_to-mul n m f in
    let both : sum_to (n * m + m) f ≡ sum_to (n * m) f + sum_to m (λ k. f (n * m + k)) = sum_to-add (n * m) m f in
    let shape : suc n * m ≡ n * m + m = omega arith in
    rw shape (both ∙ ap (λ t. t + sum_to m (λ k. f (n * m + k))) front)

-- a sum modulo 2^64 goes on by further terms
pub sum_more : (f : ℕ → ℕ) (k n sum more : ℕ) → sum ≡ sum_to k f % 2 ^ 64 → more ≡ sum_to n (λ i. f (k + i))
    → (sum + more) % 2 ^ 64 ≡ sum_to (k + n) f % 2 ^ 64
sum_more f k n sum more e m =
    rw (e, m, sum_to-add k n f) (mod-add-mod (sum_to k f) (2 ^ 64) (sum_to n (λ i. f (k + i))))

-- or by its next term
pub sum_next : (f : ℕ → ℕ) (k sum next : ℕ) → sum ≡ sum_to k f % 2 ^ 64 → next ≡ f k % 2 ^ 64 → (sum + next) % 2 ^ 64 ≡ sum_to (k + 1) f % 2 ^ 64
sum_next f k sum next e n = rw (e, n, add-one) (mod_both (sum_to k f) (f k) (2 ^ 64))
