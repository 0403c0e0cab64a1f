-- The bytes of the number that some bytes spell are these bytes.
use Rattle.std.proofs.Common.{◌≡◌, ℕ, zero, suc, ◌+◌, ◌*◌, ◌^◌, ◌<◌, ◌≤◌, ◌%◌, List, [], ◌∷◌, length, get_or, take, refl, sym, ap, ◌∙◌, append-nil, arith, inl, inr, length-take}
use Rattle.std.proofs.Math.Nat.{add-mul, mul-le-mul_right, mod-lt, mod-eq_of_lt}
use Rattle.std.proofs.lemmas.Bool.{cases_lt}
use Rattle.std.proofs.lemmas.List.{get_or-take, get_or_past}
use Rattle.std.specs.Int.{byte_at, bytes_high_first}
use Rattle.byteorder.specs.Endian.{big_from, big_number}
use Rattle.byteorder.specs.Numbers.{big_from-cons, big_from-take, big_from-lt, big_from-bytes, length-bytes_high_first}

-- numbers below 256
abbrev pub IsBytes : List ℕ → Type 0
IsBytes bytes = (i : ℕ) → get_or bytes i 0 < 256

pub IsBytes-take : (n : ℕ) (bytes : List ℕ) → IsBytes bytes → IsBytes (take n bytes)
IsBytes-take n bytes h i =
    elim (cases_lt i n) [
      | inl lt ↦ rw (get_or-take n bytes i 0 lt) (h i)
      | inr le ↦ rw (get_or_past (take n bytes) i 0 (omega (arith, length-take n bytes))) (omega arith)
    ]

-- the higher digit is the same where the numbers are
digit_below : (p x y a b : ℕ) → a < p → b < p → x * p + a ≡ y * p + b → y ≤ x
digit_below p x y a b ha hb e =
    elim (cases_lt x y) [
      | inl lt ↦
          let top : (x + 1) * p ≤ y * p = mul-le-mul_right p (omega (arith, lt)) in
          let expand : (x + 1) * p ≡ x * p + 1 * p = add-mul x 1 p in
          absurd (omega (arith, top, expand, ha, hb, e))
      | inr le ↦ le
    ]

-- bytes that spell one number are the same
same_bytes : (n : ℕ) (xs ys : List ℕ) → length xs ≡ n → length ys ≡ n → IsBytes xs → IsBytes ys → big_from 0 n xs ≡ big_from 0 n ys → xs ≡ ys
same_bytes zero [] [] lx ly hx hy e = refl
same_bytes zero (x ∷ xs) ys lx ly hx hy e = absurd (omega (arith, lx))
same_bytes zero [] (y ∷ ys) lx ly hx hy e = absurd (omega (arith, ly))
same_bytes (suc n) [] ys lx ly hx hy e = absurd (omega (arith, lx))
same_bytes (suc n) (x ∷ xs) [] lx ly hx hy e = absurd (omega (arith, ly))
same_bytes (suc n) (x ∷ xs) (y ∷ ys) lx ly hx hy e =
    let bx : IsBytes xs = λ i. hx (suc i) in
    let by : IsBytes ys = λ i. hy (suc i) in
    let a = big_from-lt 0 n xs bx in
    let b = big_from-lt 0 n ys by in
    let whole : x * 256 ^ n + big_from 0 n xs ≡ y * 256 ^ n + big_from 0 n ys =
    ap (λ (r : ℕ). x * 256 ^ n + r) (sym (big_from-cons 0 n x xs)) ∙ e ∙ ap (λ (r : ℕ). y * 256 ^ n + r) (big_from-cons 0 n y ys) in
    let left = digit_below (256 ^ n) x y (big_from 0 n xs) (big_from 0 n ys) a b whole in
    let right = digit_below (256 ^ n) y x (big_from 0 n ys) (big_from 0 n xs) b a (sym whole) in
    let head : x ≡ y = omega (arith, left, right) in
    let rest : big_from 0 n xs ≡ big_from 0 n ys = let h = ap (λ (z : ℕ). z * 256 ^ n) head in omega (arith, h, whole) in
    let tail : xs ≡ ys = same_bytes n xs ys (omega (arith, lx)) (omega (arith, ly)) bx by rest in
    rw (head, tail) refl

byte_at-lt : (k x : ℕ) → byte_at k x < 256
byte_at-lt zero x = mod-lt x (omega arith)
byte_at-lt (suc k) x = mod-lt _ (omega arith)

IsBytes-bytes_high_first : (n x : ℕ) → IsBytes (bytes_high_first n x)
IsBytes-bytes_high_first zero x i = omega arith
IsBytes-bytes_high_first (suc n) x zero = byte_at-lt n x
IsBytes-bytes_high_first (suc n) x (suc i) = IsBytes-bytes_high_first n x i

pub bytes_of_number : (n : ℕ) (xs : List ℕ) → n ≤ length xs → IsBytes xs → bytes_high_first n (big_number n xs) ≡ take n xs
bytes_of_number n xs long fits =
    let x = big_from 0 n xs in
    let taken : big_from 0 n (take n xs) ≡ x = big_from-take 0 n n xs (omega arith) in
    let back : big_from 0 n (bytes_high_first n x) ≡ x % 256 ^ n = ap (big_from 0 n) (sym (append-nil (bytes_high_first n x))) ∙ big_from-bytes n x [] in
    let low : x % 256 ^ n ≡ x = mod-eq_of_lt (big_from-lt 0 n xs fits) in
    same_bytes n (bytes_high_first n x) (take n xs) (length-bytes_high_first n x) (omega (arith, length-take n xs)) (IsBytes-bytes_high_first n x) (IsBytes-take n xs fits) (back ∙ low ∙ sym taken)
