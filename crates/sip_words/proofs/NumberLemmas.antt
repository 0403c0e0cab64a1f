-- The number that digits are, found from left to right.
use Rattle.std.proofs.Common.{◌≡◌, ℕ, ◌+◌, ◌-◌, ◌*◌, ◌^◌, ◌<◌, ◌≤◌, List, [], ◌∷◌, Bool, true, false, ◌&&◌, nat_lt, None, refl, ap, ◌∙◌, sym, arith}
use Rattle.std.specs.List.{fold, list_all}
use Rattle.std.specs.Option.{option_and_then}
use Rattle.std.proofs.lemmas.Bool.{lt-ltb, le-ltb, ltb-true, ltb-false}
use Rattle.sip_words.specs.Numbers.{only_if, is_digit, number_in}
use Rattle.sip_words.specs.Steps.{number_from, number_read}

-- one more digit
abbrev more : ℕ → ℕ → ℕ
more = λ value digit. value * 10 + (digit - 48)

grows : (digits : List ℕ) (value : ℕ) → value ≤ fold more value digits
grows [] value = omega arith
grows (d ∷ ds) value = let h : value * 10 + (d - 48) ≤ fold more (value * 10 + (d - 48)) ds = grows ds (value * 10 + (d - 48)) in omega arith

never : (b : Bool) (n : ℕ) → None ≡ only_if (b && false) n
never true n = refl
never false n = refl

one_digit : (b c : Bool) (w : ℕ) (ds : List ℕ) → nat_lt w (2 ^ 64) ≡ c
    → (w < 2 ^ 64 → number_from w ds ≡ only_if (list_all is_digit ds && nat_lt (fold more w ds) (2 ^ 64)) (fold more w ds))
    → option_and_then (λ m. number_from m ds) (only_if (b && c) w) ≡ only_if ((b && list_all is_digit ds) && nat_lt (fold more w ds) (2 ^ 64)) (fold more w ds)
one_digit false true w ds e rest = refl
one_digit false false w ds e rest = refl
one_digit true true w ds e rest = rest (ltb-true w (2 ^ 64) e)
one_digit true false w ds e rest =
    let large : 2 ^ 64 ≤ fold more w ds = omega (arith, ltb-false w (2 ^ 64) e, grows ds w) in
    never (list_all is_digit ds) (fold more w ds) ∙ ap (λ c. only_if (list_all is_digit ds && c) (fold more w ds)) (sym (le-ltb (fold more w ds) (2 ^ 64) large))

numbered : (ds : List ℕ) (v : ℕ) → v < 2 ^ 64 → number_from v ds ≡ only_if (list_all is_digit ds && nat_lt (fold more v ds) (2 ^ 64)) (fold more v ds)
numbered [] v h = sym (ap (λ b. only_if b v) (lt-ltb v (2 ^ 64) h))
numbered (d ∷ ds) v h = one_digit (is_digit d) (nat_lt (more v d) (2 ^ 64)) (more v d) ds refl (numbered ds (more v d))

pub number_found : (word : List ℕ) → number_read word ≡ number_in word
number_found [] = refl
number_found (d ∷ ds) = numbered (d ∷ ds) 0 (omega arith)
