-- Numbers at the front of a text.
use Rattle.std.proofs.Common.{◌≡◌, ℕ, ◌+◌, ◌-◌, ◌*◌, ◌^◌, ◌<◌, ◌≤◌, List, [], ◌∷◌, ◌++◌, Bool, true, false, cond, nat_lt, take, drop, length, Option, Some, None, refl, sym, ap, ◌∙◌, arith}
use Rattle.std.specs.List.{list_all, prefix_len, fold}
use Rattle.std.specs.Option.{option_and_then}
use Rattle.std.proofs.lemmas.Bool.{lt-ltb, le-ltb, ltb-true, ltb-false}
use Rattle.std.proofs.Math.Seq.{take-append_seam, drop-append_seam}
use Rattle.sial_lexer.specs.Characters.{is_digit, begins}
use Rattle.sial_lexer.specs.Pieces.{value_of, digits_of, past_digits}
use Rattle.sial_lexer.specs.Scanning.{value_in, number_at, with_fraction, fraction_len}
use Rattle.sial_lexer.proofs.RunLemmas.{run_is}

-- one more digit
abbrev more : ℕ → ℕ → ℕ
more = λ value digit. value * 10 + (digit - 48)

-- further digits make no number smaller
grows : (digits : List ℕ) (value : ℕ) → value ≤ fold more value digits
grows [] value = omega arith
grows (d ∷ ds) value = let h : value * 10 + (d - 48) ≤ fold more (value * 10 + (d - 48)) ds = grows ds (value * 10 + (d - 48)) in omega arith

-- a number where it fits 64 bits
abbrev pub fitting : ℕ → Option ℕ
fitting value = cond (nat_lt value (2 ^ 64)) (Some value) None

one_digit : (b : Bool) (w : ℕ) (ds : List ℕ) → nat_lt w (2 ^ 64) ≡ b → (w < 2 ^ 64 → value_in w ds ≡ fitting (fold more w ds))
    → option_and_then (λ m. value_in m ds) (cond b (Some w) None) ≡ fitting (fold more w ds)
one_digit true w ds e rest = rest (ltb-true w (2 ^ 64) e)
one_digit false w ds e rest =
    let large : 2 ^ 64 ≤ fold more w ds = omega (arith, ltb-false w (2 ^ 64) e, grows ds w) in
    ap (λ c. cond c (Some (fold more w ds)) None) (sym (le-ltb (fold more w ds) (2 ^ 64) large))

-- a number is read where the value of its digits fits
pub value_read : (ds : List ℕ) (v : ℕ) → v < 2 ^ 64 → value_in v ds ≡ fitting (fold more v ds)
value_read [] v h = ap (λ b. cond b (Some v) None) (sym (lt-ltb v (2 ^ 64) h))
value_read (d ∷ ds) v h = one_digit (nat_lt (more v d) (2 ^ 64)) (more v d) ds refl (value_read ds (more v d))

-- digits before a byte that is none
module _ (digits rest : List ℕ) (all : list_all is_digit digits ≡ true) (stop : begins is_digit rest ≡ false) where
  many : prefix_len is_digit (digits ++ rest) ≡ length digits
  many = run_is is_digit digits rest all stop

  -- the digits at the front
  pub digits_are : digits_of (digits ++ rest) ≡ digits
  digits_are = ap (λ n. take n (digits ++ rest)) many ∙ take-append_seam digits rest

  -- what follows them
  pub past_are : past_digits (digits ++ rest) ≡ rest
  past_are = ap (λ n. drop n (digits ++ rest)) many ∙ drop-append_seam digits rest

  -- the number is read from both
  pub number_is : number_at (digits ++ rest) ≡ with_fraction (fitting (value_of digits)) (length digits) (fraction_len rest)
  unfolding number_at
  number_is =
      ap (λ ds. with_fraction (value_in 0 ds) (prefix_len is_digit (digits ++ rest)) (fraction_len (past_digits (digits ++ rest)))) digits_are
      ∙ ap (λ v. with_fraction v (prefix_len is_digit (digits ++ rest)) (fraction_len (past_digits (digits ++ rest)))) (value_read digits 0 (omega arith))
      ∙ ap (λ n. with_fraction (fitting (value_of digits)) n (fraction_len (past_digits (digits ++ rest)))) many
      ∙ ap (λ r. with_fraction (fitting (value_of digits)) (length digits) (fraction_len r)) past_are
