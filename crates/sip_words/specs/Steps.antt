-- How a number is read, digit by digit.
use Rattle.std.specs.Prelude.{ℕ, ◌+◌, ◌-◌, ◌*◌, ◌^◌, List, [], ◌∷◌, ◌&&◌, nat_lt, Option, Some, None, option_and_then}
use Rattle.sip_words.specs.Numbers.{only_if, is_digit}

-- a number with one more digit, where that is below 2^64
abbrev pub number_after : (value digit : ℕ) → Option ℕ
number_after value digit = only_if (is_digit digit && nat_lt (value * 10 + (digit - 48)) (2 ^ 64)) (value * 10 + (digit - 48))

-- a number with further digits
abbrev pub number_from : (value : ℕ) → (digits : List ℕ) → Option ℕ
number_from value [] = Some value
number_from value (digit ∷ digits) = option_and_then (λ more. number_from more digits) (number_after value digit)

-- the number that a word is, found so
abbrev pub number_read : (word : List ℕ) → Option ℕ
number_read [] = None
number_read (digit ∷ digits) = number_from 0 (digit ∷ digits)
