-- Numbers as words: digits, within limits.
use Rattle.std.specs.Prelude.{ℕ, ◌+◌, ◌-◌, ◌*◌, ◌^◌, List, [], ◌∷◌, Bool, true, false, ◌&&◌, nat_lt, nat_le, Option, Some, None, unwrap_or, option_and_then}
use Rattle.std.specs.List.{fold, list_all}
use Rattle.sip_words.specs.declared.count.Count.{Count}

-- something, where a test holds
abbrev pub only_if : {X : Type 0} → Bool → X → Option X
only_if true x = Some x
only_if false x = None

-- whether a character is a digit
abbrev pub is_digit : (character : ℕ) → Bool
is_digit character = nat_le 48 character && nat_le character 57

-- whether a word is digits, at least one of them
abbrev pub is_numeral : (word : List ℕ) → Bool
is_numeral [] = false
is_numeral (digit ∷ digits) = list_all is_digit (digit ∷ digits)

-- what digits are worth in tens
abbrev pub value_of : (digits : List ℕ) → ℕ
value_of digits = fold (λ value digit. value * 10 + (digit - 48)) 0 digits

-- the number that a word is, where it is digits and the number is below 2^64; leading zeros are granted
abbrev pub number_in : (word : List ℕ) → Option ℕ
number_in word = only_if (is_numeral word && nat_lt (value_of word) (2 ^ 64)) (value_of word)

-- a number, where it is one of the numbers that a count may be
abbrev pub within : Count → ℕ → Option ℕ
within count n = only_if (nat_le count.least n && nat_le n count.most) n

-- the number that a word is, where a count may be it
abbrev pub count_in : Count → (word : List ℕ) → Option ℕ
count_in count word = option_and_then (within count) (number_in word)

-- the number of a count: that of the word where one is given, else the number that stands for none
abbrev pub count_or : Count → (word : Option (List ℕ)) → ℕ
count_or count word = unwrap_or (option_and_then (count_in count) word) count.fallback
