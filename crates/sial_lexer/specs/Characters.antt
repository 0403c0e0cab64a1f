-- The bytes of texts: what each begins, and where it may stand.
use Rattle.std.specs.Prelude.{ℕ, ◌+◌, List, [], ◌∷◌, Bool, false, if◌then◌else◌, ◌==◌, ◌&&◌, ◌||◌, not, nat_le, map}
use Rattle.sial_lexer.specs.declared.beginning.Beginning.{Beginning}
use Rattle.sial_lexer.specs.declared.beginning.Beginning.TheVariants.{Letter, Digit, Quote, Hash, Blank, LineFeed, Return, Sign, Nothing}

-- whether a byte is a small letter
abbrev pub is_small : ℕ → Bool
is_small b = nat_le 97 b && nat_le b 122

-- whether a byte is a capital letter
abbrev pub is_capital : ℕ → Bool
is_capital b = nat_le 65 b && nat_le b 90

-- whether a byte is a letter
abbrev pub is_letter : ℕ → Bool
is_letter b = is_small b || is_capital b

-- whether a byte is a digit
abbrev pub is_digit : ℕ → Bool
is_digit b = nat_le 48 b && nat_le b 57

-- whether a byte is the digit 0
abbrev pub is_zero : ℕ → Bool
is_zero b = b == 48

-- whether a byte is a digit or a point
abbrev pub is_digit_or_point : ℕ → Bool
is_digit_or_point b = is_digit b || b == 46

-- whether a byte stands in names: a letter, a digit or `_`
abbrev pub is_word_byte : ℕ → Bool
is_word_byte b = is_letter b || (is_digit b || b == 95)

-- whether a byte stands in printed texts: 32 to 126, but not `"`
abbrev pub is_text_byte : ℕ → Bool
is_text_byte b = nat_le 32 b && (nat_le b 126 && not (b == 34))

-- whether a byte is no line feed
abbrev pub is_within_line : ℕ → Bool
is_within_line b = not (b == 10)

-- whether a byte is a space or a tab
abbrev pub is_blank : ℕ → Bool
is_blank b = b == 32 || b == 9

-- whether a byte is a sign by itself: `= < > + - * ^ ( ) ,`
abbrev pub is_sign_byte : ℕ → Bool
is_sign_byte b = b == 61 || (b == 60 || (b == 62 || (b == 43 || (b == 45 || (b == 42 || (b == 94 || (b == 40 || (b == 41 || b == 44))))))))

-- whether a byte and `=` are a sign: `+ - * < > = !`
abbrev pub goes_before_equals : ℕ → Bool
goes_before_equals b = b == 43 || (b == 45 || (b == 42 || (b == 60 || (b == 62 || (b == 61 || b == 33)))))

-- whether a byte begins a sign
abbrev pub begins_sign : ℕ → Bool
begins_sign b = is_sign_byte b || b == 33

-- what a byte begins
abbrev pub beginning_of : ℕ → Beginning
beginning_of b =
    if is_letter b then Letter
    else (if is_digit b then Digit
    else (if b == 34 then Quote
    else (if b == 35 then Hash
    else (if is_blank b then Blank
    else (if b == 10 then LineFeed
    else (if b == 13 then Return
    else (if begins_sign b then Sign
    else Nothing)))))))

-- whether the first byte is of a class
abbrev pub begins : (ℕ → Bool) → List ℕ → Bool
begins class [] = false
begins class (b ∷ bs) = class b

-- a byte with a capital letter made small
abbrev pub small : ℕ → ℕ
small b = if is_capital b then b + 32 else b

-- bytes with capital letters made small
abbrev pub folded : List ℕ → List ℕ
folded bytes = map small bytes
