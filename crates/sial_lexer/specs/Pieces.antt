-- What a text is made of: which bytes are one piece of it, given the bytes that follow.
use Rattle.std.specs.Prelude.{◌≡◌, ℕ, ◌+◌, ◌-◌, ◌*◌, ◌^◌, ◌<◌, ◌≤◌, ◌⊎◌, List, [], ◌∷◌, ◌++◌, Bool, true, false, ◌&&◌, ◌==◌, take, drop, length}
use Rattle.std.specs.List.{list_all, prefix_len, fold}
use Rattle.sial_lexer.specs.Characters.{is_digit, is_zero, is_digit_or_point, is_word_byte, is_text_byte, is_within_line, is_sign_byte, goes_before_equals, beginning_of, begins}
use Rattle.sial_lexer.specs.declared.beginning.Beginning.{Beginning}
use Rattle.sial_lexer.specs.declared.beginning.Beginning.TheVariants as beginning
use Rattle.sial_lexer.specs.declared.piece.PieceKind.{PieceKind}
use Rattle.sial_lexer.specs.declared.piece.PieceKind.TheVariants.{Blank, Comment, LineBreak, Token}
use Rattle.sial_lexer.specs.declared.token.TokenKind.{TokenKind}
use Rattle.sial_lexer.specs.declared.token.TokenKind.TheVariants.{Name, Number, Quoted, Sign, LineEnd}

-- bytes of a name
abbrev pub most_name : ℕ
most_name = 64

-- bytes of a printed text
abbrev pub most_printed : ℕ
most_printed = 1024

-- bytes of a whole text
abbrev pub most_source : ℕ
most_source = 1048576

-- what the first byte begins
abbrev pub Begins : Beginning → List ℕ → Type 0
Begins what [] = ⊥
Begins what (b ∷ bs) = beginning_of b ≡ what

-- bytes of a class, as many as there are
abbrev pub IsRun : (ℕ → Bool) → (bytes after : List ℕ) → Type 0
IsRun class bytes after = (list_all class bytes ≡ true) × (begins class after ≡ false)

-- the number that digits spell
abbrev pub value_of : List ℕ → ℕ
value_of digits = fold (λ value digit. value * 10 + (digit - 48)) 0 digits

-- the digits at the front
abbrev pub digits_of : List ℕ → List ℕ
digits_of bytes = take (prefix_len is_digit bytes) bytes

-- what follows the digits at the front
abbrev pub past_digits : List ℕ → List ℕ
past_digits bytes = drop (prefix_len is_digit bytes) bytes

-- what may follow a number's digits: nothing, or a point and any count of zeros
abbrev pub IsFraction : (bytes after : List ℕ) → Type 0
IsFraction [] after = begins is_digit_or_point after ≡ false
IsFraction (b ∷ zeros) after = (b ≡ 46) × (list_all is_zero zeros ≡ true) × (begins is_digit after ≡ false)

-- a number: its digits spell the value, which fits 64 bits
abbrev pub IsNumber : (value : ℕ) → (bytes after : List ℕ) → Type 0
IsNumber value bytes after = (value_of (digits_of bytes) ≡ value) × (value < 2 ^ 64) × IsFraction (past_digits bytes) after

-- what follows the opening mark of a text: its bytes, not too many, and the closing mark
abbrev pub IsClosed : List ℕ → Type 0
IsClosed inside = (prefix_len is_text_byte inside ≤ most_printed) × (drop (prefix_len is_text_byte inside) inside ≡ 34 ∷ [])

-- whether bytes are a sign: one that stands by itself, or one before `=`
abbrev pub is_sign : List ℕ → Bool
is_sign [] = false
is_sign (a ∷ []) = is_sign_byte a
is_sign (a ∷ b ∷ []) = goes_before_equals a && b == 61
is_sign (a ∷ b ∷ c ∷ bytes) = false

-- whether a sign goes on with the byte that follows
abbrev pub is_longer_sign : (bytes after : List ℕ) → Bool
is_longer_sign bytes [] = false
is_longer_sign bytes (b ∷ after) = is_sign (bytes ++ b ∷ [])

-- one token: a name or number that doesn't go on, a text, the longest sign
abbrev pub IsToken : TokenKind → (bytes after : List ℕ) → Type 0
IsToken Name bytes after = Begins beginning.Letter bytes × IsRun is_word_byte bytes after × (length bytes ≤ most_name)
IsToken (Number value) bytes after = Begins beginning.Digit bytes × IsNumber value bytes after
IsToken Quoted [] after = ⊥
IsToken Quoted (b ∷ inside) after = (b ≡ 34) × IsClosed inside
IsToken Sign bytes after = Begins beginning.Sign bytes × (is_sign bytes ≡ true) × (is_longer_sign bytes after ≡ false)
IsToken LineEnd bytes after = ⊥

-- one piece: a token, or a blank, a comment up to the end of its line, a line end
abbrev pub IsPiece : PieceKind → (bytes after : List ℕ) → Type 0
IsPiece Blank bytes after = Begins beginning.Blank bytes × (length bytes ≡ 1)
IsPiece Comment bytes after = Begins beginning.Hash bytes × IsRun is_within_line bytes after
IsPiece LineBreak bytes after = (bytes ≡ 10 ∷ []) ⊎ (bytes ≡ 13 ∷ 10 ∷ [])
IsPiece (Token kind) bytes after = IsToken kind bytes after
