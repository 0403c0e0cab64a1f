-- The longest piece at the front of a text, found from its first byte, or what is wrong there.
use Rattle.std.specs.Prelude.{ℕ, ◌+◌, ◌-◌, ◌*◌, ◌^◌, List, [], ◌∷◌, if◌then◌else◌, ◌==◌, ◌&&◌, nat_lt, take, drop, Option, Some, None, Result, Ok, Err}
use Rattle.std.specs.List.{list_all, prefix_len}
use Rattle.std.specs.Option.{option_and_then}
use Rattle.sial_lexer.specs.Characters.{is_digit, is_zero, is_word_byte, is_text_byte, is_within_line, is_sign_byte, goes_before_equals, beginning_of}
use Rattle.sial_lexer.specs.Pieces.{most_name, most_printed}
use Rattle.sial_lexer.specs.declared.beginning.Beginning.{Beginning}
use Rattle.sial_lexer.specs.declared.beginning.Beginning.TheVariants as first
use Rattle.sial_lexer.specs.declared.fault.LexKind.{LexKind}
use Rattle.sial_lexer.specs.declared.fault.LexKind.TheVariants.{BadByte, Fraction, TooWide, OpenText, TooLong}
use Rattle.sial_lexer.specs.declared.piece.Piece.{Piece}
use Rattle.sial_lexer.specs.declared.piece.PieceKind.TheVariants as piece
use Rattle.sial_lexer.specs.declared.token.TokenKind.{TokenKind}
use Rattle.sial_lexer.specs.declared.token.TokenKind.TheVariants.{Name, Number, Quoted, Sign}

-- a token of so many bytes
abbrev pub token : TokenKind → ℕ → Piece
token kind len = record { kind = piece.Token kind; len = len }

-- a blank
abbrev pub blank : Piece
blank = record { kind = piece.Blank; len = 1 }

-- a line end of so many bytes
abbrev pub line_break : ℕ → Piece
line_break len = record { kind = piece.LineBreak; len = len }

-- a comment
abbrev pub comment_at : List ℕ → Piece
comment_at bytes = record { kind = piece.Comment; len = prefix_len is_within_line bytes }

-- a name
unfoldable pub name_at : List ℕ → Result Piece LexKind
name_at bytes =
    if nat_lt most_name (prefix_len is_word_byte bytes) then Err TooLong
    else Ok (token Name (prefix_len is_word_byte bytes))

-- how many bytes a point and zeros are
unfoldable pub fraction_len : List ℕ → Result ℕ LexKind
fraction_len [] = Ok 0
fraction_len (b ∷ bs) =
    if b == 46
    then (if list_all is_zero (take (prefix_len is_digit bs) bs) then Ok (1 + prefix_len is_digit bs) else Err Fraction)
    else Ok 0

-- a number with one more digit, where it fits 64 bits
abbrev pub value_after : (value digit : ℕ) → Option ℕ
value_after value digit = if nat_lt (value * 10 + (digit - 48)) (2 ^ 64) then Some (value * 10 + (digit - 48)) else None

-- a number with further digits
abbrev pub value_in : (value : ℕ) → List ℕ → Option ℕ
value_in value [] = Some value
value_in value (digit ∷ digits) = option_and_then (λ more. value_in more digits) (value_after value digit)

-- a number of so many bytes, where it fits 64 bits
abbrev pub number_of : Option ℕ → (len : ℕ) → Result Piece LexKind
number_of None len = Err TooWide
number_of (Some value) len = Ok (token (Number value) len)

-- a number with its fraction
abbrev pub with_fraction : Option ℕ → (len : ℕ) → Result ℕ LexKind → Result Piece LexKind
with_fraction value len (Err kind) = Err kind
with_fraction value len (Ok fraction) = number_of value (len + fraction)

-- a number
unfoldable pub number_at : List ℕ → Result Piece LexKind
number_at bytes =
    with_fraction (value_in 0 (take (prefix_len is_digit bytes) bytes)) (prefix_len is_digit bytes) (fraction_len (drop (prefix_len is_digit bytes) bytes))

-- what ends a text of so many bytes
abbrev pub closed_at : (len : ℕ) → List ℕ → Result Piece LexKind
closed_at len [] = Err OpenText
closed_at len (b ∷ []) =
    if b == 34 then Ok (token Quoted (len + 2)) else (if b == 10 then Err OpenText else Err BadByte)
closed_at len (b ∷ c ∷ bs) =
    if b == 34 then Ok (token Quoted (len + 2)) else (if b == 10 then Err OpenText else (if b == 13 && c == 10 then Err OpenText else Err BadByte))

-- a text behind its opening mark
unfoldable pub quoted_at : List ℕ → Result Piece LexKind
quoted_at bytes =
    if nat_lt most_printed (prefix_len is_text_byte bytes) then Err TooLong
    else closed_at (prefix_len is_text_byte bytes) (drop (prefix_len is_text_byte bytes) bytes)

-- what a carriage return begins, before these bytes
abbrev pub return_at : List ℕ → Result Piece LexKind
return_at [] = Err BadByte
return_at (b ∷ bs) = if b == 10 then Ok (line_break 2) else Err BadByte

-- how many bytes the longest sign has, 0 where none stands there
abbrev pub sign_len : List ℕ → ℕ
sign_len [] = 0
sign_len (a ∷ []) = if is_sign_byte a then 1 else 0
sign_len (a ∷ b ∷ bs) = if goes_before_equals a && b == 61 then 2 else (if is_sign_byte a then 1 else 0)

-- a sign
abbrev pub sign_at : List ℕ → Result Piece LexKind
sign_at bytes = if sign_len bytes == 0 then Err BadByte else Ok (token Sign (sign_len bytes))

-- the piece that begins so
abbrev pub piece_at : Beginning → (first : ℕ) → (rest : List ℕ) → Result Piece LexKind
piece_at first.Letter b bs = name_at (b ∷ bs)
piece_at first.Digit b bs = number_at (b ∷ bs)
piece_at first.Quote b bs = quoted_at bs
piece_at first.Hash b bs = Ok (comment_at (b ∷ bs))
piece_at first.Blank b bs = Ok blank
piece_at first.LineFeed b bs = Ok (line_break 1)
piece_at first.Return b bs = return_at bs
piece_at first.Sign b bs = sign_at (b ∷ bs)
piece_at first.Nothing b bs = Err BadByte

-- the piece at the front
abbrev pub front_of : List ℕ → Result Piece LexKind
front_of [] = Err BadByte
front_of (b ∷ bs) = piece_at (beginning_of b) b bs
