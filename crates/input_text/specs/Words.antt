-- The words of a line: names, numbers and the signs `=` and `-`, parted by blanks, a comment and the line's end.
use Rattle.std.specs.Prelude.{◌≡◌, ℕ, ◌^◌, ◌≤◌, ◌⊎◌, List, [], ◌∷◌, ◌++◌, true, false, if◌then◌else◌, nat_lt, take, drop, length, Option, Some, None}
use Rattle.std.specs.List.{list_all}
use Rattle.sial_lexer.specs.Characters.{is_digit, is_digit_or_point, begins, folded}
use Rattle.sial_lexer.specs.Pieces.{Begins, IsPiece, IsToken, value_of}
use Rattle.sial_lexer.specs.declared.beginning.Beginning.TheVariants as beginning
use Rattle.sial_lexer.specs.declared.piece.PieceKind.TheVariants as piece
use Rattle.sial_lexer.specs.declared.token.TokenKind.TheVariants as token
use Rattle.input_text.specs.declared.word.Part.{Part}
use Rattle.input_text.specs.declared.word.Word.{Word}
use Rattle.input_text.specs.declared.word.Word.TheVariants.{Name, Number, Equals, Minus}

-- a number where it fits 64 bits
abbrev pub fitting : ℕ → Option ℕ
fitting value = if nat_lt value (2 ^ 64) then Some value else None

-- digits that neither go on nor have a point behind them
abbrev pub IsDigits : (bytes after : List ℕ) → Type 0
IsDigits bytes after = Begins beginning.Digit bytes × (list_all is_digit bytes ≡ true) × (begins is_digit_or_point after ≡ false)

-- which bytes are a word, before these others: names and signs are those of a program's text, a number may be of any size
abbrev pub IsWord : Word → (bytes after : List ℕ) → Type 0
IsWord (Name name) bytes after = IsToken token.Name bytes after × (name ≡ folded bytes)
IsWord (Number number) bytes after = IsDigits bytes after × (number ≡ fitting (value_of bytes))
IsWord Equals bytes after = IsToken token.Sign bytes after × (bytes ≡ 61 ∷ [])
IsWord Minus bytes after = IsToken token.Sign bytes after × (bytes ≡ 45 ∷ [])

-- what stands between words: a blank, a comment or a line end of a program's text
abbrev pub IsGap : (bytes after : List ℕ) → Type 0
IsGap bytes after = IsPiece piece.Blank bytes after ⊎ (IsPiece piece.Comment bytes after ⊎ IsPiece piece.LineBreak bytes after)

-- one part of a line: a word or a gap
abbrev pub IsPart : Option Word → (bytes after : List ℕ) → Type 0
IsPart (Some word) bytes after = IsWord word bytes after
IsPart None bytes after = IsGap bytes after

-- a line is cut into parts, one behind the other, to its end
abbrev pub IsCutInto : List Part → (line : List ℕ) → Type 0
IsCutInto [] line = line ≡ []
IsCutInto (p ∷ ps) line = (p.len ≤ length line) × IsPart p.word (take p.len line) (drop p.len line) × IsCutInto ps (drop p.len line)

-- the word of a part, if it is one
abbrev pub word_of : Option Word → List Word
word_of (Some word) = word ∷ []
word_of None = []

-- the words of parts
abbrev pub words_of_parts : List Part → List Word
words_of_parts [] = []
words_of_parts (p ∷ ps) = word_of p.word ++ words_of_parts ps

-- the words of a line: it is cut into parts, and these are their words
pub record HasWords (line : List ℕ) (words : List Word) : Type 0 where
  pub parts : List Part
  pub cut : IsCutInto parts line
  pub of_parts : words ≡ words_of_parts parts
