-- The words of a line, read from the front.
use Rattle.std.specs.Prelude.{ℕ, zero, suc, List, [], ◌∷◌, ◌++◌, Bool, ◌==◌, if◌then◌else◌, nat_lt, take, drop, length, Option, Some, None}
use Rattle.std.specs.List.{prefix_len}
use Rattle.sial_lexer.specs.Characters.{is_digit, is_word_byte, is_within_line, beginning_of, begins, folded}
use Rattle.sial_lexer.specs.Pieces.{most_name}
use Rattle.sial_lexer.specs.Scanning as lexer
use Rattle.sial_lexer.specs.declared.beginning.Beginning.{Beginning}
use Rattle.sial_lexer.specs.declared.beginning.Beginning.TheVariants as first
use Rattle.input_text.specs.declared.word.Part.{Part}
use Rattle.input_text.specs.declared.word.Word.{Word}
use Rattle.input_text.specs.declared.word.Word.TheVariants.{Name, Number, Equals, Minus}
use Rattle.input_text.specs.Words.{word_of}

-- a gap of so many bytes
abbrev pub gap : ℕ → Option Part
gap len = Some (record { word = None; len = len })

-- a sign of one byte
abbrev pub sign : Word → Option Part
sign word = Some (record { word = Some word; len = 1 })

-- a name at the front
unfoldable pub name_part : List ℕ → Option Part
name_part bytes =
    if nat_lt most_name (prefix_len is_word_byte bytes) then None
    else Some (record { word = Some (Name (folded (take (prefix_len is_word_byte bytes) bytes))); len = prefix_len is_word_byte bytes })

-- whether a byte is a point
abbrev pub is_point : ℕ → Bool
is_point b = b == 46

-- whether a byte is `=`
abbrev pub is_equals : ℕ → Bool
is_equals b = b == 61

-- a number at the front
unfoldable pub number_part : List ℕ → Option Part
number_part bytes =
    if begins is_point (drop (prefix_len is_digit bytes) bytes) then None
    else Some (record { word = Some (Number (lexer.value_in 0 (take (prefix_len is_digit bytes) bytes))); len = prefix_len is_digit bytes })

-- what a carriage return begins, before these bytes
abbrev pub return_part : List ℕ → Option Part
return_part [] = None
return_part (b ∷ bs) = if b == 10 then gap 2 else None

-- the sign that a byte is, before these bytes
abbrev pub sign_part : (first : ℕ) → List ℕ → Option Part
sign_part first bytes =
    if begins is_equals bytes then None
    else (if first == 61 then sign Equals
    else (if first == 45 then sign Minus
    else None))

-- the part that begins so
abbrev pub part_by : Beginning → (first : ℕ) → (rest : List ℕ) → Option Part
part_by first.Letter b bs = name_part (b ∷ bs)
part_by first.Digit b bs = number_part (b ∷ bs)
part_by first.Quote b bs = None
part_by first.Hash b bs = gap (prefix_len is_within_line (b ∷ bs))
part_by first.Blank b bs = gap 1
part_by first.LineFeed b bs = gap 1
part_by first.Return b bs = return_part bs
part_by first.Sign b bs = sign_part b bs
part_by first.Nothing b bs = None

-- the part at the front
abbrev pub part_at : List ℕ → Option Part
part_at [] = None
part_at (b ∷ bs) = part_by (beginning_of b) b bs

-- a part taken: the words so far, and what is left
abbrev pub taken : List Word → List ℕ → Option Part → Option (List Word × List ℕ)
taken words bytes None = None
taken words bytes (Some p) = Some (words ++ word_of p.word, drop p.len bytes)

-- the part at the front taken
abbrev pub step : List Word → List ℕ → Option (List Word × List ℕ)
step words bytes = taken words bytes (part_at bytes)

-- what follows a step
abbrev pub after_step : (List Word → List ℕ → Option (List Word)) → Option (List Word × List ℕ) → Option (List Word)
after_step go None = None
after_step go (Some x) = go x.0 x.1

-- at most so many further parts
abbrev pub words_from : (parts : ℕ) → List Word → List ℕ → Option (List Word)
words_from zero words bytes = Some words
words_from (suc n) words [] = Some words
words_from (suc n) words (b ∷ bs) = after_step (words_from n) (step words (b ∷ bs))

-- the words of a line; no part is empty, so it has at most as many parts as bytes
abbrev pub words_in : List ℕ → Option (List Word)
words_in line = words_from (length line) [] line
