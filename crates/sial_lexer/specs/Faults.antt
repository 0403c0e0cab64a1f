-- What is wrong where a text can't be cut any further.
use Rattle.std.specs.Prelude.{◌≡◌, ℕ, ◌^◌, ◌<◌, ◌≤◌, ◌⊎◌, List, [], ◌∷◌, false, take, drop, length}
use Rattle.std.specs.List.{list_all, prefix_len}
use Rattle.sial_lexer.specs.Characters.{is_digit, is_zero, is_word_byte, is_text_byte}
use Rattle.sial_lexer.specs.Cut.{IsCut, beginning, place_after}
use Rattle.sial_lexer.specs.Pieces.{Begins, most_name, most_printed, most_source, digits_of, past_digits, value_of, is_sign}
use Rattle.sial_lexer.specs.declared.beginning.Beginning.TheVariants.{Letter, Digit, Quote, Return, Sign, Nothing}
use Rattle.sial_lexer.specs.declared.fault.LexFault.{LexFault}
use Rattle.sial_lexer.specs.declared.fault.LexKind.{LexKind}
use Rattle.sial_lexer.specs.declared.fault.LexKind.TheVariants.{BadByte, Fraction, TooWide, OpenText, TooLong, OutOfMemory}
use Rattle.sial_lexer.specs.declared.piece.Piece.{Piece}

-- the digits behind a number's point; none where there is no point
abbrev pub decimals : List ℕ → List ℕ
decimals [] = []
decimals (b ∷ bs) = take (prefix_len is_digit bs) bs

-- whether a number goes on with a point and a digit other than 0 behind it
abbrev pub HasDecimals : List ℕ → Type 0
HasDecimals [] = ⊥
HasDecimals (b ∷ bs) = (b ≡ 46) × (list_all is_zero (take (prefix_len is_digit bs) bs) ≡ false)

-- bytes without the first
abbrev pub without_first : List ℕ → List ℕ
without_first [] = []
without_first (b ∷ bs) = bs

-- what follows the bytes of a text whose opening mark is the first byte
abbrev pub past_text : List ℕ → List ℕ
past_text bytes = drop (prefix_len is_text_byte (without_first bytes)) (without_first bytes)

-- a text whose bytes so far are not too many
abbrev pub IsOpen : List ℕ → Type 0
IsOpen bytes = Begins Quote bytes × (prefix_len is_text_byte (without_first bytes) ≤ most_printed)

-- the end of the text, or of a line
abbrev pub EndsLine : List ℕ → Type 0
EndsLine [] = Unit {0}
EndsLine (b ∷ []) = b ≡ 10
EndsLine (b ∷ c ∷ bs) = (b ≡ 10) ⊎ ((b ≡ 13) × (c ≡ 10))

-- a byte that neither goes on with a text nor ends it or its line
abbrev pub IsForeign : List ℕ → Type 0
IsForeign [] = ⊥
IsForeign (b ∷ []) = (is_text_byte b ≡ false) × (b ≡ 34 → ⊥) × (b ≡ 10 → ⊥)
IsForeign (b ∷ c ∷ bs) = (is_text_byte b ≡ false) × (b ≡ 34 → ⊥) × (EndsLine (b ∷ c ∷ bs) → ⊥)

-- a carriage return that no line feed follows
abbrev pub IsLoneReturn : List ℕ → Type 0
IsLoneReturn bytes = Begins Return bytes × (take 1 (without_first bytes) ≡ 10 ∷ [] → ⊥)

-- a byte that begins signs where none stands
abbrev pub IsNoSign : List ℕ → Type 0
IsNoSign bytes = Begins Sign bytes × (is_sign (take 1 bytes) ≡ false) × (is_sign (take 2 bytes) ≡ false)

-- what is wrong at the front of a rest
abbrev pub IsFaulty : LexKind → List ℕ → Type 0
IsFaulty BadByte rest = Begins Nothing rest ⊎ (IsLoneReturn rest ⊎ (IsNoSign rest ⊎ (IsOpen rest × IsForeign (past_text rest))))
IsFaulty Fraction rest = Begins Digit rest × HasDecimals (past_digits rest)
IsFaulty TooWide rest = Begins Digit rest × (HasDecimals (past_digits rest) → ⊥) × (2 ^ 64 ≤ value_of (digits_of rest))
IsFaulty OpenText rest = IsOpen rest × EndsLine (past_text rest)
IsFaulty TooLong rest =
    (Begins Letter rest × (most_name < prefix_len is_word_byte rest))
    ⊎ (Begins Quote rest × (most_printed < prefix_len is_text_byte (without_first rest)))
IsFaulty OutOfMemory rest = ⊥

-- a fault: the text is cut into pieces up to it, and it stands on the line behind them
pub record HasFault (text : List ℕ) (fault : LexFault) : Type 0 where
  pub within : length text ≤ most_source
  pub pieces : List Piece
  pub rest : List ℕ
  pub cut : IsCut pieces text rest
  pub faulty : IsFaulty fault.kind rest
  pub line : fault.line ≡ (place_after beginning pieces).line

-- the fault of a text: the first one, or that it is too long, at line 0
abbrev pub IsFaultOf : List ℕ → LexFault → Type 0
IsFaultOf text fault = ((most_source < length text) × (fault ≡ record { line = 0; kind = TooLong })) ⊎ HasFault text fault

-- an answer that gives no tokens tells of want of memory, or of the text's fault
abbrev pub IsCause : List ℕ → LexKind → LexFault → Type 0
IsCause text OutOfMemory fault = Unit {0}
IsCause text BadByte fault = IsFaultOf text fault
IsCause text Fraction fault = IsFaultOf text fault
IsCause text TooWide fault = IsFaultOf text fault
IsCause text OpenText fault = IsFaultOf text fault
IsCause text TooLong fault = IsFaultOf text fault
