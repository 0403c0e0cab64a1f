-- A text read from its front, piece by piece.
use Rattle.std.specs.Prelude.{◌≡◌, ℕ, zero, suc, List, [], ◌∷◌, ◌++◌, if◌then◌else◌, nat_lt, drop, length, Result, Ok, Err}
use Rattle.sial_lexer.specs.Cut.{Place, beginning, past, token_at, token_of, line_end}
use Rattle.sial_lexer.specs.Pieces.{most_source}
use Rattle.sial_lexer.specs.Scanning.{front_of}
use Rattle.sial_lexer.specs.declared.fault.LexFault.{LexFault}
use Rattle.sial_lexer.specs.declared.fault.LexKind.{LexKind}
use Rattle.sial_lexer.specs.declared.fault.LexKind.TheVariants.{BadByte, Fraction, TooWide, OpenText, TooLong, OutOfMemory}
use Rattle.sial_lexer.specs.declared.piece.Piece.{Piece}
use Rattle.sial_lexer.specs.declared.scan.Scan.{Scan}
use Rattle.sial_lexer.specs.declared.token.Token.{Token}
use Rattle.sial_lexer.specs.declared.token.TokenKind.{TokenKind}

-- the tokens so far, and the place behind them
pub record Scanned : Type 0 where
  pub place : Place
  pub tokens : List Token

-- what the code keeps of it
abbrev pub seen : Scan → Scanned
seen scan = record { place = record { at = scan.at; line = scan.line; owed = scan.owed }; tokens = scan.tokens.items }

-- nothing read yet
abbrev pub nothing : Scanned
nothing = record { place = beginning; tokens = [] }

-- with the token of so many bytes that begins here
abbrev pub with_token : Scanned → TokenKind → (len : ℕ) → Scanned
with_token s kind len = record { place = s.place; tokens = s.tokens ++ token_at s.place kind len ∷ [] }

-- with the line end of so many bytes, where it is owed
abbrev pub with_line_end : Scanned → (len : ℕ) → Scanned
with_line_end s len = record { place = s.place; tokens = s.tokens ++ line_end s.place len }

-- with one more piece
abbrev pub accepted : Scanned → Piece → Scanned
accepted s p = record { place = past s.place p.kind p.len; tokens = s.tokens ++ token_of s.place p.kind p.len }

-- all tokens, where the text ends here
abbrev pub ended : Scanned → List Token
ended s = s.tokens ++ line_end s.place 0

-- a piece and the rest behind it
abbrev pub taken : Scanned → List ℕ → Result Piece LexKind → Result (Scanned × List ℕ) LexFault
taken s bytes (Ok p) = Ok (accepted s p, drop p.len bytes)
taken s bytes (Err kind) = Err (record { line = s.place.line; kind = kind })

-- the piece at the front of a rest
abbrev pub step : Scanned → List ℕ → Result (Scanned × List ℕ) LexFault
step s bytes = taken s bytes (front_of bytes)

-- what follows a step
abbrev pub after_step : (Scanned → List ℕ → Result (List Token) LexFault) → Result (Scanned × List ℕ) LexFault → Result (List Token) LexFault
after_step go (Ok x) = go x.0 x.1
after_step go (Err fault) = Err fault

-- at most so many further pieces
abbrev pub lex_from : (pieces : ℕ) → Scanned → List ℕ → Result (List Token) LexFault
lex_from zero s bytes = Ok (ended s)
lex_from (suc n) s [] = Ok (ended s)
lex_from (suc n) s (b ∷ bs) = after_step (lex_from n) (step s (b ∷ bs))

-- a whole text; no piece is empty, so it has at most as many pieces as bytes
abbrev pub lex_of : List ℕ → Result (List Token) LexFault
lex_of text =
    if nat_lt most_source (length text) then Err (record { line = 0; kind = TooLong }) else lex_from (length text) nothing text

-- an answer that gives no reading tells of want of memory, or of the fault
abbrev pub Fails : {Y : Type 0} → LexKind → LexFault → Result Y LexFault → Type 0
Fails OutOfMemory fault read = Unit {0}
Fails BadByte fault read = read ≡ Err fault
Fails Fraction fault read = read ≡ Err fault
Fails TooWide fault read = read ≡ Err fault
Fails OpenText fault read = read ≡ Err fault
Fails TooLong fault read = read ≡ Err fault

-- an answer, seen so, is what a reading gives, unless memory ran out
abbrev pub Gives : {X Y : Type 0} → (X → Y) → Result X LexFault → Result Y LexFault → Type 0
Gives view (Ok x) read = read ≡ Ok (view x)
Gives view (Err fault) read = Fails fault.kind fault read
