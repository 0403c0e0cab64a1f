-- A text cut into pieces, and the tokens of the pieces.
use Rattle.std.specs.Prelude.{◌≡◌, ℕ, ◌+◌, ◌≤◌, List, [], ◌∷◌, ◌++◌, Bool, true, false, if◌then◌else◌, take, drop, length}
use Rattle.std.specs.List.{slice_range}
use Rattle.sial_lexer.specs.Pieces.{IsPiece, IsToken, most_source}
use Rattle.sial_lexer.specs.declared.piece.Piece.{Piece}
use Rattle.sial_lexer.specs.declared.piece.PieceKind.{PieceKind}
use Rattle.sial_lexer.specs.declared.piece.PieceKind.TheVariants as piece
use Rattle.sial_lexer.specs.declared.token.Token.{Token}
use Rattle.sial_lexer.specs.declared.token.TokenKind.{TokenKind}
use Rattle.sial_lexer.specs.declared.token.TokenKind.TheVariants.{Name, Number, Quoted, Sign, LineEnd}

-- pieces at the front of a text, one behind the other, and the rest behind them
abbrev pub IsCut : (pieces : List Piece) → (text rest : List ℕ) → Type 0
IsCut [] text rest = text ≡ rest
IsCut (p ∷ ps) text rest = (p.len ≤ length text) × IsPiece p.kind (take p.len text) (drop p.len text) × IsCut ps (drop p.len text) rest

-- a place between two pieces: its byte, its line, and whether that line owes a line end, since a token stands on it
pub record Place : Type 0 where
  pub at : ℕ
  pub line : ℕ
  pub owed : Bool

-- the place before the first piece
abbrev pub beginning : Place
beginning = record { at = 0; line = 1; owed = false }

-- the place behind a piece that is of this kind and so long
abbrev pub past : Place → PieceKind → (len : ℕ) → Place
past place piece.Blank len = record { at = place.at + len; line = place.line; owed = place.owed }
past place piece.Comment len = record { at = place.at + len; line = place.line; owed = place.owed }
past place piece.LineBreak len = record { at = place.at + len; line = place.line + 1; owed = false }
past place (piece.Token kind) len = record { at = place.at + len; line = place.line; owed = true }

-- the token that begins at a place and is so long
abbrev pub token_at : Place → TokenKind → (len : ℕ) → Token
token_at place kind len = record { kind = kind; start = place.at; end = place.at + len; line = place.line }

-- the line end at a place, where one is owed: so there is one for each run of line ends that follows a token
abbrev pub line_end : Place → (len : ℕ) → List Token
line_end place len = if place.owed then token_at place LineEnd len ∷ [] else []

-- the token of a piece, if it has one
abbrev pub token_of : Place → PieceKind → (len : ℕ) → List Token
token_of place piece.Blank len = []
token_of place piece.Comment len = []
token_of place piece.LineBreak len = line_end place len
token_of place (piece.Token kind) len = token_at place kind len ∷ []

-- the tokens of pieces from a place on; the end of the text is a line end too
abbrev pub tokens_from : Place → List Piece → List Token
tokens_from place [] = line_end place 0
tokens_from place (p ∷ ps) = token_of place p.kind p.len ++ tokens_from (past place p.kind p.len) ps

-- the place behind pieces
abbrev pub place_after : Place → List Piece → Place
place_after place [] = place
place_after place (p ∷ ps) = place_after (past place p.kind p.len) ps

-- the tokens of a text: it is cut into pieces to its end, and these are their tokens
pub record HasTokens (text : List ℕ) (tokens : List Token) : Type 0 where
  pub within : length text ≤ most_source
  pub pieces : List Piece
  pub cut : IsCut pieces text []
  pub of_pieces : tokens ≡ tokens_from beginning pieces

-- whether bytes spell a token of this kind, before these others; a line end has no bytes of its own
abbrev pub IsSpelled : TokenKind → (bytes after : List ℕ) → Type 0
IsSpelled Name bytes after = IsToken Name bytes after
IsSpelled (Number value) bytes after = IsToken (Number value) bytes after
IsSpelled Quoted bytes after = IsToken Quoted bytes after
IsSpelled Sign bytes after = IsToken Sign bytes after
IsSpelled LineEnd bytes after = Unit {0}

-- a token stands in a text: its slice spells it
abbrev pub StandsIn : List ℕ → Token → Type 0
StandsIn text t = IsSpelled t.kind (slice_range text t.start t.end) (drop t.end text)

-- tokens stand in order, between two places
abbrev pub AreInOrder : (from to : ℕ) → List Token → Type 0
AreInOrder from to [] = from ≤ to
AreInOrder from to (t ∷ ts) = (from ≤ t.start) × (t.start ≤ t.end) × AreInOrder t.end to ts
