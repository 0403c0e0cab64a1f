-- A text of lines is cut into the lines' words.
use Rattle.std.proofs.Common.{◌≡◌, ℕ, ◌+◌, List, [], ◌∷◌, ◌++◌, Bool, true, false, refl, sym, ap, ◌∙◌, subst, append_assoc}
use Rattle.sial_lexer.specs.Cut.{IsCut, beginning, tokens_from}
use Rattle.sial_lexer.specs.declared.piece.Piece.{Piece}
use Rattle.sial_lexer.specs.declared.token.Token.{Token}
use Rattle.sial_parser.specs.Grammar.{at, opens}
use Rattle.sial_parser.specs.Words.{words_of, last_line}
use Rattle.sial_parser.specs.declared.sign.Sign.{Sign}
use Rattle.sial_parser.specs.declared.sign.Sign.TheVariants as sign
use Rattle.sial_parser.specs.declared.word.Symbol.{Symbol}
use Rattle.sial_parser.specs.declared.word.Symbol.TheVariants.{Key, Name, Number, Quoted, LineEnd, End}
use Rattle.sial_parser.specs.declared.word.Symbol.TheVariants as symbol
use Rattle.sial_parser.specs.declared.word.Word.{Word}
use Rattle.sial_printer.specs.Placed.{placed_line, placed, IsSaid, AreSaid, IsLine, AreLines}
use Rattle.sial_printer.specs.Spelling.{spelling, blank_before, spaced, line_text, text_of}
use Rattle.sial_printer.proofs.Places.{Reads, reads_end, reads_break, reads_blank}
use Rattle.sial_printer.proofs.NamesSpelled.{IsGap}
use Rattle.sial_printer.proofs.Spelled.{reads_symbol}

-- what stands behind a symbol in a line ends it
sign_gap : (s : Sign) (ss : List Symbol) (after : List ℕ) → IsGap (spaced false (symbol.Sign s ∷ ss) ++ after)
sign_gap sign.Equals ss after = (refl, refl, refl)
sign_gap sign.PlusEquals ss after = (refl, refl, refl)
sign_gap sign.MinusEquals ss after = (refl, refl, refl)
sign_gap sign.TimesEquals ss after = (refl, refl, refl)
sign_gap sign.Less ss after = (refl, refl, refl)
sign_gap sign.LessEqual ss after = (refl, refl, refl)
sign_gap sign.Greater ss after = (refl, refl, refl)
sign_gap sign.GreaterEqual ss after = (refl, refl, refl)
sign_gap sign.EqualEqual ss after = (refl, refl, refl)
sign_gap sign.NotEqual ss after = (refl, refl, refl)
sign_gap sign.Plus ss after = (refl, refl, refl)
sign_gap sign.Minus ss after = (refl, refl, refl)
sign_gap sign.Times ss after = (refl, refl, refl)
sign_gap sign.Caret ss after = (refl, refl, refl)
sign_gap sign.Open ss after = (refl, refl, refl)
sign_gap sign.Close ss after = (refl, refl, refl)
sign_gap sign.Comma ss after = (refl, refl, refl)

gap_behind : (ss : List Symbol) (after : List ℕ) → IsGap (spaced false ss ++ 10 ∷ after)
gap_behind [] after = (refl, refl, refl)
gap_behind (Key k ∷ ss) after = (refl, refl, refl)
gap_behind (symbol.Sign s ∷ ss) after = sign_gap s ss (10 ∷ after)
gap_behind (Name x ∷ ss) after = (refl, refl, refl)
gap_behind (Number n ∷ ss) after = (refl, refl, refl)
gap_behind (Quoted t ∷ ss) after = (refl, refl, refl)
gap_behind (LineEnd ∷ ss) after = (refl, refl, refl)
gap_behind (End ∷ ss) after = (refl, refl, refl)

gap_by : (tight : Bool) (ss : List Symbol) (after : List ℕ) → tight ≡ false → IsGap (spaced tight ss ++ 10 ∷ after)
gap_by true ss after e = absurd cc
gap_by false ss after e = gap_behind ss after

-- a blank or none
reads_gap : (line : ℕ) (owed tight : Bool) (s : Symbol) (after : List ℕ) (ws : List Word) → Reads line owed after ws → Reads line owed (blank_before tight s ++ after) ws
reads_gap line owed true s after ws r = r
reads_gap line owed false (Key k) after ws r = reads_blank line owed after ws r
reads_gap line owed false (Name x) after ws r = reads_blank line owed after ws r
reads_gap line owed false (Number n) after ws r = reads_blank line owed after ws r
reads_gap line owed false (Quoted t) after ws r = reads_blank line owed after ws r
reads_gap line owed false LineEnd after ws r = reads_blank line owed after ws r
reads_gap line owed false End after ws r = reads_blank line owed after ws r
reads_gap line owed false (symbol.Sign sign.Equals) after ws r = reads_blank line owed after ws r
reads_gap line owed false (symbol.Sign sign.PlusEquals) after ws r = reads_blank line owed after ws r
reads_gap line owed false (symbol.Sign sign.MinusEquals) after ws r = reads_blank line owed after ws r
reads_gap line owed false (symbol.Sign sign.TimesEquals) after ws r = reads_blank line owed after ws r
reads_gap line owed false (symbol.Sign sign.Less) after ws r = reads_blank line owed after ws r
reads_gap line owed false (symbol.Sign sign.LessEqual) after ws r = reads_blank line owed after ws r
reads_gap line owed false (symbol.Sign sign.Greater) after ws r = reads_blank line owed after ws r
reads_gap line owed false (symbol.Sign sign.GreaterEqual) after ws r = reads_blank line owed after ws r
reads_gap line owed false (symbol.Sign sign.EqualEqual) after ws r = reads_blank line owed after ws r
reads_gap line owed false (symbol.Sign sign.NotEqual) after ws r = reads_blank line owed after ws r
reads_gap line owed false (symbol.Sign sign.Plus) after ws r = reads_blank line owed after ws r
reads_gap line owed false (symbol.Sign sign.Minus) after ws r = reads_blank line owed after ws r
reads_gap line owed false (symbol.Sign sign.Times) after ws r = reads_blank line owed after ws r
reads_gap line owed false (symbol.Sign sign.Caret) after ws r = reads_blank line owed after ws r
reads_gap line owed false (symbol.Sign sign.Open) after ws r = r
reads_gap line owed false (symbol.Sign sign.Close) after ws r = r
reads_gap line owed false (symbol.Sign sign.Comma) after ws r = r

-- blank, spelling and rest, one behind the other
apart : (blank word rest after : List ℕ) → blank ++ (word ++ (rest ++ after)) ≡ (blank ++ (word ++ rest)) ++ after
apart blank word rest after = ap (λ t. blank ++ t) (sym (append_assoc word rest after)) ∙ sym (append_assoc blank (word ++ rest) after)

-- a symbol of a line, and what stands behind it
reads_next : (line : ℕ) (owed tight : Bool) (s : Symbol) (ss : List Symbol) (after : List ℕ) (ws : List Word) → IsSaid s → Reads line true (spaced (opens s) ss ++ 10 ∷ after) ws → Reads line owed (spaced tight (s ∷ ss) ++ 10 ∷ after) (at line s ∷ ws)
reads_next line owed tight s ss after ws said r =
    subst (λ (t : List ℕ). Reads line owed t (at line s ∷ ws)) (apart (blank_before tight s) (spelling s) (spaced (opens s) ss) (10 ∷ after))
    (reads_gap line owed tight s (spelling s ++ (spaced (opens s) ss ++ 10 ∷ after)) (at line s ∷ ws)
    (reads_symbol line owed s (spaced (opens s) ss ++ 10 ∷ after) ws said (gap_by (opens s) ss after) r))

-- the rest of a line
reads_rest : (line : ℕ) (tight : Bool) (ss : List Symbol) (after : List ℕ) (ws : List Word) → AreSaid ss → Reads (line + 1) false after ws → Reads line true (spaced tight ss ++ 10 ∷ after) (placed_line line ss ws)
reads_rest line tight [] after ws said r = reads_break line after ws r
reads_rest line tight (s ∷ ss) after ws said r = reads_next line true tight s ss after (placed_line line ss ws) said.0 (reads_rest line (opens s) ss after ws said.1 r)

-- a line
reads_line : (line : ℕ) (ss : List Symbol) (after : List ℕ) (ws : List Word) → IsLine ss → Reads (line + 1) false after ws → Reads line false (line_text ss ++ after) (placed_line line ss ws)
reads_line line [] after ws said r = absurd said
reads_line line (s ∷ ss) after ws said r =
    subst (λ (t : List ℕ). Reads line false t (placed_line line (s ∷ ss) ws)) (sym (append_assoc (spaced true (s ∷ ss)) (10 ∷ []) after))
    (reads_next line false true s ss after (placed_line line ss ws) said.0 (reads_rest line (opens s) ss after ws said.1 r))

-- all lines
reads_lines : (line : ℕ) (lines : List (List Symbol)) → AreLines lines → Reads line false (text_of lines) (placed line lines [])
reads_lines line [] said = reads_end line
reads_lines line (ss ∷ lines) said = reads_line line ss (text_of lines) (placed (line + 1) lines []) said.0 (reads_lines (line + 1) lines said.1)

-- words behind the words of lines
line_behind : (line : ℕ) (ss : List Symbol) (ws vs : List Word) → placed_line line ss ws ++ vs ≡ placed_line line ss (ws ++ vs)
line_behind line [] ws vs = refl
line_behind line (s ∷ ss) ws vs = ap (λ t. at line s ∷ t) (line_behind line ss ws vs)

lines_behind : (line : ℕ) (lines : List (List Symbol)) (vs : List Word) → placed line lines [] ++ vs ≡ placed line lines vs
lines_behind line [] vs = refl
lines_behind line (ss ∷ lines) vs = line_behind line ss (placed (line + 1) lines []) vs ∙ ap (placed_line line ss) (lines_behind (line + 1) lines vs)

-- the tokens of a text of lines, and their words
pub record LinesRead (lines : List (List Symbol)) : Type 0 where
  pub tokens : List Token
  pub pieces : List Piece
  pub cut : IsCut pieces (text_of lines) []
  pub of_pieces : tokens ≡ tokens_from beginning pieces
  pub words : words_of (text_of lines) tokens ≡ placed 1 lines (at (last_line (text_of lines)) End ∷ [])

pub lines_read : (lines : List (List Symbol)) → AreLines lines → LinesRead lines
lines_read lines said =
    let r = reads_lines 1 lines said in
    let text = text_of lines in
    let last : List Word = at (last_line text) End ∷ [] in
    record {
      tokens = tokens_from beginning r.pieces;
      pieces = r.pieces;
      cut = r.cut;
      of_pieces = refl;
      words = ap (λ ws. ws ++ last) (r.said text [] 0 refl refl) ∙ lines_behind 1 lines last;
    }
