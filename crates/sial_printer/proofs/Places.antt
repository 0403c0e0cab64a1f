-- Lines of a text read back: piece by piece, word by word.
use Rattle.std.proofs.Common.{◌≡◌, ℕ, ◌+◌, ◌-◌, List, [], ◌∷◌, ◌++◌, Bool, true, false, map, take, drop, length, refl, sym, ap, ◌∙◌, subst, append_assoc, arith, inl}
use Rattle.std.specs.List.{slice_range}
use Rattle.std.proofs.lemmas.List.{length-append}
use Rattle.std.proofs.Math.Seq.{take-append_seam, drop-append_seam}
use Rattle.sial_lexer.specs.Cut.{IsCut, Place, tokens_from}
use Rattle.sial_lexer.specs.Pieces.{IsPiece, IsToken}
use Rattle.sial_lexer.specs.declared.piece.Piece.{Piece}
use Rattle.sial_lexer.specs.declared.piece.PieceKind.TheVariants as piece
use Rattle.sial_lexer.specs.declared.token.TokenKind.{TokenKind}
use Rattle.sial_parser.specs.Grammar.{at}
use Rattle.sial_parser.specs.Words.{symbol_of, word_of}
use Rattle.sial_parser.specs.declared.word.Symbol.{Symbol}
use Rattle.sial_parser.specs.declared.word.Symbol.TheVariants.{LineEnd}
use Rattle.sial_parser.specs.declared.word.Word.{Word}

-- a place behind so many bytes
abbrev pub place_at : (at line : ℕ) → (owed : Bool) → Place
place_at at line owed = record { at = at; line = line; owed = owed }

-- bytes from a line on, on which a line end is owed or not, are cut into pieces whose words are these
pub record Reads (line : ℕ) (owed : Bool) (bytes : List ℕ) (ws : List Word) : Type 0 where
  pub pieces : List Piece
  pub cut : IsCut pieces bytes []
  pub said : (text before : List ℕ) (at : ℕ) → length before ≡ at → text ≡ before ++ bytes → map (word_of text) (tokens_from (place_at at line owed) pieces) ≡ ws

-- nothing more, where no line end is owed
pub reads_end : (line : ℕ) → Reads line false [] []
reads_end line = record { pieces = []; cut = refl; said = λ text before at long is. refl }

-- a piece's bytes come before the others
further : (text before xs after : List ℕ) → text ≡ before ++ (xs ++ after) → text ≡ (before ++ xs) ++ after
further text before xs after is = is ∙ sym (append_assoc before xs after)

longer : (before xs : List ℕ) (at : ℕ) → length before ≡ at → length (before ++ xs) ≡ at + length xs
longer before xs at long = length-append before xs ∙ ap (λ n. n + length xs) long

-- a line end that is owed
pub reads_break : (line : ℕ) (after : List ℕ) (ws : List Word) → Reads (line + 1) false after ws → Reads line true (10 ∷ after) (at line LineEnd ∷ ws)
reads_break line after ws r = record {
  pieces = record { kind = piece.LineBreak; len = 1 } ∷ r.pieces;
  cut = (omega arith, inl refl, r.cut);
  said = λ text before from long is. ap (λ vs. at line LineEnd ∷ vs) (r.said text (before ++ 10 ∷ []) (from + 1) (longer before (10 ∷ []) from long) (further text before (10 ∷ []) after is));
}

-- a blank
pub reads_blank : (line : ℕ) (owed : Bool) (after : List ℕ) (ws : List Word) → Reads line owed after ws → Reads line owed (32 ∷ after) ws
reads_blank line owed after ws r = record {
  pieces = record { kind = piece.Blank; len = 1 } ∷ r.pieces;
  cut = (omega arith, (refl, refl), r.cut);
  said = λ text before from long is. r.said text (before ++ 32 ∷ []) (from + 1) (longer before (32 ∷ []) from long) (further text before (32 ∷ []) after is);
}

-- the bytes between two places
between : (text before xs after : List ℕ) (from : ℕ) → length before ≡ from → text ≡ before ++ (xs ++ after) → slice_range text from (from + length xs) ≡ xs
between text before xs after from long is =
    let count : from + length xs - from ≡ length xs = omega arith in
    ap (λ n. take n (drop from text)) count
    ∙ ap (λ n. take (length xs) (drop n text)) (sym long)
    ∙ ap (λ t. take (length xs) (drop (length before) t)) is
    ∙ ap (take (length xs)) (drop-append_seam before (xs ++ after))
    ∙ take-append_seam xs after

-- a token
pub reads_token : (line : ℕ) (owed : Bool) (kind : TokenKind) (xs after : List ℕ) (what : Symbol) (ws : List Word)
    → IsToken kind xs after → symbol_of kind xs ≡ what → Reads line true after ws → Reads line owed (xs ++ after) (at line what ∷ ws)
reads_token line owed kind xs after what ws is says r = record {
  pieces = record { kind = piece.Token kind; len = length xs } ∷ r.pieces;
  cut = (
    omega (arith, length-append xs after),
    subst (λ (front : List ℕ). IsPiece (piece.Token kind) front (drop (length xs) (xs ++ after))) (sym (take-append_seam xs after))
        (subst (λ (rest : List ℕ). IsPiece (piece.Token kind) xs rest) (sym (drop-append_seam xs after)) is),
    subst (λ (rest : List ℕ). IsCut r.pieces rest []) (sym (drop-append_seam xs after)) r.cut,
  );
  said = λ text before from long here.
      ap (λ bytes. at line (symbol_of kind bytes) ∷ map (word_of text) (tokens_from (place_at (from + length xs) line true) r.pieces)) (between text before xs after from long here)
      ∙ ap (λ s. at line s ∷ map (word_of text) (tokens_from (place_at (from + length xs) line true) r.pieces)) says
      ∙ ap (λ vs. at line what ∷ vs) (r.said text (before ++ xs) (from + length xs) (longer before xs from long) (further text before xs after here));
}
