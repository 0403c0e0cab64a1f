-- What a printed text has to do with the tree that it is printed of.
use Rattle.std.specs.Prelude.{ℕ, List, []}
use Rattle.sial_lexer.specs.Cut.{IsCut, beginning, tokens_from}
use Rattle.sial_lexer.specs.declared.piece.Piece.{Piece}
use Rattle.sial_syntax.specs.Tree.{Tree}
use Rattle.sial_parser.specs.Grammar.{IsProgram}
use Rattle.sial_parser.specs.Words.{words_of, IsTextOf}

-- a tree stands with some text, so that the parser gives it for one
abbrev pub HasText : Tree → Type 0
HasText p = (text : List ℕ) × IsTextOf text p

-- a text of any length and a tree stand together: the words of its tokens are the tree's
pub record IsLongTextOf (text : List ℕ) (p : Tree) : Type 0 where
  pub pieces : List Piece
  pub cut : IsCut pieces text []
  pub program : IsProgram p (words_of text (tokens_from beginning pieces))
