-- What reading the words from the first on says of texts and trees.
use Rattle.std.specs.Prelude.{◌≡◌, ◌↔◌, ℕ, List, Ok}
use Rattle.sial_syntax.specs.Proper.{IsProper}
use Rattle.sial_syntax.specs.Tree.{Tree}
use Rattle.sial_parser.specs.Whole.{parse_of}
use Rattle.sial_parser.specs.Words.{IsTextOf}

-- what is read stands with the text, and what stands with it is read
abbrev pub ReadsExactly : Type 0
ReadsExactly = (text : List ℕ) (p : Tree) → (parse_of text ≡ Ok p) ↔ IsTextOf text p

-- a text is that of one tree
abbrev pub OneTree : Type 0
OneTree = (text : List ℕ) (p q : Tree) → IsTextOf text p → IsTextOf text q → p ≡ q

-- the tree of a text is proper
abbrev pub ProperTrees : Type 0
ProperTrees = (text : List ℕ) (p : Tree) → IsTextOf text p → IsProper p
