-- What the first fault of a text says of it.
use Rattle.std.specs.Prelude.{◌≡◌, ℕ, List, ◌∷◌, ◌++◌, Some, None}
use Rattle.sial_lexer.specs.Cut.{HasTokens}
use Rattle.sial_lexer.specs.declared.token.Token.{Token}
use Rattle.sial_syntax.specs.Tree.{Tree}
use Rattle.sial_parser.specs.Grammar.{IsProgram}
use Rattle.sial_parser.specs.Whole.{parse_of}
use Rattle.sial_parser.specs.Words.{words_of}
use Rattle.sial_parser.specs.declared.fault.ParseFault.{ParseFault}
use Rattle.sial_parser.specs.declared.word.Word.{Word}
use Rattle.sial_faults.specs.Forms.{program, HaveForm}
use Rattle.sial_faults.specs.Faults.{at_start, fault_in, any_name, first_fault, fault_of}
use Rattle.sial_faults.specs.Places.{IsFaultAt, StandsAt}

-- a text is refused for the fault of its words, or read where they have none
abbrev pub FaultIsTold : Type 0
FaultIsTold = (text : List ℕ) (tokens : List Token) → HasTokens text tokens → fault_in (parse_of text) ≡ fault_of (words_of text tokens)

-- a text's first fault stands at one of its words
abbrev pub FirstStands : Type 0
FirstStands = (text : List ℕ) (tokens : List Token) (fault : ParseFault) → HasTokens text tokens → first_fault any_name (words_of text tokens) ≡ Some fault → StandsAt fault (words_of text tokens)

-- no fault stands at a word of a text without a first one
abbrev pub NoneStands : Type 0
NoneStands =
    (text : List ℕ) (tokens : List Token) → HasTokens text tokens → first_fault any_name (words_of text tokens) ≡ None
    → (fault : ParseFault) (before : List Word) (w : Word) (behind : List Word) → words_of text tokens ≡ before ++ w ∷ behind → IsFaultAt at_start program fault before w behind → ⊥

-- the words of a program have the form of one
abbrev pub ProgramsHaveForm : Type 0
ProgramsHaveForm = (p : Tree) (ws : List Word) → IsProgram p ws → HaveForm ws
