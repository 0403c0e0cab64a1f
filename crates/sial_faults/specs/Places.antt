-- Where a fault stands among words, and what that says of them.
use Rattle.std.specs.Prelude.{Some, ◌≡◌, ℕ, ◌≤◌, List, [], ◌∷◌, ◌++◌, true, false, length}
use Rattle.sial_syntax.specs.Tree.{Tree}
use Rattle.sial_parser.specs.Grammar.{IsProgram}
use Rattle.sial_parser.specs.Parsing.{is_end}
use Rattle.sial_parser.specs.declared.fault.ParseFault.{ParseFault}
use Rattle.sial_parser.specs.declared.fault.ParseFault.TheVariants.{Lex, Expected, Undeclared, Twice, EndName, TooMany, TooDeep, OutOfMemory}
use Rattle.sial_parser.specs.declared.word.Word.{Word}
use Rattle.sial_faults.specs.Faults.{Past, at_start, fault_at, known_behind, any_name}
use Rattle.sial_faults.specs.Forms.{Leads, BeginParts, program}
use Rattle.sial_faults.specs.Parts.{Part}

-- the end of the text stands last, and nowhere else
abbrev pub EndsWell : List Word → Type 0
EndsWell [] = ⊥
EndsWell (w ∷ []) = is_end w.symbol ≡ true
EndsWell (w ∷ v ∷ ws) = (is_end w.symbol ≡ false) × EndsWell (v ∷ ws)

-- the line that a fault names
abbrev pub line_in : ParseFault → ℕ
line_in (Lex fault) = fault.line
line_in (Expected line) = line
line_in (Undeclared line) = line
line_in (Twice line) = line
line_in (EndName line) = line
line_in (TooMany line which) = line
line_in (TooDeep line) = line
line_in OutOfMemory = 0

-- how many words behind its own a fault depends on: what a name has to be, the next word tells
abbrev pub words_ahead : ParseFault → ℕ
words_ahead (Undeclared line) = 1
words_ahead _ = 0

-- words with which no program begins, whatever stands behind them
abbrev pub BeginNoProgram : List Word → Type 0
BeginNoProgram ws = (p : Tree) (behind : List Word) → IsProgram p (ws ++ behind) → ⊥

-- the number of a fault's kind
abbrev pub number_of : ParseFault → ℕ
number_of (Lex fault) = 1
number_of (Expected line) = 2
number_of (Undeclared line) = 3
number_of (Twice line) = 4
number_of (EndName line) = 5
number_of (TooMany line which) = 6
number_of (TooDeep line) = 7
number_of OutOfMemory = 8

-- a fault that what is due at a word has there, by what is declared before it
pub record IsDueAt (past : Past) (parts : List Part) (fault : ParseFault) (before : List Word) (w : Word) (behind : List Word) : Type 0 where
  pub part : Part
  pub others : List Part
  pub due : Leads parts before (part ∷ others)
  pub told : fault_at any_name (known_behind past parts before) part w.line w.symbol behind ≡ Some fault

-- a word has a fault, among words that stand for parts: Expected where they may begin so without the word and not with it
abbrev pub IsFaultAt : Past → List Part → ParseFault → (before : List Word) → Word → (behind : List Word) → Type 0
IsFaultAt past parts (Lex fault) before w behind = ⊥
IsFaultAt past parts (Expected line) before w behind = (w.line ≡ line) × (BeginParts parts before × (BeginParts parts (before ++ w ∷ []) → ⊥))
IsFaultAt past parts OutOfMemory before w behind = ⊥
IsFaultAt past parts fault before w behind = IsDueAt past parts fault before w behind

-- a fault at one word comes before one at another, or at the same has no higher number
pub record ComesFirst (fault : ParseFault) (before : List Word) (other : ParseFault) (others : List Word) : Type 0 where
  pub place : length before ≤ length others
  pub number : length others ≡ length before → number_of fault ≤ number_of other

-- the first fault of a program's words: it stands at a word, no other comes before it, and nothing that follows mends it
pub record StandsAt (fault : ParseFault) (ws : List Word) : Type 0 where
  pub before : List Word
  pub word : Word
  pub ahead : List Word
  pub behind : List Word
  pub are : ws ≡ before ++ word ∷ (ahead ++ behind)
  pub line : word.line ≡ line_in fault
  pub stands : IsFaultAt at_start program fault before word (ahead ++ behind)
  pub first : (other : ParseFault) (front : List Word) (w : Word) (rest : List Word) → ws ≡ front ++ w ∷ rest → IsFaultAt at_start program other front w rest → ComesFirst fault before other front
  pub few : length ahead ≤ words_ahead fault
  pub no_program : BeginNoProgram (before ++ word ∷ ahead)
