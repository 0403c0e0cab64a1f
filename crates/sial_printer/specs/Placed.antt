-- Lines of symbols as words: where each stands in the text that is printed of them.
use Rattle.std.specs.Prelude.{◌<◌, ℕ, ◌+◌, List, [], ◌∷◌, IsTrue}
use Rattle.std.specs.List.{AllByRecursion}
use Rattle.sial_syntax.specs.Limits.{past_numbers}
use Rattle.sial_syntax.specs.Names.{is_name, is_text}
use Rattle.sial_parser.specs.Grammar.{at}
use Rattle.sial_parser.specs.declared.word.Symbol.{Symbol}
use Rattle.sial_parser.specs.declared.word.Symbol.TheVariants.{Key, Name, Number, Quoted, LineEnd, End}
use Rattle.sial_parser.specs.declared.word.Symbol.TheVariants as symbol
use Rattle.sial_parser.specs.declared.word.Word.{Word}

-- the words of a line, before others
abbrev pub placed_line : (line : ℕ) → List Symbol → (behind : List Word) → List Word
placed_line line [] behind = at line LineEnd ∷ behind
placed_line line (s ∷ ss) behind = at line s ∷ placed_line line ss behind

-- the words of lines, from a line on, before others
abbrev pub placed : (line : ℕ) → List (List Symbol) → (behind : List Word) → List Word
placed line [] behind = behind
placed line (x ∷ xs) behind = placed_line line x (placed (line + 1) xs behind)

-- a symbol that a token says, but for the end of a line: a name is a name, a number fits, a printed text is one
abbrev pub IsSaid : Symbol → Type 0
IsSaid (Name x) = IsTrue (is_name x)
IsSaid (Number n) = n < past_numbers
IsSaid (Quoted t) = IsTrue (is_text t)
IsSaid (Key k) = Unit {0}
IsSaid (symbol.Sign s) = Unit {0}
IsSaid LineEnd = ⊥
IsSaid End = ⊥

-- such symbols
abbrev pub AreSaid : List Symbol → Type 0
AreSaid ss = AllByRecursion IsSaid ss

-- a line that isn't empty, of such symbols
abbrev pub IsLine : List Symbol → Type 0
IsLine [] = ⊥
IsLine (s ∷ ss) = IsSaid s × AreSaid ss

-- such lines
abbrev pub AreLines : List (List Symbol) → Type 0
AreLines lines = AllByRecursion IsLine lines
