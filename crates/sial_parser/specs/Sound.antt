-- Words as tokens give them: names are names, numbers and lines fit, printed texts are printed texts.
use Rattle.std.specs.Prelude.{◌<◌, List, IsTrue}
use Rattle.std.specs.List.{AllByRecursion}
use Rattle.sial_syntax.specs.Limits.{past_numbers, past_lines}
use Rattle.sial_syntax.specs.Names.{is_name, is_text}
use Rattle.sial_parser.specs.declared.word.Symbol.{Symbol}
use Rattle.sial_parser.specs.declared.word.Symbol.TheVariants.{Key, Sign, Name, Number, Quoted, LineEnd, End}
use Rattle.sial_parser.specs.declared.word.Word.{Word}

-- a symbol that a token may say
abbrev pub IsSoundSymbol : Symbol → Type 0
IsSoundSymbol (Name x) = IsTrue (is_name x)
IsSoundSymbol (Number n) = n < past_numbers
IsSoundSymbol (Quoted t) = IsTrue (is_text t)
IsSoundSymbol (Key k) = Unit {0}
IsSoundSymbol (Sign s) = Unit {0}
IsSoundSymbol LineEnd = Unit {0}
IsSoundSymbol End = Unit {0}

-- a word that a token may be
abbrev pub IsSound : Word → Type 0
IsSound w = (w.line < past_lines) × IsSoundSymbol w.symbol

-- such words
abbrev pub AreSound : List Word → Type 0
AreSound ws = AllByRecursion IsSound ws
