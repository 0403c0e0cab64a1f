-- What closes a list, as a test.
use Rattle.std.specs.Prelude.{Bool}
use Rattle.sial_parser.specs.Parsing.{closes, is_line_end}
use Rattle.sial_parser.specs.declared.lists.Closing.{Closing}
use Rattle.sial_parser.specs.declared.lists.Closing.TheVariants.{Parenthesis, LineEnd}
use Rattle.sial_parser.specs.declared.word.Symbol.{Symbol}

-- the test of what closes a list
abbrev pub closing_of : Closing → (Symbol → Bool)
closing_of Parenthesis = closes
closing_of LineEnd = is_line_end
