use Rattle.std.proofs.Common.{◌≡◌, ◌+◌, ◌-◌, ◌≤◌, length}
use Rattle.sial_lexer.specs.Reading.{lex_from, seen, nothing}
use Rattle.sial_lexer.proofs.lexer.read.Given as goal

-- what is left is read as the whole; no line and no token without its piece
abbrev pub invariant-loop-turn : goal.invariant-loop-turn
invariant-loop-turn l = record {
  meaning : lex_from (length l.text - l.turn) (seen l.scan) l.rest ≡ lex_from (length l.text) nothing l.text;
  at : l.scan.at + length l.rest ≡ length l.text;
  line : l.scan.line ≤ l.turn + 1;
  few : length l.scan.tokens.items ≤ l.turn;
}
