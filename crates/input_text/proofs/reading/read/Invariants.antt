use Rattle.std.proofs.Common.{◌≡◌, ◌+◌, ◌≤◌, length}
use Rattle.input_text.specs.LineReading.{add_line, add_lines, given_in}
use Rattle.input_text.specs.Seen.{IsTied, seen}
use Rattle.input_text.specs.Lines.{lines_of}
use Rattle.input_text.proofs.reading.read.Given as goal

-- what is left is read as the whole; no line without its byte
abbrev pub invariant-loop-rest : goal.invariant-loop-rest
invariant-loop-rest l = record {
  meaning : add_lines add_line l.line (seen l.building) (lines_of l.rest) ≡ given_in l.text;
  tied : IsTied l.building;
  line : l.line + length l.rest ≤ length l.text + 1;
}

abbrev pub decreases-loop-rest : goal.decreases-loop-rest
decreases-loop-rest l = length l.rest
