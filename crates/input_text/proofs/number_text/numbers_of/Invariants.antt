use Rattle.std.proofs.Common.{◌≡◌, ◌+◌, ◌≤◌, length}
use Rattle.input_text.specs.LineReading.{add_lines, add_numbers, numbers_of_text}
use Rattle.input_text.specs.Lines.{lines_of}
use Rattle.input_text.proofs.number_text.numbers_of.Given as goal

-- what is left is read as the whole; no line without its byte
abbrev pub invariant-loop-rest : goal.invariant-loop-rest
invariant-loop-rest l = record {
  meaning : add_lines (add_numbers l.most) l.line l.numbers.items (lines_of l.rest) ≡ numbers_of_text l.most l.text;
  line : l.line + length l.rest ≤ length l.text + 1;
}

abbrev pub decreases-loop-rest : goal.decreases-loop-rest
decreases-loop-rest l = length l.rest
