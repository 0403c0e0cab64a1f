use Rattle.std.proofs.Common.{◌≡◌, ◌-◌, length}
use Rattle.input_text.specs.Parts as spec
use Rattle.input_text.proofs.words.words_in.Given as goal

-- what is left is read as the whole
abbrev pub invariant-loop-turn : goal.invariant-loop-turn
invariant-loop-turn l = spec.words_from (length l.line - l.turn) l.words.items l.rest ≡ spec.words_in l.line
