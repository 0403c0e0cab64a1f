use Rattle.std.proofs.Common.{◌≡◌, [], drop}
use Rattle.input_text.specs.Reading as spec
use Rattle.input_text.proofs.numbers.numbers_in.Given as goal

-- the numbers so far and the words that are left
abbrev pub invariant-loop-word : goal.invariant-loop-word
invariant-loop-word l = spec.numbers_from l.least l.most l.numbers.items (drop l.word-index l.words) ≡ spec.numbers_from l.least l.most [] l.words
