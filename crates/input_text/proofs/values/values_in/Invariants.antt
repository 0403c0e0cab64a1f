use Rattle.std.proofs.Common.{◌≡◌, [], false, drop}
use Rattle.input_text.specs.Reading as spec
use Rattle.input_text.proofs.values.values_in.Given as goal

-- the values so far and the words that are left
abbrev pub invariant-loop-word : goal.invariant-loop-word
invariant-loop-word l = spec.values_from l.values.items l.negative (drop l.word-index l.words) ≡ spec.values_from [] false l.words
