use Rattle.std.proofs.Common.{◌≡◌, ◌++◌, drop, map}
use Rattle.input_text.specs.Adding.{number_of}
use Rattle.input_text.proofs.values.numbers_of.Given as goal

-- the numbers so far, and those of the values that are left
abbrev pub invariant-loop-value : goal.invariant-loop-value
invariant-loop-value l = l.numbers.items ++ map number_of (drop l.value-index l.values) ≡ map number_of l.values
