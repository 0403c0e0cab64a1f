use Rattle.std.proofs.Common.{◌≡◌, ◌++◌, drop, map}
use Rattle.input_text.specs.Adding.{plain}
use Rattle.input_text.proofs.figures.extend.Given as goal

-- the numbers so far, and those that are left
abbrev pub invariant-loop-figure : goal.invariant-loop-figure
invariant-loop-figure l = l.numbers.items ++ map plain (drop l.figure-index l.figures) ≡ l.fn.numbers.items ++ map plain l.figures
