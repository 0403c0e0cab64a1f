use Rattle.std.proofs.Common.{◌≡◌, ◌++◌, ℕ, List, drop, map}
use Rattle.std.specs.List.{enumerate_from}
use Rattle.index_spaces.specs.Given.{number_given, numbers_among}
use Rattle.index_spaces.proofs.start.numbers.Given as goal

-- the numbers so far, and those of the scalars that are left, are those of all
abbrev pub invariant-loop-place : goal.invariant-loop-place
invariant-loop-place l =
    l.numbers.items ++ map (λ (x : ℕ × List ℕ). number_given l.scalars l.lines x.0) (enumerate_from l.place (drop l.place l.scalars))
    ≡ numbers_among l.scalars l.lines
