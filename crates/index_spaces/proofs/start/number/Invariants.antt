use Rattle.std.proofs.Common.{◌≡◌, drop}
use Rattle.index_spaces.specs.Given.{number_given}
use Rattle.index_spaces.proofs.start.number.Given as goal

-- the lines that are left give what all give
abbrev pub invariant-loop-line : goal.invariant-loop-line
invariant-loop-line l = number_given l.scalars (drop l.line-index l.lines) l.scalar ≡ number_given l.scalars l.lines l.scalar
