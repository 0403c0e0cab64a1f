use Rattle.std.proofs.Common.{◌≡◌, drop}
use Rattle.scalar_discipline.specs.Mixing.{noted}
use Rattle.scalar_discipline.proofs.mixing.note_all.Given as goal

-- with the arrays that are left the lines are those of all
abbrev pub invariant-loop-array : goal.invariant-loop-array
invariant-loop-array l = noted (drop l.array-index l.named) l.line l.lines.items ≡ noted l.named l.line l.fn.lines.items
