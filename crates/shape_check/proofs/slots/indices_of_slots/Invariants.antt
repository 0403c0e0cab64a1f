use Rattle.std.proofs.Common.{◌≡◌, ◌++◌, drop}
use Rattle.shape_check.specs.Breaks.{indices_of_slots}
use Rattle.shape_check.proofs.slots.indices_of_slots.Given as goal

-- the indices so far, and those of the slots that are left, are those of all
abbrev pub invariant-loop-slot : goal.invariant-loop-slot
invariant-loop-slot l = l.indices.items ++ indices_of_slots (drop l.slot-index l.at) ≡ indices_of_slots l.at
