use Rattle.std.proofs.Common.{◌≡◌, ◌++◌, drop, map}
use Rattle.table_file.specs.Operands.{slot_of}
use Rattle.table_file.proofs.operands.slots_of.Given as goal

abbrev pub invariant-loop-number : goal.invariant-loop-number
invariant-loop-number l = l.slots.items ++ map slot_of (drop l.number-index l.numbers) ≡ map slot_of l.numbers
