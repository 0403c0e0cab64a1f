-- What a program's calls are refused for, and how deep they go.
use Rattle.std.specs.Prelude.{◌≡◌, ℕ, List, map, length, Option, Some, option_map}
use Rattle.sial_syntax.specs.Boxes.{numbers_from}
use Rattle.sial_syntax.specs.Shapes.{Fault}
use Rattle.sial_syntax.specs.SideRules.{procedure_depth, recursion, side_fault}
use Rattle.sial_syntax.specs.Tree.{Tree}
use Rattle.scalar_discipline.specs.declared.fault.RuleFault.{RuleFault}
use Rattle.scalar_discipline.specs.declared.fault.RuleFault.TheVariants.{PardoInPardo, SharedWriteOutside, SyncInside, PrintInside, StaticWriteInside, MixedLocal, MixedScalar, PartialRead, Recursion, CallTooDeep, OutOfMemory}

-- the depth of each procedure
abbrev pub depths_of : Tree → List ℕ
depths_of p = map (procedure_depth p) (numbers_from 0 (length p.procedures))

-- what is answered is the first call that leads back, or want of memory, and nothing else
abbrev pub IsCause : Tree → RuleFault → Type 0
IsCause p (Recursion line) = recursion p ≡ Some line
IsCause p OutOfMemory = Unit {0}
IsCause p fault = ⊥

-- a fault as the rules number it; want of memory stands behind all of them
abbrev pub fault_of : RuleFault → Fault
fault_of (PardoInPardo line) = record { line = line; rule = 1 }
fault_of (SharedWriteOutside line) = record { line = line; rule = 2 }
fault_of (SyncInside line) = record { line = line; rule = 3 }
fault_of (PrintInside line) = record { line = line; rule = 4 }
fault_of (StaticWriteInside line) = record { line = line; rule = 5 }
fault_of (MixedLocal line) = record { line = line; rule = 6 }
fault_of (MixedScalar line) = record { line = line; rule = 7 }
fault_of (PartialRead line) = record { line = line; rule = 8 }
fault_of (Recursion line) = record { line = line; rule = 9 }
fault_of (CallTooDeep line) = record { line = line; rule = 10 }
fault_of OutOfMemory = record { line = 0; rule = 11 }

-- a fault that was found, if any
abbrev pub seen : Option RuleFault → Option Fault
seen found = option_map fault_of found

-- what is answered is the first fault of sides, or want of memory
abbrev pub IsFirst : Tree → RuleFault → Type 0
IsFirst p OutOfMemory = Unit {0}
IsFirst p fault = side_fault p ≡ Some (fault_of fault)
