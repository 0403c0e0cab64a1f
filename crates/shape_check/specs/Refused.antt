-- What a program is refused for.
use Rattle.std.specs.Prelude.{◌≡◌, ℕ, Option, Some, option_map}
use Rattle.sial_syntax.specs.Shapes.{Fault, shape_fault}
use Rattle.sial_syntax.specs.Tree.{Tree}
use Rattle.shape_check.specs.declared.fault.ShapeFault.{ShapeFault}
use Rattle.shape_check.specs.declared.fault.ShapeFault.TheVariants.{Unbound, Rebound, Repeated, WrongKind, WrongIndices, NotWritable, OutOfMemory}

-- a fault as the rules number it; want of memory stands behind all of them
abbrev pub fault_of : ShapeFault → Fault
fault_of (Unbound line) = record { line = line; rule = 1 }
fault_of (Rebound line) = record { line = line; rule = 2 }
fault_of (Repeated line) = record { line = line; rule = 3 }
fault_of (WrongKind line) = record { line = line; rule = 4 }
fault_of (WrongIndices line) = record { line = line; rule = 5 }
fault_of (NotWritable line) = record { line = line; rule = 6 }
fault_of OutOfMemory = record { line = 0; rule = 7 }

-- a fault that was found, if any
abbrev pub seen : Option ShapeFault → Option Fault
seen found = option_map fault_of found

-- the first fault of a program: by line, then by the rule's number
abbrev pub IsFirst : Tree → (line rule : ℕ) → Type 0
IsFirst p line rule = shape_fault p ≡ Some (record { line = line; rule = rule })

-- what is answered is the program's first fault, or want of memory
abbrev pub IsCause : Tree → ShapeFault → Type 0
IsCause p (Unbound line) = IsFirst p line 1
IsCause p (Rebound line) = IsFirst p line 2
IsCause p (Repeated line) = IsFirst p line 3
IsCause p (WrongKind line) = IsFirst p line 4
IsCause p (WrongIndices line) = IsFirst p line 5
IsCause p (NotWritable line) = IsFirst p line 6
IsCause p OutOfMemory = Unit {0}
