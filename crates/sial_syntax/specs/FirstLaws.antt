-- What the first fault is: one of the faults, before which none comes.
use Rattle.std.specs.Prelude.{◌≡◌, ◌↔◌, List, [], Some, None, false}
use Rattle.std.specs.List.{Contains}
use Rattle.sial_syntax.specs.Shapes.{Fault, comes_before, first_fault}

-- the first fault is one of them, and none of them comes before it, by line, then by the rule's number
abbrev pub FirstIsFirst : Type 0
FirstIsFirst =
    (faults : List Fault) (first : Fault)
    → first_fault faults ≡ Some first → Contains faults first × ((other : Fault) → Contains faults other → comes_before other first ≡ false)

-- there is none exactly where there is no fault
abbrev pub NoneWithoutFaults : Type 0
NoneWithoutFaults = (faults : List Fault) → (first_fault faults ≡ None) ↔ (faults ≡ [])
