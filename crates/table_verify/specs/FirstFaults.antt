-- The first fault of tables.
use Rattle.std.specs.Prelude.{◌≡◌, ◌⊎◌, ℕ, ◌<◌, nat_lt, if◌then◌else◌, Option, Some, None}
use Rattle.sip_tables.specs.Lists.{Lists}
use Rattle.table_verify.specs.declared.fault.VerifyFault.{VerifyFault}
use Rattle.table_verify.specs.declared.fault.VerifyFault.TheVariants.{Nest, Target, Id, OutOfMemory}
use Rattle.table_verify.specs.Faults.{NestAt}
use Rattle.table_verify.specs.NumberFaults.{NumberAt}
use Rattle.table_verify.specs.TargetFaults.{TargetAt}

-- tables have this fault; want of memory is none of theirs
abbrev pub Has : Lists → VerifyFault → Type 0
Has t (Nest n) = NestAt n t
Has t (Target n) = TargetAt n t
Has t (Id n) = NumberAt n t
Has t OutOfMemory = ⊥

-- the instruction of a fault
abbrev pub instruction : VerifyFault → ℕ
instruction (Nest n) = n
instruction (Target n) = n
instruction (Id n) = n
instruction OutOfMemory = 0

-- the order of faults at one instruction
abbrev pub kind : VerifyFault → ℕ
kind (Nest n) = 0
kind (Target n) = 1
kind (Id n) = 2
kind OutOfMemory = 3

-- one fault comes before another: at an earlier instruction, or at the same one by its kind
abbrev pub Precedes : VerifyFault → VerifyFault → Type 0
Precedes a b = (instruction a < instruction b) ⊎ ((instruction a ≡ instruction b) × (kind a < kind b))

-- a fault is the first of some, or there is none of them
abbrev pub IsFirstOf : (VerifyFault → Type 0) → Option VerifyFault → Type 0
IsFirstOf P (Some fault) = P fault × ((other : VerifyFault) → Precedes other fault → P other → ⊥)
IsFirstOf P None = (fault : VerifyFault) → P fault → ⊥

-- the first fault that tables have, or that they have none
abbrev pub Finds : Lists → Option VerifyFault → Type 0
Finds t found = IsFirstOf (Has t) found

-- what is told of tables is their first fault, unless memory ran out
abbrev pub Tells : Lists → VerifyFault → Type 0
Tells t OutOfMemory = Unit {0}
Tells t fault = Finds t (Some fault)

-- the faults of one kind
abbrev pub OfNest : Lists → VerifyFault → Type 0
OfNest t fault = (kind fault ≡ 0) × Has t fault

abbrev pub OfTarget : Lists → VerifyFault → Type 0
OfTarget t fault = (kind fault ≡ 1) × Has t fault

abbrev pub OfId : Lists → VerifyFault → Type 0
OfId t fault = (kind fault ≡ 2) × Has t fault

-- the earlier of two, the first one at one instruction
abbrev pub earlier : Option VerifyFault → Option VerifyFault → Option VerifyFault
earlier None other = other
earlier (Some fault) None = Some fault
earlier (Some fault) (Some other) = if nat_lt (instruction other) (instruction fault) then Some other else Some fault
