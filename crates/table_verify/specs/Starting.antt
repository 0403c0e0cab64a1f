-- Where procedures start, compared with their entries and with calls.
use Rattle.std.specs.Prelude.{ℕ, ◌+◌, List, [], ◌∷◌, ◌++◌, Bool, true, false, ◌&&◌, not, ◌==◌, nat_lt, if◌then◌else◌, min, Option, Some, None, slice_get}
use Rattle.sip_tables.specs.declared.instruction.Instruction.{Instruction}
use Rattle.sip_tables.specs.declared.instruction.Operation.{Operation}
use Rattle.sip_tables.specs.declared.instruction.Operation.TheVariants as op
use Rattle.sip_tables.specs.declared.procedure.ProcedureEntry.{ProcedureEntry}

-- whether an operation ends a body
abbrev pub ends_body : Operation → Bool
ends_body op.Stop = true
ends_body op.Return = true
ends_body _ = false

-- what stands behind the ends of bodies, behind what was found before
abbrev pub starts_onto : List ℕ → (at : ℕ) → List Instruction → List ℕ
starts_onto front at [] = front
starts_onto front at (i ∷ code) = starts_onto (if ends_body i.operation then front ++ (at + 1) ∷ [] else front) (at + 1) code

-- whether a number is known and another one
abbrev pub differs : ℕ → Option ℕ → Bool
differs entry None = false
differs entry (Some start) = not (start == entry)

-- whether a procedure is known to start elsewhere
abbrev pub is_other : List ℕ → (procedure entry : ℕ) → Bool
is_other starts procedure entry = differs entry (slice_get starts procedure)

-- whether one of the procedures from this one on starts elsewhere than its entry says
abbrev pub some_other : List ℕ → (procedure : ℕ) → List ProcedureEntry → Bool
some_other starts procedure [] = false
some_other starts procedure (q ∷ qs) = if is_other starts procedure q.entry then true else some_other starts (procedure + 1) qs

-- whether an operation is a call of one of so many procedures, which starts elsewhere
abbrev pub calls_other : (procedures : ℕ) → List ℕ → Operation → Bool
calls_other procedures starts (op.Call procedure entry) = nat_lt procedure procedures && is_other starts procedure entry
calls_other procedures starts _ = false

-- the first such instruction
abbrev pub first_call : (procedures : ℕ) → List ℕ → (at : ℕ) → List Instruction → Option ℕ
first_call procedures starts at [] = None
first_call procedures starts at (i ∷ code) = if calls_other procedures starts i.operation then Some at else first_call procedures starts (at + 1) code

-- the earlier of two, where there are both
abbrev pub earlier : Option ℕ → Option ℕ → Option ℕ
earlier None b = b
earlier (Some a) None = Some a
earlier (Some a) (Some b) = Some (min a b)
