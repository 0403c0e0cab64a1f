-- The instructions that close statements, programs and procedures.
use Rattle.std.specs.Prelude.{ℕ, zero, suc, List, [], ◌∷◌, ◌++◌, Bool, true, false, ◌==◌, ◌&&◌, if◌then◌else◌, Option, Some, None}
use Rattle.sial_syntax.specs.declared.condition.Cond.{Cond}
use Rattle.sip_tables.specs.declared.instruction.Instruction.{Instruction}
use Rattle.sip_tables.specs.declared.instruction.Operation.{Operation}
use Rattle.sip_tables.specs.declared.instruction.Operation.TheVariants as op
use Rattle.table_verify.specs.Rest.{Left, Read, next, ◌>>=◌}

-- whether an operation begins a statement
abbrev pub begins : Operation → Bool
begins op.Stop = false
begins op.Return = false
begins (op.EndDo head) = false
begins (op.Else past) = false
begins op.EndIf = false
begins (op.Where test) = false
begins (op.EndPardo head) = false
begins _ = true

-- whether code begins with a statement
abbrev pub begin : List Instruction → Bool
begin [] = false
begin (i ∷ rest) = begins i.operation

-- tests of an operation
abbrev pub ends_do : (head : ℕ) → Operation → Bool
ends_do head (op.EndDo to) = to == head
ends_do head _ = false

abbrev pub ends_pardo : (head : ℕ) → Operation → Bool
ends_pardo head (op.EndPardo to) = to == head
ends_pardo head _ = false

abbrev pub ends_if : Operation → Bool
ends_if op.EndIf = true
ends_if _ = false

abbrev pub stops : Operation → Bool
stops op.Stop = true
stops _ = false

abbrev pub returns_from : Operation → Bool
returns_from op.Return = true
returns_from _ = false

-- an instruction on this line that passes a test is taken
abbrev pub closed : (line : ℕ) → (Operation → Bool) → Left → Option Left
closed line test left = next left >>= λ x. if (x.0.line == line) && test x.0.operation then Some x.1 else None

-- the end of a loop that begins at `head`
unfoldable pub end_do : (line head : ℕ) → Left → Option Left
end_do line head left = closed line (ends_do head) left

-- the end of a pardo that begins at `head`
unfoldable pub end_pardo : (line head : ℕ) → Left → Option Left
end_pardo line head left = closed line (ends_pardo head) left

-- the end of an `if`
unfoldable pub end_if : (line : ℕ) → Left → Option Left
end_if line left = closed line ends_if left

-- the end of a program
unfoldable pub stop : Left → Option Left
stop left = closed 0 stops left

-- the end of a procedure
unfoldable pub return_from : Left → Option Left
return_from left = closed 0 returns_from left

-- the condition of a `where` line on this line, if one comes next, and what is left behind it
abbrev pub where_of : (same : Bool) → Operation → Left → Read Cond
where_of true (op.Where test) left = Some (test, left)
where_of _ _ left = None

abbrev pub where_at : (line : ℕ) → Left → Read Cond
where_at line left = next left >>= λ x. where_of (x.0.line == line) x.0.operation x.1

-- what was read, or what follows one more
abbrev pub more : {A B : Type 0} → Option A → B → (A → Option B) → Option B
more None found go = Some found
more (Some x) found go = go x

-- the conditions of the `where` lines that come next, of at most so many, behind those that were read
unfoldable pub wheres : (line most : ℕ) → List Cond → Left → Read (List Cond)
wheres line zero front left = Some (front, left)
wheres line (suc most) front left = more (where_at line left) (front, left) (λ x. wheres line most (front ++ x.0 ∷ []) x.1)
