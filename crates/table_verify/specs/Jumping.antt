-- Jumps compared with what they should be, at the end of each statement.
use Rattle.std.specs.Prelude.{ℕ, ◌+◌, List, [], ◌∷◌, ◌++◌, ◌==◌, if◌then◌else◌, min, Option, Some, None}
use Rattle.sip_tables.specs.declared.instruction.Instruction.{Instruction}
use Rattle.sip_tables.specs.declared.instruction.Operation.{Operation}
use Rattle.sip_tables.specs.declared.instruction.Operation.TheVariants as op
use Rattle.table_verify.specs.declared.jump.Head.{Head}

-- the jump that an instruction has, and the one that it should have, each by how far it reaches
pub record Compared : Type 0 where
  pub at : ℕ
  pub written : ℕ
  pub right : ℕ

-- a head, whose statement or branch ends with this instruction
abbrev pub ended : (at : ℕ) → Head → Compared
ended at h = record { at = h.at; written = h.reach; right = at + 1 }

-- what is compared at the end of the innermost statement or branch, if one is open
abbrev pub closed : (at : ℕ) → List Head → List Compared
closed at [] = []
closed at (h ∷ heads) = ended at h ∷ []

-- the same at an end that jumps to its head
abbrev pub looped : (at to : ℕ) → List Head → List Compared
looped at to [] = []
looped at to (h ∷ heads) = ended at h ∷ record { at = at; written = to; right = h.at } ∷ []

-- what is compared at an instruction, the innermost head first
abbrev pub compared : (at : ℕ) → Operation → List Head → List Compared
compared at (op.EndDo to) heads = looped at to heads
compared at (op.EndPardo to) heads = looped at to heads
compared at (op.Else past) heads = closed at heads
compared at op.EndIf heads = closed at heads
compared at _ heads = []

-- a head with how far it reaches
abbrev pub head : (at reach : ℕ) → Head
head at reach = record { at = at; reach = reach }

-- the heads around the innermost one
abbrev pub around : List Head → List Head
around [] = []
around (h ∷ heads) = heads

-- the other branch in the place of the first, if one is open
abbrev pub turned : (at past : ℕ) → List Head → List Head
turned at past [] = []
turned at past (h ∷ heads) = head at past ∷ heads

-- the heads that are open behind an instruction
abbrev pub heads_after : (at : ℕ) → Operation → List Head → List Head
heads_after at (op.Do index past) heads = head at past ∷ heads
heads_after at (op.DoIn sub index past) heads = head at past ∷ heads
heads_after at (op.If cond otherwise) heads = head at otherwise ∷ heads
heads_after at (op.Pardo indices end) heads = head at (end + 1) ∷ heads
heads_after at (op.Else past) heads = turned at past heads
heads_after at (op.EndDo to) heads = around heads
heads_after at (op.EndPardo to) heads = around heads
heads_after at op.EndIf heads = around heads
heads_after at _ heads = heads

-- all that is compared in code, in order of the ends
abbrev pub all_compared : (at : ℕ) → List Head → List Instruction → List Compared
all_compared at heads [] = []
all_compared at heads (i ∷ code) = compared at i.operation heads ++ all_compared (at + 1) (heads_after at i.operation heads) code

-- the lesser of two numbers, where there are both
abbrev pub lesser : ℕ → Option ℕ → ℕ
lesser n None = n
lesser n (Some m) = min n m

-- the first instruction whose jump is wrong, of one and those before
abbrev pub with_one : Compared → Option ℕ → Option ℕ
with_one c wrong = if c.written == c.right then wrong else Some (lesser c.at wrong)

-- the same of all of these
abbrev pub first_wrong : Option ℕ → List Compared → Option ℕ
first_wrong wrong [] = wrong
first_wrong wrong (c ∷ cs) = first_wrong (with_one c wrong) cs
