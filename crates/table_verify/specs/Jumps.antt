-- Where instructions lead, by the instruction that ends or begins what they stand in.
use Rattle.std.specs.Prelude.{◌≡◌, ◌⊎◌, ℕ, ◌+◌, List, [], ◌∷◌, ◌++◌}
use Rattle.sip_tables.specs.declared.instruction.Instruction.{Instruction}
use Rattle.sip_tables.specs.declared.instruction.Operation.{Operation}
use Rattle.sip_tables.specs.declared.instruction.Operation.TheVariants as op

-- an instruction that jumps, and how many instructions it takes to tell where: those up to the end of its statement or of its branch; of an
-- end, those before its head. So a jump leads behind these instructions, but for that of a pardo, which leads to the last of them
pub record Jump : Type 0 where
  pub at : ℕ
  pub reach : ℕ

-- the jump of an instruction that has one; a call's is another matter, since it leads to a procedure
abbrev pub jump : (at : ℕ) → Operation → List Jump
jump at (op.Do index past) = record { at = at; reach = past } ∷ []
jump at (op.DoIn sub index past) = record { at = at; reach = past } ∷ []
jump at (op.EndDo head) = record { at = at; reach = head } ∷ []
jump at (op.If cond otherwise) = record { at = at; reach = otherwise } ∷ []
jump at (op.Else past) = record { at = at; reach = past } ∷ []
jump at (op.Pardo indices end) = record { at = at; reach = end + 1 } ∷ []
jump at (op.EndPardo head) = record { at = at; reach = head } ∷ []
jump at _ = []

-- the jumps of code whose first instruction has the number `at`
abbrev pub jumps : (at : ℕ) → List Instruction → List Jump
jumps at [] = []
jumps at (i ∷ code) = jump at i.operation ++ jumps (at + 1) code

-- something is among the entries of a list
abbrev pub IsIn : {X : Type 0} → X → List X → Type 0
IsIn x [] = ⊥
IsIn x (y ∷ ys) = (x ≡ y) ⊎ IsIn x ys
