-- The outline of code: what nests in what, with no number in it.
use Rattle.std.specs.Prelude.{ℕ, List, map}
use Rattle.sip_tables.specs.declared.instruction.Instruction.{Instruction}
use Rattle.sip_tables.specs.declared.instruction.Operation.{Operation}
use Rattle.sip_tables.specs.declared.instruction.Operation.TheVariants as op

-- what an operation is to the statements around it; one that is a whole statement is Alone, whatever it says
pub data Role : Type 0 where
  Alone : Role
  Loop : Role
  Pardo : Role
  Branch : Role
  Test : Role
  Other : Role
  EndLoop : Role
  EndPardo : Role
  EndBranch : Role
  EndProgram : Role
  EndProcedure : Role

abbrev pub role : Operation → Role
role op.Stop = EndProgram
role op.Return = EndProcedure
role (op.Do index past) = Loop
role (op.DoIn sub index past) = Loop
role (op.EndDo head) = EndLoop
role (op.If cond otherwise) = Branch
role (op.Else past) = Other
role op.EndIf = EndBranch
role (op.Pardo indices end) = Pardo
role (op.Where cond) = Test
role (op.EndPardo head) = EndPardo
role _ = Alone

-- the line of an instruction and its role
pub record Mark : Type 0 where
  pub line : ℕ
  pub role : Role

abbrev pub mark : Instruction → Mark
mark i = record { line = i.line; role = role i.operation }

-- the outline of code
abbrev pub outline : List Instruction → List Mark
outline code = map mark code
