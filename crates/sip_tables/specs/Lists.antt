-- What a contract sees of tables.
use Rattle.std.specs.Prelude.{ℕ, List}
use Rattle.sip_tables.specs.declared.array.ArrayEntry.{ArrayEntry}
use Rattle.sip_tables.specs.declared.index.IndexEntry.{IndexEntry}
use Rattle.sip_tables.specs.declared.instruction.Instruction.{Instruction}
use Rattle.sip_tables.specs.declared.procedure.ProcedureEntry.{ProcedureEntry}

-- six lists, each entry with a number from 0 on; a scalar is the number of its name among the texts
pub record Lists : Type 0 where
  pub texts : List (List ℕ)
  pub indices : List IndexEntry
  pub arrays : List ArrayEntry
  pub scalars : List ℕ
  pub procedures : List ProcedureEntry
  pub code : List Instruction
