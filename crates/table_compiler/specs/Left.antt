-- What is left to do of statements and procedures, and where the whole of it leads.
use Rattle.std.specs.Prelude.{◌≡◌, ℕ, List, ◌++◌}
use Rattle.sial_syntax.specs.Tree.{Block, Procedure}
use Rattle.sip_tables.specs.Texts.{body_prints}
use Rattle.sip_tables.specs.declared.instruction.Instruction.{Instruction}
use Rattle.table_compiler.specs.declared.flat.Flat.{Flat}
use Rattle.table_compiler.specs.Grown.{body_behind, procedures_behind, procedures_print}

-- a flat program, with the code of these statements behind it
abbrev pub with_body : (entries : List ℕ) → Flat → Block → List Instruction
with_body entries flat body = flat.code.items ++ body_behind entries flat body

-- a flat program, with the code of these procedures behind it
abbrev pub with_procedures : (entries : List ℕ) → Flat → List Procedure → List Instruction
with_procedures entries flat procedures = flat.code.items ++ procedures_behind entries flat procedures

-- the statements that are left lead where all of them lead
pub record LeadsTo (entries : List ℕ) (now start : Flat) (left whole : Block) : Type 0 where
  pub texts : now.texts.items ++ body_prints left ≡ start.texts.items ++ body_prints whole
  pub code : with_body entries now left ≡ with_body entries start whole

-- the procedures that are left lead where all of them lead
pub record ProceduresLeadTo (entries : List ℕ) (now start : Flat) (left whole : List Procedure) : Type 0 where
  pub texts : now.texts.items ++ procedures_print left ≡ start.texts.items ++ procedures_print whole
  pub code : with_procedures entries now left ≡ with_procedures entries start whole
