-- Where tables lead elsewhere than a program: a jump, a call, or a procedure's first instruction.
use Rattle.std.specs.Prelude.{◌≡◌, ◌⊎◌, ℕ, ◌<◌, ◌≤◌, Some, slice_get}
use Rattle.sial_syntax.specs.Tree.{Tree}
use Rattle.sip_tables.specs.Code.{entries_of}
use Rattle.sip_tables.specs.declared.instruction.Instruction.{Instruction}
use Rattle.sip_tables.specs.declared.instruction.Operation.TheVariants as op
use Rattle.sip_tables.specs.declared.procedure.ProcedureEntry.{ProcedureEntry}
use Rattle.sip_tables.specs.Lists.{Lists}
use Rattle.table_verify.specs.Faults.{Agrees}
use Rattle.table_verify.specs.JumpFaults.{IsFront, JumpIsOther}

-- so many instructions tell where a procedure starts: there is a program that begins with their lines and roles, and it starts there, behind
-- one of them
pub record StartIsTold (count : ℕ) (t : Lists) (procedure start : ℕ) : Type 0 where
  pub program : Tree
  pub agrees : Agrees count t program
  pub starts : slice_get (entries_of program) procedure ≡ Some start
  pub told : start ≤ count

-- a procedure starts elsewhere than its entry says
pub record EntryIsOther (t : Lists) : Type 0 where
  pub count : ℕ
  pub front : IsFront count t
  pub procedure : ℕ
  pub start : ℕ
  pub right : StartIsTold count t procedure start
  pub entry : ProcedureEntry
  pub written : slice_get t.procedures procedure ≡ Some entry
  pub other : entry.entry ≡ start → ⊥

-- an instruction is a call of a procedure that starts elsewhere
pub record CallIsOther (at : ℕ) (t : Lists) : Type 0 where
  pub count : ℕ
  pub front : IsFront count t
  pub before : at < count
  pub procedure : ℕ
  pub start : ℕ
  pub right : StartIsTold count t procedure start
  pub call : Instruction
  pub written : slice_get t.code at ≡ Some call
  pub entry : ℕ
  pub calls : call.operation ≡ op.Call procedure entry
  pub other : entry ≡ start → ⊥

-- an instruction leads elsewhere; entries count as the first
abbrev pub TargetAt : ℕ → Lists → Type 0
TargetAt at t = JumpIsOther at t ⊎ (CallIsOther at t ⊎ ((at ≡ 0) × EntryIsOther t))
