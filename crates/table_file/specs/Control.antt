-- Instructions of loops, branches, pardos and procedures, read field by field.
use Rattle.std.specs.Prelude.{ℕ, List, Result}
use Rattle.sip_tables.specs.declared.instruction.Operation.TheVariants as op
use Rattle.sip_tables.specs.declared.instruction.Instruction.{Instruction}
use Rattle.sip_tables.specs.declared.instruction.Operation.{Operation}
use Rattle.table_file.specs.Combined.{made, bare, jump, compared}
use Rattle.table_file.specs.Heads.{jump_head, line_and_jump, line_alone, test_mode}
use Rattle.table_file.specs.declared.fault.TableFault.{TableFault}
use Rattle.table_file.specs.Operands.{no_operand, thing, pardo_indices}
use Rattle.table_file.specs.Fields.{◌>>=◌, unused}

-- the stop of a program, and the return of a procedure
unfoldable pub ending : Operation → List ℕ → (at : ℕ) → Result (Instruction × ℕ) TableFault
ending operation bytes at = do
  x ← bare bytes at
  made x.0 operation x.1

-- the head of a loop over segments
unfoldable pub loop_head : List ℕ → (at : ℕ) → Result (Instruction × ℕ) TableFault
loop_head bytes at = do
  head ← jump_head bytes at
  a ← thing 4 bytes head.1
  next ← unused 32 bytes a.1
  made head.0.0 (op.Do a.0 head.0.1) next

-- the head of a loop over pieces
unfoldable pub pieces_head : List ℕ → (at : ℕ) → Result (Instruction × ℕ) TableFault
pieces_head bytes at = do
  head ← jump_head bytes at
  a ← thing 4 bytes head.1
  b ← thing 4 bytes a.1
  next ← no_operand bytes b.1
  made head.0.0 (op.DoIn a.0 b.0 head.0.1) next

-- a test
unfoldable pub branch : List ℕ → (at : ℕ) → Result (Instruction × ℕ) TableFault
branch bytes at = do
  test ← test_mode bytes at
  head ← line_and_jump bytes test.1
  cond ← compared test.0 bytes head.1
  made head.0.0 (op.If cond.0 head.0.1) cond.1

-- the head of a pardo
unfoldable pub pardo_head : List ℕ → (at : ℕ) → Result (Instruction × ℕ) TableFault
pardo_head bytes at = do
  head ← jump_head bytes at
  indices ← pardo_indices bytes head.1
  next ← no_operand bytes indices.1
  made head.0.0 (op.Pardo indices.0 head.0.1) next

-- a `where` line
unfoldable pub where_line : List ℕ → (at : ℕ) → Result (Instruction × ℕ) TableFault
where_line bytes at = do
  test ← test_mode bytes at
  line ← line_alone bytes test.1
  cond ← compared test.0 bytes line.1
  made line.0 (op.Where cond.0) cond.1

-- a call
unfoldable pub call : List ℕ → (at : ℕ) → Result (Instruction × ℕ) TableFault
call bytes at = do
  head ← jump_head bytes at
  a ← thing 6 bytes head.1
  next ← unused 32 bytes a.1
  made head.0.0 (op.Call a.0 head.0.1) next

-- the end of a loop
unfoldable pub end_do : List ℕ → (at : ℕ) → Result (Instruction × ℕ) TableFault
end_do bytes at = do
  x ← jump bytes at
  made x.0.0 (op.EndDo x.0.1) x.1

-- the end of the branch that was taken
unfoldable pub past_else : List ℕ → (at : ℕ) → Result (Instruction × ℕ) TableFault
past_else bytes at = do
  x ← jump bytes at
  made x.0.0 (op.Else x.0.1) x.1

-- the end of a pardo
unfoldable pub end_pardo : List ℕ → (at : ℕ) → Result (Instruction × ℕ) TableFault
end_pardo bytes at = do
  x ← jump bytes at
  made x.0.0 (op.EndPardo x.0.1) x.1
