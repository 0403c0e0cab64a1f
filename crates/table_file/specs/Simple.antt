-- Statements that are one instruction, read field by field.
use Rattle.std.specs.Prelude.{ℕ, List, Option, Some, None, Result, Ok}
use Rattle.sial_syntax.specs.declared.operand.Right.{Right}
use Rattle.sial_syntax.specs.declared.operand.Operand.{Operand}
use Rattle.sial_syntax.specs.declared.operand.Right.TheVariants.{One, Two}
use Rattle.sial_syntax.specs.declared.operand.Bin.{Bin}
use Rattle.sip_tables.specs.declared.instruction.Operation.TheVariants as op
use Rattle.sip_tables.specs.declared.instruction.Instruction.{Instruction}
use Rattle.table_file.specs.declared.fault.TableFault.{TableFault}
use Rattle.table_file.specs.Combined.{made, one_thing, one_block, array_slots, put_blocks}
use Rattle.table_file.specs.Operands.{no_operand, thing, text_operand, target_operand, right_operand}
use Rattle.table_file.specs.Heads.{plain_head, line_alone, assign_mode}
use Rattle.table_file.specs.Fields.{◌>>=◌, unused}

-- a right side whose first operand was read
unfoldable pub right_side : Operand → Option Bin → List ℕ → (at : ℕ) → Result (Right × ℕ) TableFault
right_side first None bytes at = do
  next ← no_operand bytes at
  Ok (One first, next)
right_side first (Some bin) bytes at = do
  second ← right_operand bytes at
  Ok (Two first bin second.0, second.1)

-- an assignment
unfoldable pub assignment : List ℕ → (at : ℕ) → Result (Instruction × ℕ) TableFault
assignment bytes at = do
  mode ← assign_mode bytes at
  line ← line_alone bytes mode.1
  target ← target_operand bytes line.1
  first ← right_operand bytes target.1
  right ← right_side first.0 mode.0.1 bytes first.1
  made line.0 (op.Assign target.0 mode.0.0 right.0) right.1

-- two scalars
unfoldable pub collection : List ℕ → (at : ℕ) → Result (Instruction × ℕ) TableFault
collection bytes at = do
  line ← plain_head bytes at
  a ← thing 2 bytes line.1
  b ← thing 2 bytes a.1
  next ← no_operand bytes b.1
  made line.0 (op.Collective a.0 b.0) next

-- a printed text
unfoldable pub print : (texts : List (List ℕ)) → List ℕ → (at : ℕ) → Result (Instruction × ℕ) TableFault
print texts bytes at = do
  line ← plain_head bytes at
  a ← text_operand texts bytes line.1
  next ← unused 32 bytes a.1
  made line.0 (op.Print a.0) next

-- a block that is got
unfoldable pub get : List ℕ → (at : ℕ) → Result (Instruction × ℕ) TableFault
get bytes at = do
  x ← one_block bytes at
  made x.0.0 (op.Get x.0.1) x.1

-- a block that is requested
unfoldable pub request : List ℕ → (at : ℕ) → Result (Instruction × ℕ) TableFault
request bytes at = do
  x ← one_block bytes at
  made x.0.0 (op.Request x.0.1) x.1

-- a block whose integrals are computed
unfoldable pub integrals : List ℕ → (at : ℕ) → Result (Instruction × ℕ) TableFault
integrals bytes at = do
  x ← one_block bytes at
  made x.0.0 (op.Integrals x.0.1) x.1

-- an array that is created
unfoldable pub create : List ℕ → (at : ℕ) → Result (Instruction × ℕ) TableFault
create bytes at = do
  x ← one_thing 8 bytes at
  made x.0.0 (op.Create x.0.1) x.1

-- an array that is deleted
unfoldable pub delete : List ℕ → (at : ℕ) → Result (Instruction × ℕ) TableFault
delete bytes at = do
  x ← one_thing 8 bytes at
  made x.0.0 (op.Delete x.0.1) x.1

-- a scalar that is printed
unfoldable pub print_scalar : List ℕ → (at : ℕ) → Result (Instruction × ℕ) TableFault
print_scalar bytes at = do
  x ← one_thing 2 bytes at
  made x.0.0 (op.PrintScalar x.0.1) x.1

-- a block that is put into a distributed one
unfoldable pub put : (version : ℕ) → List ℕ → (at : ℕ) → Result (Instruction × ℕ) TableFault
put version bytes at = do
  x ← put_blocks version bytes at
  made x.0.line (op.Put x.0.block x.0.how x.0.from) x.1

-- a block that is put into a served one
unfoldable pub prepare : (version : ℕ) → List ℕ → (at : ℕ) → Result (Instruction × ℕ) TableFault
prepare version bytes at = do
  x ← put_blocks version bytes at
  made x.0.line (op.Prepare x.0.block x.0.how x.0.from) x.1

-- blocks that are allocated
unfoldable pub allocate : List ℕ → (at : ℕ) → Result (Instruction × ℕ) TableFault
allocate bytes at = do
  x ← array_slots bytes at
  made x.0.line (op.Allocate x.0.array x.0.slots) x.1

-- blocks that are deallocated
unfoldable pub deallocate : List ℕ → (at : ℕ) → Result (Instruction × ℕ) TableFault
deallocate bytes at = do
  x ← array_slots bytes at
  made x.0.line (op.Deallocate x.0.array x.0.slots) x.1
