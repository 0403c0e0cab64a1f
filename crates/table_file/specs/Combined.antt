-- What some instructions have in common behind their operation, read field by field.
use Rattle.std.specs.Prelude.{ℕ, List, Result, Ok}
use Rattle.sial_syntax.specs.declared.operand.BlockRef.{BlockRef}
use Rattle.sial_syntax.specs.declared.condition.Test.{Test}
use Rattle.sial_syntax.specs.declared.condition.Cond.{Cond}
use Rattle.sip_tables.specs.declared.instruction.Instruction.{Instruction}
use Rattle.sip_tables.specs.declared.instruction.Operation.{Operation}
use Rattle.table_file.specs.Heads.{plain_head, jump_head, line_alone, put_mode}
use Rattle.table_file.specs.declared.fault.TableFault.{TableFault}
use Rattle.table_file.specs.declared.combined.Slotted.{Slotted}
use Rattle.table_file.specs.Operands.{no_operand, thing, block, slots, value_operand}
use Rattle.table_file.specs.Fields.{◌>>=◌, unused}
use Rattle.table_file.specs.declared.combined.Putting.{Putting}

-- an instruction on a line
abbrev pub made : (line : ℕ) → Operation → (next : ℕ) → Result (Instruction × ℕ) TableFault
made line operation next = Ok (record { line = line; operation = operation }, next)

-- no operand, no jump: the line
unfoldable pub bare : List ℕ → (at : ℕ) → Result (ℕ × ℕ) TableFault
bare bytes at = do
  line ← plain_head bytes at
  next ← unused 48 bytes line.1
  Ok (line.0, next)

-- a jump and no operand: the line and the jump
unfoldable pub jump : List ℕ → (at : ℕ) → Result ((ℕ × ℕ) × ℕ) TableFault
jump bytes at = do
  head ← jump_head bytes at
  next ← unused 48 bytes head.1
  Ok (head.0, next)

-- one thing under this tag: the line and the thing
unfoldable pub one_thing : (tag : ℕ) → List ℕ → (at : ℕ) → Result ((ℕ × ℕ) × ℕ) TableFault
one_thing tag bytes at = do
  line ← plain_head bytes at
  a ← thing tag bytes line.1
  next ← unused 32 bytes a.1
  Ok ((line.0, a.0), next)

-- a block: the line and the block
unfoldable pub one_block : List ℕ → (at : ℕ) → Result ((ℕ × BlockRef) × ℕ) TableFault
one_block bytes at = do
  line ← plain_head bytes at
  a ← block bytes line.1
  next ← unused 32 bytes a.1
  Ok ((line.0, a.0), next)

-- the slots of an array
unfoldable pub array_slots : List ℕ → (at : ℕ) → Result (Slotted × ℕ) TableFault
array_slots bytes at = do
  line ← plain_head bytes at
  a ← slots bytes line.1
  next ← unused 32 bytes a.1
  Ok (record { line = line.0; array = a.0.0; slots = a.0.1 }, next)

-- a block that is put into another
unfoldable pub put_blocks : (version : ℕ) → List ℕ → (at : ℕ) → Result (Putting × ℕ) TableFault
put_blocks version bytes at = do
  how ← put_mode version bytes at
  line ← line_alone bytes how.1
  a ← block bytes line.1
  b ← block bytes a.1
  next ← no_operand bytes b.1
  Ok (record { line = line.0; block = a.0; how = how.0; from = b.0 }, next)

-- the two values of a test, and no third operand
unfoldable pub compared : Test → List ℕ → (at : ℕ) → Result (Cond × ℕ) TableFault
compared test bytes at = do
  a ← value_operand bytes at
  b ← value_operand bytes a.1
  next ← no_operand bytes b.1
  Ok (record { left = a.0; test = test; right = b.0 }, next)
