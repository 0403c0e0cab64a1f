-- What an instruction has before its operands, behind its operation: a mode, two bytes that nothing uses, a line and a jump.
use Rattle.std.specs.Prelude.{ℕ, ◌/◌, ◌%◌, List, ◌==◌, if◌then◌else◌, Option, Some, None, Result, Ok}
use Rattle.sial_syntax.specs.declared.access.Access.{Access}
use Rattle.sial_syntax.specs.declared.access.Access.TheVariants.{Add, Max, Store}
use Rattle.sial_syntax.specs.declared.condition.Test.{Test}
use Rattle.sial_syntax.specs.declared.condition.Test.TheVariants.{Less, LessEqual, Greater, GreaterEqual, Equal, NotEqual}
use Rattle.sial_syntax.specs.declared.operand.Bin.{Bin}
use Rattle.sial_syntax.specs.declared.operand.Bin.TheVariants.{Plus, Minus, Times, Outer}
use Rattle.sial_syntax.specs.declared.operand.Op.{Op}
use Rattle.sial_syntax.specs.declared.operand.Op.TheVariants as op
use Rattle.table_file.specs.declared.fault.TableFault.{TableFault}
use Rattle.table_file.specs.Fields.{◌>>=◌, or_field, byte, number, unused}

-- a comparison
abbrev pub test_of : ℕ → Option Test
test_of n =
    if n == 1 then Some Less
    else if n == 2 then Some LessEqual
    else if n == 3 then Some Greater
    else if n == 4 then Some GreaterEqual
    else if n == 5 then Some Equal
    else if n == 6 then Some NotEqual
    else None

-- how an assignment combines
abbrev pub op_of : ℕ → Option Op
op_of n =
    if n == 1 then Some op.Set
    else if n == 2 then Some op.Add
    else if n == 3 then Some op.Subtract
    else if n == 4 then Some op.Scale
    else None

-- what stands between two operands; with 0 there is only one
abbrev pub bin_of : ℕ → Option (Option Bin)
bin_of n =
    if n == 0 then Some None
    else if n == 1 then Some (Some Plus)
    else if n == 2 then Some (Some Minus)
    else if n == 3 then Some (Some Times)
    else if n == 4 then Some (Some Outer)
    else None

-- how a block is put; a file of version 1 has no way that keeps the greater one
abbrev pub how_of : (version : ℕ) → ℕ → Option Access
how_of version n =
    if n == 1 then Some Store
    else if n == 2 then Some Add
    else if n == 3 then (if version == 2 then Some Max else None)
    else None

-- a line and a jump, behind two bytes that nothing uses
unfoldable pub line_and_jump : List ℕ → (at : ℕ) → Result ((ℕ × ℕ) × ℕ) TableFault
line_and_jump bytes at = do
  front ← unused 2 bytes at
  line ← number 4 bytes front
  jump ← number 4 bytes line.1
  Ok ((line.0, jump.0), jump.1)

-- a line, behind two bytes that nothing uses, with no jump
unfoldable pub line_alone : List ℕ → (at : ℕ) → Result (ℕ × ℕ) TableFault
line_alone bytes at = do
  front ← unused 2 bytes at
  line ← number 4 bytes front
  next ← unused 4 bytes line.1
  Ok (line.0, next)

-- no mode, a line, no jump
unfoldable pub plain_head : List ℕ → (at : ℕ) → Result (ℕ × ℕ) TableFault
plain_head bytes at = do
  front ← unused 1 bytes at
  line_alone bytes front

-- no mode, a line and a jump
unfoldable pub jump_head : List ℕ → (at : ℕ) → Result ((ℕ × ℕ) × ℕ) TableFault
jump_head bytes at = do
  front ← unused 1 bytes at
  line_and_jump bytes front

-- the mode of a test
unfoldable pub test_mode : List ℕ → (at : ℕ) → Result (Test × ℕ) TableFault
test_mode bytes at = do
  n ← byte bytes at
  test ← or_field (test_of n.0) at
  Ok (test, n.1)

-- the mode of an assignment: how it combines, and what stands between its operands
unfoldable pub assign_mode : List ℕ → (at : ℕ) → Result ((Op × Option Bin) × ℕ) TableFault
assign_mode bytes at = do
  n ← byte bytes at
  op ← or_field (op_of (n.0 / 16)) at
  bin ← or_field (bin_of (n.0 % 16)) at
  Ok ((op, bin), n.1)

-- the mode of a block that is put
unfoldable pub put_mode : (version : ℕ) → List ℕ → (at : ℕ) → Result (Access × ℕ) TableFault
put_mode version bytes at = do
  n ← byte bytes at
  how ← or_field (how_of version n.0) at
  Ok (how, n.1)
