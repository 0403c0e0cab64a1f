-- Operands of instructions, read field by field.
use Rattle.std.specs.Prelude.{ℕ, List, ◌++◌, ◌==◌, if◌then◌else◌, map, length, nat_eq, Result, Ok, Err}
use Rattle.sial_syntax.specs.declared.condition.Value.{Value}
use Rattle.sial_syntax.specs.declared.condition.Value.TheVariants as value
use Rattle.sial_syntax.specs.declared.operand.BlockRef.{BlockRef}
use Rattle.sial_syntax.specs.declared.operand.Operand.{Operand}
use Rattle.sial_syntax.specs.declared.operand.Operand.TheVariants as operand
use Rattle.sial_syntax.specs.declared.operand.Slot.{Slot}
use Rattle.sial_syntax.specs.declared.operand.Slot.TheVariants.{At, All}
use Rattle.sial_syntax.specs.declared.operand.Target.{Target}
use Rattle.sial_syntax.specs.declared.operand.Target.TheVariants as target
use Rattle.table_file.specs.declared.fault.TableFault.{TableFault}
use Rattle.table_file.specs.declared.fault.TableFault.TheVariants.{Field}
use Rattle.table_file.specs.Fields.{◌>>=◌, byte, number, exactly, unused, printed, rank, tuple}

-- no operand
abbrev pub no_operand : List ℕ → (at : ℕ) → Result ℕ TableFault
no_operand bytes at = unused 16 bytes at

-- the rest of a number
unfoldable pub number_rest : List ℕ → (at : ℕ) → Result (ℕ × ℕ) TableFault
number_rest bytes at = do
  front ← unused 3 bytes at
  n ← number 8 bytes front
  next ← unused 4 bytes n.1
  Ok (n.0, next)

-- the rest of a thing by its number
unfoldable pub thing_rest : List ℕ → (at : ℕ) → Result (ℕ × ℕ) TableFault
thing_rest bytes at = do
  front ← unused 1 bytes at
  n ← number 2 bytes front
  next ← unused 12 bytes n.1
  Ok (n.0, next)

-- the rest of a block
unfoldable pub block_rest : List ℕ → (at : ℕ) → Result (BlockRef × ℕ) TableFault
block_rest bytes at = do
  r ← rank bytes at
  array ← number 2 bytes r.1
  indices ← tuple r.0 bytes array.1
  Ok (record { array = array.0; at = indices.0 }, indices.1)

-- a thing by its number, under this tag
unfoldable pub thing : (tag : ℕ) → List ℕ → (at : ℕ) → Result (ℕ × ℕ) TableFault
thing tag bytes at = do
  front ← exactly tag bytes at
  thing_rest bytes front

-- a block
unfoldable pub block : List ℕ → (at : ℕ) → Result (BlockRef × ℕ) TableFault
block bytes at = do
  front ← exactly 3 bytes at
  block_rest bytes front

-- a place of a tuple as a slot
abbrev pub slot_of : ℕ → Slot
slot_of n = if n == 65534 then All else At n

-- an array with a slot for each dimension
unfoldable pub slots : List ℕ → (at : ℕ) → Result ((ℕ × List Slot) × ℕ) TableFault
slots bytes at = do
  b ← block bytes at
  Ok ((b.0.array, map slot_of b.0.at), b.1)

-- some indices
unfoldable pub index_list : List ℕ → (at : ℕ) → Result (List ℕ × ℕ) TableFault
index_list bytes at = do
  front ← exactly 7 bytes at
  r ← rank bytes front
  next ← unused 2 bytes r.1
  tuple r.0 bytes next

-- a printed text by its number
unfoldable pub text_operand : (texts : List (List ℕ)) → List ℕ → (at : ℕ) → Result (ℕ × ℕ) TableFault
text_operand texts bytes at = do
  front ← exactly 5 bytes at
  middle ← unused 3 bytes front
  n ← printed texts bytes middle
  next ← unused 8 bytes n.1
  Ok (n.0, next)

-- what an assignment writes
unfoldable pub target_operand : List ℕ → (at : ℕ) → Result (Target × ℕ) TableFault
target_operand bytes at = do
  tag ← byte bytes at
  if tag.0 == 2 then (do
    s ← thing_rest bytes tag.1
    Ok (target.Scalar s.0, s.1))
      else if tag.0 == 3 then (do
        b ← block_rest bytes tag.1
        Ok (target.Block b.0, b.1))
      else Err (Field at)

-- an operand of a right side
unfoldable pub right_operand : List ℕ → (at : ℕ) → Result (Operand × ℕ) TableFault
right_operand bytes at = do
  tag ← byte bytes at
  if tag.0 == 1 then (do
    n ← number_rest bytes tag.1
    Ok (operand.Number n.0, n.1))
      else if tag.0 == 2 then (do
        s ← thing_rest bytes tag.1
        Ok (operand.Scalar s.0, s.1))
      else if tag.0 == 3 then (do
        b ← block_rest bytes tag.1
        Ok (operand.Block b.0, b.1))
      else Err (Field at)

-- a value of a condition
unfoldable pub value_operand : List ℕ → (at : ℕ) → Result (Value × ℕ) TableFault
value_operand bytes at = do
  tag ← byte bytes at
  if tag.0 == 1 then (do
    n ← number_rest bytes tag.1
    Ok (value.Number n.0, n.1))
      else if tag.0 == 2 then (do
        s ← thing_rest bytes tag.1
        Ok (value.Scalar s.0, s.1))
      else if tag.0 == 4 then (do
        i ← thing_rest bytes tag.1
        Ok (value.Index i.0, i.1))
      else Err (Field at)

-- the other indices of a pardo whose first ones have this rank: only behind six there may be any
unfoldable pub other_operand : (first : List ℕ) → List ℕ → (at : ℕ) → Result (List ℕ × ℕ) TableFault
other_operand first bytes at = do
  tag ← byte bytes at
  if tag.0 == 0 then (do
    next ← unused 15 bytes tag.1
    Ok (first, next))
      else (do
        others ← index_list bytes at
        Ok (first ++ others.0, others.1))

-- the indices of a pardo: the first six, and then the others
unfoldable pub pardo_indices : List ℕ → (at : ℕ) → Result (List ℕ × ℕ) TableFault
pardo_indices bytes at = do
  first ← index_list bytes at
  if nat_eq (length first.0) 6 then other_operand first.0 bytes first.1
      else (do
        next ← no_operand bytes first.1
        Ok (first.0, next))
