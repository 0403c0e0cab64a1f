-- What a statement names: its blocks, slots, conditions, scalars and arrays.
use Rattle.std.specs.Prelude.{ℕ, List, [], ◌∷◌, ◌++◌, map, flat_map}
use Rattle.sial_syntax.specs.declared.condition.Cond.{Cond}
use Rattle.sial_syntax.specs.declared.condition.Value.{Value}
use Rattle.sial_syntax.specs.declared.condition.Value.TheVariants as value
use Rattle.sial_syntax.specs.declared.operand.BlockRef.{BlockRef}
use Rattle.sial_syntax.specs.declared.operand.Operand.{Operand}
use Rattle.sial_syntax.specs.declared.operand.Operand.TheVariants.{Number, Scalar, Block}
use Rattle.sial_syntax.specs.declared.operand.Right.{Right}
use Rattle.sial_syntax.specs.declared.operand.Right.TheVariants.{One, Two}
use Rattle.sial_syntax.specs.declared.operand.Slot.{Slot}
use Rattle.sial_syntax.specs.declared.operand.Slot.TheVariants.{At, All}
use Rattle.sial_syntax.specs.declared.operand.Target.{Target}
use Rattle.sial_syntax.specs.declared.operand.Target.TheVariants as target
use Rattle.sial_syntax.specs.Tree.{Plain, Do, DoIn, Pardo, If, IfElse, Assign, Get, Request, Put, Prepare, Create, Delete, Allocate, Deallocate, Collective, PrintScalar, Integrals}

-- the operands of a right side, as written
abbrev pub operands : Right → List Operand
operands (One a) = a ∷ []
operands (Two a bin b) = a ∷ b ∷ []

-- the block that an operand is
abbrev pub operand_block : Operand → List BlockRef
operand_block (Number n) = []
operand_block (Scalar s) = []
operand_block (Block b) = b ∷ []

-- the scalar that an operand is
abbrev pub operand_scalar : Operand → List ℕ
operand_scalar (Number n) = []
operand_scalar (Scalar s) = s ∷ []
operand_scalar (Block b) = []

-- the number that an operand is
abbrev pub operand_number : Operand → List ℕ
operand_number (Number n) = n ∷ []
operand_number (Scalar s) = []
operand_number (Block b) = []

-- the block that a target is
abbrev pub target_block : Target → List BlockRef
target_block (target.Scalar s) = []
target_block (target.Block b) = b ∷ []

-- the scalar that a target is
abbrev pub target_scalar : Target → List ℕ
target_scalar (target.Scalar s) = s ∷ []
target_scalar (target.Block b) = []

-- the blocks that a statement names, as written; those of its body aren't its own
abbrev pub blocks_named : Plain → List BlockRef
blocks_named (Assign target op right) = target_block target ++ flat_map operand_block (operands right)
blocks_named (Get block) = block ∷ []
blocks_named (Request block) = block ∷ []
blocks_named (Put block how from) = block ∷ from ∷ []
blocks_named (Prepare block how from) = block ∷ from ∷ []
blocks_named (Integrals block) = block ∷ []
blocks_named _ = []

-- the slots of a statement
abbrev pub slots_named : Plain → List Slot
slots_named (Allocate array at) = at
slots_named (Deallocate array at) = at
slots_named _ = []

-- the array whose slots a statement names
abbrev pub slotted_array : Plain → List ℕ
slotted_array (Allocate array at) = array ∷ []
slotted_array (Deallocate array at) = array ∷ []
slotted_array _ = []

-- the index that a slot is
abbrev pub slot_index : Slot → List ℕ
slot_index (At index) = index ∷ []
slot_index All = []

-- the conditions of a statement
abbrev pub conditions : Plain → List Cond
conditions (If test body) = test ∷ []
conditions (IfElse test body other) = test ∷ []
conditions (Pardo indices wheres body) = wheres
conditions _ = []

-- the index that a value is
abbrev pub value_index : Value → List ℕ
value_index (value.Number n) = []
value_index (value.Scalar s) = []
value_index (value.Index i) = i ∷ []

-- the number that a value is
abbrev pub value_number : Value → List ℕ
value_number (value.Number n) = n ∷ []
value_number (value.Scalar s) = []
value_number (value.Index i) = []

-- the scalar that a value is
abbrev pub value_scalar : Value → List ℕ
value_scalar (value.Number n) = []
value_scalar (value.Scalar s) = s ∷ []
value_scalar (value.Index i) = []

-- the indices of a condition
abbrev pub condition_indices : Cond → List ℕ
condition_indices test = value_index test.left ++ value_index test.right

-- the numbers of a condition
abbrev pub condition_numbers : Cond → List ℕ
condition_numbers test = value_number test.left ++ value_number test.right

-- the scalars of a condition
abbrev pub condition_scalars : Cond → List ℕ
condition_scalars test = value_scalar test.left ++ value_scalar test.right

-- the numbers that a statement writes out; those of its body aren't its own
abbrev pub numbers_named : Plain → List ℕ
numbers_named (Assign target op right) = flat_map operand_number (operands right)
numbers_named form = flat_map condition_numbers (conditions form)

-- the indices that a statement uses and that must be bound where it stands, those that it binds itself in its conditions among them
abbrev pub indices_used : Plain → List ℕ
indices_used (DoIn sub index body) = index ∷ []
indices_used form =
    flat_map (λ (b : BlockRef). b.at) (blocks_named form) ++ (flat_map slot_index (slots_named form) ++ flat_map condition_indices (conditions form))

-- the indices that a statement binds in its body
abbrev pub indices_bound : Plain → List ℕ
indices_bound (Do index body) = index ∷ []
indices_bound (DoIn sub index body) = sub ∷ []
indices_bound (Pardo indices wheres body) = indices
indices_bound _ = []

-- the scalars that a statement reads; `+=` and the like don't read their own target
abbrev pub scalars_read : Plain → List ℕ
scalars_read (Assign target op right) = flat_map operand_scalar (operands right)
scalars_read (Collective into from) = from ∷ []
scalars_read (PrintScalar scalar) = scalar ∷ []
scalars_read form = flat_map condition_scalars (conditions form)

-- the scalars that a statement writes
abbrev pub scalars_written : Plain → List ℕ
scalars_written (Assign target op right) = target_scalar target
scalars_written (Collective into from) = into ∷ []
scalars_written _ = []

-- the arrays that a statement names
abbrev pub arrays_named : Plain → List ℕ
arrays_named (Create array) = array ∷ []
arrays_named (Delete array) = array ∷ []
arrays_named form = map (λ (b : BlockRef). b.array) (blocks_named form) ++ slotted_array form
