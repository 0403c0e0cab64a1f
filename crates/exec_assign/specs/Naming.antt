-- The blocks that a right side names, and what their indices lie on.
use Rattle.std.specs.Prelude.{◌≡◌, ℕ, List, map, take, length}
use Rattle.sial_syntax.specs.declared.operand.BlockRef.{BlockRef}
use Rattle.sial_syntax.specs.declared.operand.Operand.{Operand}
use Rattle.sial_syntax.specs.declared.operand.Operand.TheVariants.{Number, Scalar, Block}
use Rattle.sial_syntax.specs.declared.operand.Right.{Right}
use Rattle.sial_syntax.specs.declared.operand.Right.TheVariants.{One, Two}
use Rattle.sial_syntax.specs.Spaces.{Spaces, extent}
use Rattle.sial_meaning.specs.Setting.{Setting}
use Rattle.exec_names.specs.declared.extent.Extent.{Extent}
use Rattle.exec_names.specs.Naming.{extent_of}
use Rattle.exec_blocks.specs.Standing.{IsNamed}
use Rattle.exec_assign.specs.declared.extents.Extents.{Extents}

-- an operand that is a block is one of its array's
abbrev pub OperandNamed : Setting → (values : List ℕ) → Operand → Type 0
OperandNamed g values (Number n) = Unit {0}
OperandNamed g values (Scalar s) = Unit {0}
OperandNamed g values (Block b) = IsNamed g values b

-- so is each of a right side's
abbrev pub AreNamed : Setting → (values : List ℕ) → Right → Type 0
AreNamed g values (One a) = OperandNamed g values a
AreNamed g values (Two a bin b) = OperandNamed g values a × OperandNamed g values b

-- the first of these extents, one for each index of a block, are what the indices lie on
abbrev pub BlockLies : Spaces → (values : List ℕ) → List Extent → BlockRef → Type 0
BlockLies spaces values extents block = map extent_of (take (length block.at) extents) ≡ map (extent spaces values) block.at

-- so it is with an operand that is a block
abbrev pub OperandLies : Spaces → (values : List ℕ) → List Extent → Operand → Type 0
OperandLies spaces values extents (Number n) = Unit {0}
OperandLies spaces values extents (Scalar s) = Unit {0}
OperandLies spaces values extents (Block b) = BlockLies spaces values extents b

-- and with each of a right side's
abbrev pub SideLies : Spaces → (values : List ℕ) → Extents → Right → Type 0
SideLies spaces values extents (One a) = OperandLies spaces values extents.first a
SideLies spaces values extents (Two a bin b) = OperandLies spaces values extents.first a × OperandLies spaces values extents.second b
