-- The arrays of blocks.
use Rattle.std.specs.Prelude.{ℕ, List, map, flat_map}
use Rattle.sial_syntax.specs.declared.operand.BlockRef.{BlockRef}
use Rattle.sial_syntax.specs.declared.operand.Right.{Right}
use Rattle.sial_syntax.specs.Parts.{operand_block, operands}

-- the arrays of some blocks
abbrev pub block_arrays : List BlockRef → List ℕ
block_arrays blocks = map (λ (b : BlockRef). b.array) blocks

-- the blocks of a right side
abbrev pub arrays_of : Right → List BlockRef
arrays_of right = flat_map operand_block (operands right)
