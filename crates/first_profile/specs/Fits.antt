-- Numbers that fit their program, and blocks that are there.
use Rattle.std.specs.Prelude.{◌≡◌, ℕ, ◌+◌, ◌<◌, ◌≤◌, [], length, Option, Some, None, slice_index_or}
use Rattle.sial_syntax.specs.Spaces.{first_of, count_of}
use Rattle.sial_syntax.specs.declared.operand.BlockRef.{BlockRef}
use Rattle.sial_meaning.specs.Setting.{Setting, Given}
use Rattle.first_profile.specs.FirstTree.{dims_in}
use Rattle.first_profile.specs.Running.{Numbers, only_index, number_in, segment_len}

-- the index that an array is declared over
abbrev pub index_of : Setting → (array : ℕ) → ℕ
index_of g array = only_index (dims_in g.program array)

-- the numbers of a program: one for each index and scalar, and a block for each segment of each array's index
pub record Fits (g : Setting) (m : Numbers) : Type 0 where
  pub values : length m.values ≡ length g.program.indices
  pub scalars : length m.scalars ≡ length g.program.scalars
  pub arrays : length m.statics ≡ length g.program.arrays
  pub blocks : (array : ℕ) → array < length g.program.arrays
      → length (slice_index_or m.statics array []) ≡ count_of g.spaces (index_of g array)
  pub words : (array number : ℕ) → array < length g.program.arrays → number < count_of g.spaces (index_of g array)
      → length (slice_index_or (slice_index_or m.statics array []) number [])
      ≡ segment_len g (index_of g array) (first_of g.spaces (index_of g array) + number)

-- the index of the loop has the number of one of its segments
pub record IsAt (g : Setting) (m : Numbers) (index : ℕ) : Type 0 where
  pub from : first_of g.spaces index ≤ slice_index_or m.values index 0
  pub below : slice_index_or m.values index 0 < (first_of g.spaces index + count_of g.spaces index)

-- the index of the loop, where there is one, has such a number
abbrev pub IsWithin : Setting → Numbers → Option ℕ → Type 0
IsWithin g m None = Unit {0}
IsWithin g m (Some index) = IsAt g m index

-- a block that is there
pub record IsHeld (g : Setting) (m : Numbers) (block : BlockRef) : Type 0 where
  pub array : block.array < length m.statics
  pub number : number_in g m block < length (slice_index_or m.statics block.array [])
  pub some : 0 < length block.at
  pub index : only_index block.at < length m.values
  pub declared : only_index block.at < length g.program.indices
  pub from : first_of g.spaces (only_index block.at) ≤ slice_index_or m.values (only_index block.at) 0

-- numbers with a block that is given
abbrev pub HasBlock : Numbers → Given → Type 0
HasBlock m b = (b.array < length m.statics) × (b.number < length (slice_index_or m.statics b.array []))
