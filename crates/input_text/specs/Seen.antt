-- What the code keeps of the lines so far.
use Rattle.std.specs.Prelude.{◌≡◌, ℕ, List, map}
use Rattle.std.specs.Global.{Vec}
use Rattle.sip_input.specs.declared.start_line.ScalarLine.{ScalarLine}
use Rattle.input_text.specs.Adding.{Given, Start, lengths_of, start_of}
use Rattle.input_text.specs.declared.block_lines.BlockLines.{BlockLines}
use Rattle.input_text.specs.declared.block_lines.BlockName.{BlockName}
use Rattle.input_text.specs.declared.building.Building.{Building}
use Rattle.input_text.specs.declared.scalar_lines.ScalarLines.{ScalarLines}

-- the bytes of a kept name
abbrev pub bytes_of : Vec ℕ → List ℕ
bytes_of v = v.items

-- the name of a scalar
abbrev pub scalar_name : ScalarLine → List ℕ
scalar_name line = line.name

-- the names that are kept beside scalars are theirs
abbrev pub AreNamed : ScalarLines → Type 0
AreNamed s = map bytes_of s.names.keys ≡ map scalar_name s.lines.items

-- a block's name and segments
abbrev pub key_of : BlockName → List ℕ × List ℕ
key_of b = (b.name.items, b.segments.items)

abbrev pub block_key : Start → List ℕ × List ℕ
block_key b = (b.name, b.segments)

-- the blocks
abbrev pub starts : BlockLines → List Start
starts b = map start_of b.lines.items

-- the names that are kept beside blocks are theirs
abbrev pub AreKeyed : BlockLines → Type 0
AreKeyed b = map key_of b.names.keys ≡ map block_key (starts b)

-- what the lines so far give
abbrev pub seen : Building → Given
seen b = record {
  constants = b.constants.items;
  segments = map lengths_of b.segments.items;
  pieces = b.pieces.items;
  scalars = b.scalars.lines.items;
  blocks = starts b.blocks;
}

-- the kept names are those of scalars and blocks
pub record IsTied (b : Building) : Type 0 where
  pub scalars : AreNamed b.scalars
  pub blocks : AreKeyed b.blocks
