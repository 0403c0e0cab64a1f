-- Start values as the code keeps them.
use Rattle.std.specs.Prelude.{List, map}
use Rattle.index_spaces.specs.declared.start.Start.{Start}
use Rattle.index_spaces.specs.declared.start.StartBlock.{StartBlock}
use Rattle.index_spaces.specs.Given.{Given}

-- the block that is kept
abbrev pub given_of : StartBlock → Given
given_of b = record { array = b.array; number = b.number; words = b.words.items }

-- the blocks of start values
abbrev pub blocks_in : Start → List Given
blocks_in start = map given_of start.blocks.items
