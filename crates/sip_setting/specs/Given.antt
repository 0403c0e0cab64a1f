-- The setting that an input gives a program.
use Rattle.std.specs.Prelude.{List, map}
use Rattle.index_spaces.specs.Given as spaces
use Rattle.index_spaces.specs.Given.{spaces_by, numbers_given, blocks_given}
use Rattle.sial_meaning.specs.Setting.{Given, Setting}
use Rattle.sial_syntax.specs.Sides.{scalar_classes, array_sides}
use Rattle.sial_syntax.specs.Tree.{Tree}
use Rattle.sip_input.specs.declared.input.Input.{Input}

-- a block with its elements, as a meaning takes it
abbrev pub given : spaces.Given → Given
given b = record { array = b.array; number = b.number; words = b.words }

-- the blocks that an input gives a program, in the order of its lines
abbrev pub blocks_by : Tree → Input → List Given
blocks_by p input = map given (blocks_given p (spaces_by p input) input)

-- a program beside an input: its classes, and the spaces and start values that the input gives it
abbrev pub setting_by : Tree → Input → Setting
setting_by p input = record {
  program = p;
  scalars = scalar_classes p;
  sides = array_sides p;
  spaces = spaces_by p input;
  numbers = numbers_given p input;
  blocks = blocks_by p input;
}
