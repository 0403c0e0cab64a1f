-- What numbers of steps depend on: the spaces of a setting and its arrays.
use Rattle.std.specs.Prelude.{List, []}
use Rattle.sial_syntax.specs.declared.array.ArrayDecl.{ArrayDecl}
use Rattle.sial_syntax.specs.Spaces.{Spaces}
use Rattle.sial_syntax.specs.Tree.{End}
use Rattle.sial_meaning.specs.Setting.{Setting}

-- a setting of these spaces and arrays, with nothing else
abbrev pub over : Spaces → List ArrayDecl → Setting
over spaces arrays = record {
  program = record { name = []; indices = []; arrays = arrays; scalars = []; procedures = []; body = End };
  scalars = [];
  sides = [];
  spaces = spaces;
  numbers = [];
  blocks = [];
}
