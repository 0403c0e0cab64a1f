-- Settings that are ready for a run: their classes and spaces are the program's own, and their start values fit it.
use Rattle.std.specs.Prelude.{◌≡◌, ◌<◌, length, All}
use Rattle.sial_syntax.specs.Resolved.{AreSpacesOf}
use Rattle.sial_syntax.specs.Sides.{scalar_classes}
use Rattle.sial_meaning.specs.Setting.{Setting, Given, block_count, block_words}
use Rattle.first_profile.specs.FirstTree.{IsFirstTree}

-- a given block is one of an array's, and has as many elements as that block
pub record IsStart (g : Setting) (b : Given) : Type 0 where
  pub array : b.array < length g.program.arrays
  pub number : b.number < block_count g b.array
  pub words : length b.words ≡ block_words g b.array b.number

-- a setting with its program's classes, spaces that the program has with some input, and start values that fit; a block may be given
-- more than once
pub record IsReady (g : Setting) : Type 0 where
  pub classes : g.scalars ≡ scalar_classes g.program
  pub spaces : AreSpacesOf g.program g.spaces
  pub numbers : length g.numbers ≡ length g.program.scalars
  pub blocks : All (IsStart g) g.blocks

-- a setting whose program is of the first profile, ready for a run
pub record IsFirstSetting (g : Setting) : Type 0 where
  pub tree : IsFirstTree g.program
  pub ready : IsReady g
