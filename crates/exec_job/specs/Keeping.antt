-- What a job keeps: a sound setting, its arrays in order, and the tables of its program.
use Rattle.std.specs.Prelude.{◌≡◌, map}
use Rattle.index_spaces.specs.Placed.{bare}
use Rattle.sial_meaning.specs.Sound.{IsSound}
use Rattle.sial_syntax.specs.Tree.{tree}
use Rattle.sip_setting.specs.Seen.{setting_of}
use Rattle.sip_setting.specs.declared.granted.Granted.{Granted}
use Rattle.sip_tables.specs.Flatten.{flatten}
use Rattle.sip_tables.specs.Lists.{Lists}

-- what was granted is sound, and its spaces have the program's arrays
pub record IsRunnable (granted : Granted) : Type 0 where
  pub sound : IsSound (setting_of granted)
  pub arrays : granted.spaces.arrays ≡ map bare (tree granted.program).arrays

-- so it is, and these are the tables of its program
pub record KeepsTables (granted : Granted) (tables : Lists) : Type 0 where
  pub runnable : IsRunnable granted
  pub tables_are : tables ≡ flatten (tree granted.program)
