-- What a granted program stands for.
use Rattle.std.specs.Prelude.{◌≡◌, List, map}
use Rattle.index_spaces.specs.Given.{placed_by}
use Rattle.index_spaces.specs.Starting.{blocks_in}
use Rattle.sial_meaning.specs.Setting.{Setting}
use Rattle.sial_syntax.specs.Proper.{IsProper}
use Rattle.sial_syntax.specs.Resolved.{AreSpacesBy}
use Rattle.sial_syntax.specs.Tree.{tree}
use Rattle.sip_input.specs.Given.{IsInput, constants_of}
use Rattle.sip_input.specs.declared.input.Input.{Input}
use Rattle.sip_setting.specs.Given.{given, setting_by}
use Rattle.sip_setting.specs.Grants.{AreGranted}
use Rattle.sip_setting.specs.declared.granted.Granted.{Granted}

-- the setting that the code keeps
abbrev pub setting_of : Granted → Setting
setting_of job = record {
  program = tree job.program;
  scalars = job.classes.scalars.items;
  sides = job.classes.locals.items;
  spaces = job.spaces.spaces;
  numbers = job.start.scalars.items;
  blocks = map given (blocks_in job.start);
}

-- the rules granted the program with this input, and what the code keeps is what they give
pub record IsGrantedBy (input : Input) (job : Granted) : Type 0 where
  pub proper : IsProper (tree job.program)
  pub input_is : IsInput input
  pub granted : AreGranted (tree job.program) input
  pub placed : job.spaces ≡ placed_by (tree job.program) input
  pub spaces : AreSpacesBy (constants_of input) (tree job.program) job.spaces.spaces
  pub setting : setting_of job ≡ setting_by (tree job.program) input
