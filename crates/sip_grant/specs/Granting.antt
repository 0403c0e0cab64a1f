-- What a program's file and an input's text say of each other.
use Rattle.std.specs.Prelude.{◌≡◌, ℕ, List, Some}
use Rattle.index_spaces.specs.Refusing.{refusal}
use Rattle.index_spaces.specs.declared.fault.SpaceFault.{SpaceFault}
use Rattle.input_text.specs.Texts as input
use Rattle.input_text.specs.declared.fault.InputFault.{InputFault}
use Rattle.sial_syntax.specs.Sides.{scalar_classes}
use Rattle.sial_syntax.specs.Tree.{Tree, tree}
use Rattle.sip_grant.specs.Programs.{IsProgram}
use Rattle.sip_grant.specs.Sources.{IsSourceOf}
use Rattle.sip_input.specs.declared.input.Input.{Input}
use Rattle.sip_setting.specs.Grants.{AreGranted}
use Rattle.sip_setting.specs.Seen.{IsGrantedBy}
use Rattle.sip_setting.specs.declared.granted.Granted.{Granted}

-- two files are those of a program and of an input that the rules grant
pub record AreFilesOf (program_file input_text : List ℕ) (p : Tree) (i : Input) : Type 0 where
  pub program_is : IsSourceOf program_file p
  pub input_is : input.IsInputOf input_text i
  pub granted : AreGranted p i

-- what the code keeps was granted for these files
pub record IsGrantedFor (program_file input_text : List ℕ) (job : Granted) : Type 0 where
  pub given : Input
  pub program_is : IsSourceOf program_file (tree job.program)
  pub input_is : input.IsInputOf input_text given
  pub granted : IsGrantedBy given job

-- the first file is that of a program that keeps the rules, and the second one has this fault, its first
pub record HasBadInput (program_file input_text : List ℕ) (fault : InputFault) : Type 0 where
  pub program : Tree
  pub program_is : IsProgram program_file program
  pub fault_is : input.IsFaultOf input_text fault

-- the files are those of a program that keeps the rules and of an input that doesn't fit it, for this reason, the first of four rounds
pub record Misfits (program_file input_text : List ℕ) (fault : SpaceFault) : Type 0 where
  pub program : Tree
  pub given : Input
  pub program_is : IsProgram program_file program
  pub input_is : input.IsInputOf input_text given
  pub first : refusal program (scalar_classes program) given ≡ Some fault
