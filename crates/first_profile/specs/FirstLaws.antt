-- Laws of the first profile.
use Rattle.sial_meaning.specs.Meaning.{sequential}
use Rattle.sial_meaning.specs.Setting.{Setting}
use Rattle.sial_meaning.specs.Statement.{Outcome, Went, Stopped}
use Rattle.sial_syntax.specs.Tree.{tree}
use Rattle.sip_input.specs.declared.input.Input.{Input}
use Rattle.sip_setting.specs.Seen.{IsGrantedBy, setting_of}
use Rattle.sip_setting.specs.declared.granted.Granted.{Granted}
use Rattle.first_profile.specs.FirstTree.{IsFirstTree}
use Rattle.first_profile.specs.Ready.{IsReady}

-- the outcome is no trap
abbrev pub IsThrough : Outcome → Type 0
IsThrough (Went s) = Unit {0}
IsThrough (Stopped trap s) = ⊥

-- a program of the first profile in a setting that is ready has no trap: its sequential meaning comes to the end, so its printed
-- lines are those of a whole run
abbrev pub FirstHasNoTrap : Type 0
FirstHasNoTrap = (g : Setting) → IsFirstTree g.program → IsReady g → IsThrough (sequential g)

-- what the rules grant is ready for a run
abbrev pub GrantedIsReady : Type 0
GrantedIsReady = (input : Input) (job : Granted) → IsGrantedBy input job → IsReady (setting_of job)

-- what the rules grant comes to its end, where its tree is of the first profile
abbrev pub GrantedTreesRun : Type 0
GrantedTreesRun =
    (input : Input) (job : Granted) → IsGrantedBy input job → IsFirstTree (tree job.program) → IsThrough (sequential (setting_of job))
