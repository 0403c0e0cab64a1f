-- Laws of the meaning.
use Rattle.std.specs.Prelude.{◌≡◌, ℕ}
use Rattle.sial_syntax.specs.Numbering.{stop_at}
use Rattle.sial_syntax.specs.Proper.{IsProper}
use Rattle.sial_syntax.specs.SideRules.{IsGranted}
use Rattle.sial_meaning.specs.Meaning.{meaning}
use Rattle.sial_meaning.specs.Rest.{Over}
use Rattle.sial_meaning.specs.Step.{done, steps, start_work}
use Rattle.sial_meaning.specs.Setting.{Setting}
use Rattle.sial_meaning.specs.Statement.{Reading}

-- after so many steps a program's work stands at its end with the state of the fold, or has halted with the trap of the fold and its state
abbrev pub ReachesFold : Reading → Setting → Type 0
ReachesFold reading g = (count : ℕ) × (steps reading g count (start_work g) ≡ done (meaning reading g) (Over (stop_at g.program)))

-- the rest of the work, gone on with to the end step by step, is the fold
abbrev pub StepsReachTheFold : Type 0
StepsReachTheFold = (reading : Reading) (g : Setting) → IsProper g.program → IsGranted g.program → ReachesFold reading g
