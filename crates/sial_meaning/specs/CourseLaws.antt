-- Laws of the course: pardos keep the control, and the course follows the fold up to the first trap that is noted.
use Rattle.std.specs.Prelude.{◌≡◌, ℕ, suc, ◌≤◌, List, [], ◌∷◌, ◌++◌, ◌⊎◌}
use Rattle.sial_syntax.specs.declared.condition.Cond.{Cond}
use Rattle.sial_syntax.specs.Numbering.{stop_at}
use Rattle.sial_syntax.specs.Tree.{Block, Pardo}
use Rattle.sial_meaning.specs.declared.trap.Trap.{Trap}
use Rattle.sial_meaning.specs.Access.{Touch}
use Rattle.sial_meaning.specs.Course.{course}
use Rattle.sial_meaning.specs.Meaning.{block_meaning, calls, iteration, taken_up, by_epochs}
use Rattle.sial_meaning.specs.Own.{unset}
use Rattle.sial_meaning.specs.Rest.{Rest, Over, Next}
use Rattle.sial_meaning.specs.Step.{Work, Moved, Halted, start_work, step, steps}
use Rattle.sial_meaning.specs.Setting.{Setting}
use Rattle.sial_meaning.specs.Sound.{IsGrantedSetting}
use Rattle.sial_meaning.specs.State.{State}
use Rattle.sial_meaning.specs.Statement.{Outcome, Went, Stopped, Reading, Copied}

-- copies, epochs and printed lines are kept
pub record KeepsEpochs (s t : State) : Type 0 where
  pub copies : t.copies ≡ s.copies
  pub epochs : t.epochs ≡ s.epochs
  pub lines : t.lines ≡ s.lines

-- the control is kept: those, and what the worker holds but for what a pardo unsets
pub record KeepsControl (g : Setting) (s t : State) : Type 0 where
  pub own : unset g t.own ≡ unset g s.own
  pub shown : KeepsEpochs s t

-- an outcome keeps the control; one with a trap keeps copies, epochs and printed lines
abbrev pub IsKept : Setting → State → Outcome → Type 0
IsKept g s (Went t) = KeepsControl g s t
IsKept g s (Stopped trap t) = KeepsEpochs s t

-- the rest of the work begins with this pardo
abbrev pub BeginsWithPardo : Rest → (indices : List ℕ) → (wheres : List Cond) → Block → Type 0
BeginsWithPardo r indices wheres body = (at line : ℕ) × (rest : Rest) × (r ≡ Next at line (Pardo indices wheres body) rest)

-- an iteration of a pardo that the course comes to keeps the control, whatever the shared blocks, the partial scalars and the log are
abbrev pub IterationsKeepControl : Type 0
IterationsKeepControl =
    (reading : Reading) (g : Setting) → IsGrantedSetting g
    → (t : ℕ) (indices : List ℕ) (wheres : List Cond) (body : Block) → BeginsWithPardo (course g t).work.rest indices wheres body
    → (depth : ℕ) (tuple : List ℕ) (s : State) → s.own ≡ taken_up g indices tuple (course g t).work.state.own
    → IsKept g s (iteration wheres (block_meaning reading g (calls reading g depth) body) s)

-- a whole pardo of the course keeps the control, whatever traps are noted in it
abbrev pub PardosKeepControl : Type 0
PardosKeepControl =
    (g : Setting) → IsGrantedSetting g
    → (t : ℕ) (indices : List ℕ) (wheres : List Cond) (body : Block) → BeginsWithPardo (course g t).work.rest indices wheres body
    → KeepsControl g (course g t).work.state (course g (suc t)).work.state

-- as long as the course has noted no trap, steps of the rest of the work reach its points
abbrev pub StepsReachTheCourse : Type 0
StepsReachTheCourse =
    (g : Setting) → IsGrantedSetting g → (t : ℕ) → (course g t).traps ≡ [] → (count : ℕ) × (steps Copied g count (start_work g) ≡ Moved (course g t).work)

-- from some number of steps on the course is at this work, with no trap noted
abbrev pub ComesToStay : Setting → Work → Type 0
ComesToStay g w = (t : ℕ) × ((u : ℕ) → t ≤ u → course g u ≡ record { work = w; traps = [] })

-- the course comes to the program's end in this state
abbrev pub EndsIn : Setting → State → Type 0
EndsIn g s = ComesToStay g (record { rest = Over (stop_at g.program); state = s })

-- the course comes to work whose step halts with this trap and state
abbrev pub HaltsWith : Setting → Trap → State → Type 0
HaltsWith g trap s = (w : Work) × (step Copied g w ≡ Halted trap s) × ComesToStay g w

-- in this step the course notes its first traps: this one before others, and the log begins with that of the state that met it
pub record NotesFirst (g : Setting) (t : ℕ) (trap : Trap) (s : State) : Type 0 where
  pub none : (course g t).traps ≡ []
  pub first : (more : List Trap) × ((course g (suc t)).traps ≡ trap ∷ more)
  pub log : (more : List Touch) × ((course g (suc t)).work.state.log ≡ s.log ++ more)

-- the course comes where an outcome is: to the end in its state, or to its trap, outside of pardos or as the first that is noted
abbrev pub Follows : Setting → Outcome → Type 0
Follows g (Went s) = EndsIn g s
Follows g (Stopped trap s) = HaltsWith g trap s ⊎ ((t : ℕ) × NotesFirst g t trap s)

-- the course follows the fold over the tree
abbrev pub CourseFollowsTheFold : Type 0
CourseFollowsTheFold = (g : Setting) → IsGrantedSetting g → Follows g (by_epochs g)

-- the first trap that the course notes is that of the fold
abbrev pub FirstTrapIsTheFolds : Type 0
FirstTrapIsTheFolds =
    (g : Setting) → IsGrantedSetting g
    → (t : ℕ) (trap : Trap) (more : List Trap) → (course g t).traps ≡ [] → (course g (suc t)).traps ≡ trap ∷ more
    → (s : State) × (by_epochs g ≡ Stopped trap s) × NotesFirst g t trap s

-- from point to point of the course the log goes on, and traps that were noted stay
abbrev pub CourseGoesOn : Type 0
CourseGoesOn =
    (g : Setting) → IsGrantedSetting g → (t : ℕ)
    → ((more : List Touch) × ((course g (suc t)).work.state.log ≡ (course g t).work.state.log ++ more))
    × ((more : List Trap) × ((course g (suc t)).traps ≡ (course g t).traps ++ more))
