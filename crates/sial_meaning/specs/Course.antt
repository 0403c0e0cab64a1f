-- The course of the epoch meaning: a sequence of states, one item of the rest of the work a step, a whole pardo one step.
use Rattle.std.specs.Prelude.{ℕ, zero, suc, List, [], ◌∷◌, ◌++◌}
use Rattle.sial_syntax.specs.declared.condition.Cond.{Cond}
use Rattle.sial_syntax.specs.Boxes.{tuples}
use Rattle.sial_syntax.specs.Spaces.{box_of}
use Rattle.sial_syntax.specs.Tree.{Block, Pardo}
use Rattle.sial_meaning.specs.declared.trap.Trap.{Trap}
use Rattle.sial_meaning.specs.Meaning.{block_meaning, calls, call_depth, iteration, on_own, taken_up, left}
use Rattle.sial_meaning.specs.Own.{Own, unset}
use Rattle.sial_meaning.specs.Rest.{Rest, Next}
use Rattle.sial_meaning.specs.Step.{Work, Stepped, Moved, Halted, Ended, start_work, step}
use Rattle.sial_meaning.specs.Setting.{Setting}
use Rattle.sial_meaning.specs.State.{State, with_own}
use Rattle.sial_meaning.specs.Statement.{Outcome, Went, Stopped, Copied}

-- a point of the course: the work that is left, and the traps that ended iterations so far
pub record Point : Type 0 where
  pub work : Work
  pub traps : List Trap

-- the shared blocks, partial scalars and log that an iteration leaves, with the traps so far
pub record Left : Type 0 where
  pub state : State
  pub traps : List Trap

-- an iteration's outcome: a trap ends its accesses, and no other iteration's
abbrev pub noted : List Trap → Outcome → Left
noted traps (Went s) = record { state = s; traps = traps }
noted traps (Stopped trap s) = record { state = s; traps = traps ++ trap ∷ [] }

-- the iterations of a pardo in order, each from what the worker held as the pardo was entered
abbrev pub iterations : Setting → (entry : Own) → (indices : List ℕ) → (wheres : List Cond) → Block → List (List ℕ) → Left → Left
iterations g entry indices wheres body [] l = l
iterations g entry indices wheres body (t ∷ ts) l =
    iterations
    g
    entry
    indices
    wheres
    body
    ts
    (noted l.traps (iteration wheres (block_meaning Copied g (calls Copied g call_depth) body) (with_own l.state (taken_up g indices t entry))))

-- a whole pardo: its iterations, and then the worker's part is as it was entered, its indices not bound
abbrev pub whole_pardo : Setting → (indices : List ℕ) → (wheres : List Cond) → Block → (rest : Rest) → State → List Trap → Point
whole_pardo g indices wheres body rest s traps =
    let l = iterations g (unset g s.own) indices wheres body (tuples (box_of g.spaces indices)) (record { state = on_own (unset g) s; traps = traps }) in
    record { work = record { rest = rest; state = with_own l.state (left g indices (unset g s.own)) }; traps = l.traps }

-- where the course stands after a step that isn't a pardo's; a trap outside of pardos stops it
abbrev pub stepped : Point → Stepped → Point
stepped p (Moved w) = record { work = w; traps = p.traps }
stepped p (Halted trap s) = p
stepped p Ended = p

-- the next point of the course, by the rest of the work
abbrev pub next_from : Setting → Point → Rest → Point
next_from g p (Next at line (Pardo indices wheres body) rest) = whole_pardo g indices wheres body rest p.work.state p.traps
next_from g p rest = stepped p (step Copied g p.work)

-- the next point of the course
abbrev pub next_point : Setting → Point → Point
next_point g p = next_from g p p.work.rest

-- the course of a program: its point after so many steps
abbrev pub course : Setting → ℕ → Point
course g zero = record { work = start_work g; traps = [] }
course g (suc t) = next_point g (course g t)
