-- Each point of the course has numbers alone, behind noted traps too.
use Rattle.std.proofs.Common.{◌≡◌, ℕ, zero, suc, ◌+◌, ◌<◌, ◌≤◌, List, [], ◌∷◌, map, length, Bool, true, false, refl, sym, ◌∙◌, subst, arith, inl, inr}
use Rattle.std.proofs.lemmas.Bool.{lt-ltb, le-ltb}
use Rattle.sial_syntax.proofs.AmongLemmas.{Among}
use Rattle.sial_syntax.proofs.BoxLemmas.{tuples-are}
use Rattle.sial_syntax.specs.declared.condition.Cond.{Cond}
use Rattle.sial_syntax.specs.Boxes.{numbers_from, volume, tuples, tuple_at}
use Rattle.sial_syntax.specs.Numbering.{stop_at}
use Rattle.sial_syntax.specs.Spaces.{box_of, onto_firsts}
use Rattle.sial_syntax.specs.Tree.{Block, Pardo}
use Rattle.sial_meaning.specs.declared.trap.Trap.{Trap}
use Rattle.sial_meaning.specs.AlongLaws.{PointsHaveNumbers}
use Rattle.sial_meaning.specs.Control.{Led, Goes, begun, pardo_at}
use Rattle.sial_meaning.specs.Course.{Left, noted, iterations, stepped, next_from, course}
use Rattle.sial_meaning.specs.Meaning.{block_meaning, calls, call_depth, iteration, unless_left_out, all_met, taken_up, left}
use Rattle.sial_meaning.specs.NumberStates.{OwnHasNumbers, HasNumbers}
use Rattle.sial_meaning.specs.Own.{Own, unset}
use Rattle.sial_meaning.specs.Rest.{Rest, Over, Next, Within, push, depth}
use Rattle.sial_meaning.specs.Setting.{Setting}
use Rattle.sial_meaning.specs.Sound.{IsSound}
use Rattle.sial_meaning.specs.State.{State, with_own}
use Rattle.sial_meaning.specs.Statement.{Outcome, Went, Stopped, Copied}
use Rattle.sial_meaning.specs.Step.{Stepped, Moved, Halted, Ended, led, done, step_from}
use Rattle.sial_meaning.specs.WholeStates.{state_of}
use Rattle.sial_meaning.proofs.PointsAreWhole.Whole.{noted-state, numbers-below}
use Rattle.sial_meaning.proofs.PardosKeepTheControl.Calls.{PardoStands}
use Rattle.sial_meaning.proofs.IterationsAreTheirDeeds.Pardos.{iteration_same}
use Rattle.sial_meaning.proofs.CourseFollowsTheFold.Fit.{pardo_stands, course_fit}
use Rattle.sial_meaning.proofs.CourseFollowsTheFold.Rest.{Fit}
use Rattle.sial_meaning.proofs.StatesHaveNumbers.Start.{BodyHas, program-has, start-has}
use Rattle.sial_meaning.proofs.StatesHaveNumbers.Steps.{RestHas, StepHas, pushed-has, within-has, led-has, step-has, steps-have}
use Rattle.sial_meaning.proofs.StepsReachTheFold.BoundNumbers.{all_bound_len}
use Rattle.sial_meaning.proofs.PardosKeepTheControl.Bodies.{body_leads}

-- past a pardo
abbrev pub went_past : Setting → (indices : List ℕ) → Rest → Own → Led
went_past g indices rest own = Goes rest (left g indices own)

-- a state with another worker's part
own-has : (s : State) (own : Own) → HasNumbers s → OwnHasNumbers own → HasNumbers (with_own s own)
own-has s own has mine = record { own = mine; partials = has.partials; shared = has.shared; copies = has.copies }

-- the state of an outcome
done-state : (o : Outcome) (rest : Rest) → StepHas (done o rest) → HasNumbers (state_of o)
done-state (Went s) rest has = has.1
done-state (Stopped trap s) rest has = has

module _ (g : Setting) (sound : IsSound g) (d : ℕ) (indices these : List ℕ) (wheres : List Cond) (body : Block) (stands : PardoStands g sound.setting d indices these body) (enough : d ≤ call_depth) (at : ℕ) (rest : Rest) (deep : d + depth rest ≡ call_depth) (body-is : BodyHas body) (rest-is : RestHas rest) where
  -- a body's outcome, where the tuple is met or left out
  body-has : (met : Bool) (number : ℕ) (s : State) (own : Own) → length own.values ≡ length g.program.indices → StepHas (led s (begun met (pardo_at at these wheres body) number rest own)) → HasNumbers (state_of (unless_left_out met (block_meaning Copied g (calls Copied g d) body) (with_own s own)))
  body-has true number s own many has =
      let to : Rest = Within (pardo_at at these wheres body) (number + 1) rest in
      let t : State = with_own s own in
      let l = body_leads g sound.setting d indices these body stands (at + 1 + length wheres) to t deep many in
      done-state (block_meaning Copied g (calls Copied g d) body t) to (subst StepHas l.1 (steps-have Copied g sound l.0 (push (at + 1 + length wheres) body to) t has.0 has.1))
  body-has false number s own many has = has.1

  module _ (entry : Own) (entry-has : OwnHasNumbers entry) (many : length entry.values ≡ length g.program.indices) where
    -- an iteration
    iteration-has : (number : ℕ) → number < volume (box_of g.spaces these) → (s : State) → HasNumbers (with_own s entry) → HasNumbers (state_of (iteration wheres (block_meaning Copied g (calls Copied g call_depth) body) (with_own s (taken_up g these (tuple_at (box_of g.spaces these) number) entry))))
    iteration-has number below s has =
        let held : Own = taken_up g these (tuple_at (box_of g.spaces these) number) entry in
        let within = within-has g sound true (pardo_at at these wheres body) number rest entry (lt-ltb number (volume (box_of g.spaces these)) below) body-is rest-is entry-has in
        subst
        (λ (o : Outcome). HasNumbers (state_of o))
        (sym (iteration_same g sound.setting d indices these wheres body stands enough (with_own s held)))
        (body-has
        (all_met held wheres)
        number
        (with_own s entry)
        held
        (all_bound_len these (onto_firsts g.spaces these (tuple_at (box_of g.spaces these) number)) (unset g entry) ∙ many)
        (led-has (with_own s entry) (begun (all_met held wheres) (pardo_at at these wheres body) number rest held) has within))

    -- the iterations of some numbers
    turns-have : (ns : List ℕ) → ((n : ℕ) → Among n ns → n < volume (box_of g.spaces these)) → (l : Left) → HasNumbers (with_own l.state entry) → HasNumbers (with_own (iterations g entry these wheres body (map (tuple_at (box_of g.spaces these)) ns) l).state entry)
    turns-have [] each l has = has
    turns-have (n ∷ ns) each l has =
        let s : State = with_own l.state (taken_up g these (tuple_at (box_of g.spaces these) n) entry) in
        let o : Outcome = iteration wheres (block_meaning Copied g (calls Copied g call_depth) body) s in
        turns-have
        ns
        (λ m a. each m (inr a))
        (noted l.traps o)
        (subst (λ (t : State). HasNumbers (with_own t entry)) (sym (noted-state l.traps o)) (own-has (state_of o) entry (iteration-has n (each n (inl refl)) l.state has) entry-has))

    -- the whole pardo, and what is left behind it
    pub pardo-has : (s : State) (ts : List Trap) → HasNumbers (with_own s entry) → StepHas (led (with_own (iterations g entry these wheres body (tuples (box_of g.spaces these)) (record { state = with_own s entry; traps = ts })).state entry) (went_past g these rest entry))
    pardo-has s ts has =
        let dims : List ℕ = box_of g.spaces these in
        let ns : List ℕ = numbers_from 0 (volume dims) in
        let start : Left = record { state = with_own s entry; traps = ts } in
        let end-has : HasNumbers (with_own (iterations g entry these wheres body (tuples dims) start).state entry) =
        subst
        (λ (tuples_so : List (List ℕ)). HasNumbers (with_own (iterations g entry these wheres body tuples_so start).state entry))
        (sym (tuples-are dims))
        (turns-have ns (λ n a. let low = numbers-below 0 (volume dims) n a in omega (arith, low)) start has) in
        led-has
        (with_own (iterations g entry these wheres body (tuples dims) start).state entry)
        (went_past g these rest entry)
        end-has
        (within-has g sound false (pardo_at at these wheres body) (volume dims) rest entry (le-ltb (volume dims) (volume dims) (omega arith)) body-is rest-is entry-has)

-- where the course goes on by a step that isn't a pardo's
stepped-has : (r : Rest) (s : State) (ts : List Trap) (t : Stepped) → RestHas r × HasNumbers s → StepHas t → RestHas (stepped (record { work = record { rest = r; state = s }; traps = ts }) t).work.rest × HasNumbers (stepped (record { work = record { rest = r; state = s }; traps = ts }) t).work.state
stepped-has r s ts (Moved w) has to = to
stepped-has r s ts (Halted trap u) has to = has
stepped-has r s ts Ended has to = has

-- the next point
next-point-has : (g : Setting) (sound : IsSound g) (r : Rest) (s : State) (ts : List Trap) → Fit g sound.setting (record { rest = r; state = s }) → RestHas r × HasNumbers s
    → RestHas (next_from g (record { work = record { rest = r; state = s }; traps = ts }) r).work.rest × HasNumbers (next_from g (record { work = record { rest = r; state = s }; traps = ts }) r).work.state
next-point-has g sound (Next at line (Pardo these wheres body) rest) s ts f has =
    let stands = pardo_stands g sound.setting f.d f.indices line these wheres body f.at.stands.0 in
    let deep : f.d + depth rest ≡ call_depth = f.at.deep in
    let entered = step-has Copied g sound (Next at line (Pardo these wheres body) rest) s has.0 has.1 in
    pardo-has g sound f.d f.indices these wheres body stands.0 (omega (arith, deep)) at rest deep entered.0.0 entered.0.1 (unset g s.own) entered.1.own f.at.numbered.len s ts entered.1
next-point-has g sound (Next at line form rest) s ts f has = stepped-has (Next at line form rest) s ts (step_from Copied g (Next at line form rest) s) has (step-has Copied g sound (Next at line form rest) s has.0 has.1)
next-point-has g sound r s ts f has = stepped-has r s ts (step_from Copied g r s) has (step-has Copied g sound r s has.0 has.1)

-- each point's work
course-has : (g : Setting) (sound : IsSound g) (t : ℕ) → RestHas (course g t).work.rest × HasNumbers (course g t).work.state
course-has g sound zero = (pushed-has 0 g.program.body (Over (stop_at g.program)) (program-has g.program sound.setting.proper) tt, start-has g sound)
course-has g sound (suc t) = next-point-has g sound (course g t).work.rest (course g t).work.state (course g t).traps (course_fit g sound.setting t) (course-has g sound t)

-- each point
pub points-have-numbers : PointsHaveNumbers
points-have-numbers g sound t = (course-has g sound t).1
