-- Each point of the course is whole, behind noted traps too.
use Rattle.std.proofs.Common.{◌≡◌, ℕ, zero, suc, ◌+◌, ◌<◌, ◌≤◌, List, [], ◌∷◌, ◌++◌, map, length, Bool, true, false, refl, sym, ap, ◌∙◌, subst, arith, inl, inr, IsTrue}
use Rattle.std.specs.List.{list_all}
use Rattle.std.proofs.lemmas.Bool.{lt-ltb, le-ltb}
use Rattle.sial_syntax.proofs.AmongLemmas.{Among}
use Rattle.sial_syntax.proofs.BoxLemmas.{tuples-are}
use Rattle.sial_syntax.specs.declared.condition.Cond.{Cond}
use Rattle.sial_syntax.specs.Agreeing.{share_any, has_twice}
use Rattle.sial_syntax.specs.Boxes.{numbers_from, volume, tuples, tuple_at}
use Rattle.sial_syntax.specs.Proper.{has_index}
use Rattle.sial_syntax.specs.Spaces.{box_of, onto_firsts}
use Rattle.sial_syntax.specs.Tree.{Block, Pardo}
use Rattle.sial_syntax.specs.Visits.{visits}
use Rattle.sial_meaning.specs.declared.trap.Trap.{Trap}
use Rattle.sial_meaning.specs.AlongLaws.{PointsAreWhole}
use Rattle.sial_meaning.specs.Control.{begun, pardo_at}
use Rattle.sial_meaning.specs.Course.{Left, noted, iterations, stepped, next_from, course}
use Rattle.sial_meaning.specs.Meaning.{block_meaning, calls, call_depth, iteration, unless_left_out, all_met, taken_up, left}
use Rattle.sial_meaning.specs.Own.{Own, unset}
use Rattle.sial_meaning.specs.Ran.{view_of, Ran, Through, Broke, outcome_in, iteration_ran}
use Rattle.sial_meaning.specs.Rest.{PardoAt, Rest, Next, Within, push, depth}
use Rattle.sial_meaning.specs.Setting.{Setting}
use Rattle.sial_meaning.specs.Sound.{IsSound}
use Rattle.sial_meaning.specs.State.{State, with_own}
use Rattle.sial_meaning.specs.Statement.{Outcome, Went, Stopped, Copied}
use Rattle.sial_meaning.specs.Step.{Stepped, Moved, Halted, Ended, led, done, step_from}
use Rattle.sial_meaning.specs.WholeStates.{DistributedIsWhole, IsWhole, state_of}
use Rattle.sial_meaning.proofs.PardosKeepTheControl.Calls.{PardoStands}
use Rattle.sial_meaning.proofs.IterationsAreTheirDeeds.Pardos.{iteration_same}
use Rattle.sial_meaning.proofs.CourseFollowsTheFold.Fit.{pardo_stands, course_fit}
use Rattle.sial_meaning.proofs.CourseFollowsTheFold.Rest.{Fit}
use Rattle.sial_meaning.proofs.IterationsAreTheirDeeds.Fold.{iteration_is}
use Rattle.sial_meaning.proofs.WritesFitTheirBlocks.Flags.{HasFlags, flags_iteration, flags_bound}
use Rattle.sial_meaning.proofs.Granted.Visits.{AllGood}
use Rattle.sial_meaning.proofs.Granted.Ranges.{InRange}
use Rattle.sial_meaning.proofs.StepsReachTheFold.BoundNumbers.{all_bound_len}
use Rattle.sial_meaning.proofs.PardosKeepTheControl.Bodies.{body_leads}
use Rattle.sial_meaning.proofs.StatesAreWhole.Rest.{GoodRest, GoodWork, GoodAt, fewer}
use Rattle.sial_meaning.proofs.StatesAreWhole.Steps.{within-good, step-good, steps-good, steps-lead}

-- a whole state with a whole worker's part whose created flags are the same
own-whole : (g : Setting) (s t : State) → IsWhole g s → IsWhole g t → s.own.created ≡ t.own.created → IsWhole g (with_own s t.own)
own-whole g s t whole other same = record {
  own = other.own;
  distributed = subst (λ (flags : List Bool). DistributedIsWhole g flags s.shared.distributed) same whole.distributed;
  served = whole.served;
  distributed_copies = subst (λ (flags : List Bool). DistributedIsWhole g flags s.copies.distributed) same whole.distributed_copies;
  served_copies = whole.served_copies;
}

-- where an outcome leads it is whole
done-whole : (g : Setting) (o : Outcome) (rest : Rest) → GoodAt g (done o rest) → IsWhole g (state_of o)
done-whole g (Went s) rest good = good.whole
done-whole g (Stopped trap s) rest good = good

-- the state that an outcome leaves when it is noted
pub noted-state : (ts : List Trap) (o : Outcome) → (noted ts o).state ≡ state_of o
noted-state ts (Went s) = refl
noted-state ts (Stopped trap s) = refl

-- the created flags of an outcome
outcome-flags : (flags : List Bool) (s : State) (x : Ran) → HasFlags flags x → (state_of (outcome_in s x)).own.created ≡ flags
outcome-flags flags s (Through ds own) e = e
outcome-flags flags s (Broke ds trap own) e = e

-- numbers from one on, so many
pub numbers-below : (first n k : ℕ) → Among k (numbers_from first n) → k < first + n
numbers-below first zero k a = absurd a
numbers-below first (suc n) k (inl is) = omega (arith, is)
numbers-below first (suc n) k (inr a) = let more = numbers-below (first + 1) n k a in omega (arith, more)

module _ (g : Setting) (sound : IsSound g) (d : ℕ) (indices these : List ℕ) (wheres : List Cond) (body : Block) (stands : PardoStands g sound.setting d indices these body) (enough : d ≤ call_depth) (at : ℕ) (rest : Rest) (deep : d + depth rest ≡ call_depth) (outer : List ℕ)
    (out : share_any these outer ≡ false) (once : has_twice these ≡ false) (has : IsTrue (list_all (has_index g.program) these)) (all : AllGood g (visits (these ++ outer) true body)) (good : GoodRest g outer rest) where
  -- a body's outcome, where the tuple is to be met or left out
  body-whole : (met : Bool) (number : ℕ) (s : State) (own : Own) → length own.values ≡ length g.program.indices → GoodAt g (led s (begun met (pardo_at at these wheres body) number rest own)) → IsWhole g (state_of (unless_left_out met (block_meaning Copied g (calls Copied g d) body) (with_own s own)))
  body-whole true number s own many work =
      let pardo : PardoAt = pardo_at at these wheres body in
      let t : State = with_own s own in
      let to : Rest = Within pardo (number + 1) rest in
      let l = body_leads g sound.setting d indices these body stands (at + 1 + length wheres) to t deep many in
      done-whole
      g
      (block_meaning Copied g (calls Copied g d) body t)
      to
      (subst (GoodAt g) l.1 (steps-good Copied g sound l.0 (push (at + 1 + length wheres) body to) t work))
  body-whole false number s own many work = work.whole

  module _ (entry : Own) (in-range : InRange g outer entry.values) (many : length entry.values ≡ length g.program.indices) where
    -- an iteration from the worker's part as the pardo was entered
    iteration-whole : (number : ℕ) → number < volume (box_of g.spaces these) → (s : State) → IsWhole g (with_own s entry) → IsWhole g (state_of (iteration wheres (block_meaning Copied g (calls Copied g d) body) (with_own s (taken_up g these (tuple_at (box_of g.spaces these) number) entry))))
    iteration-whole number below s whole =
        let held : Own = taken_up g these (tuple_at (box_of g.spaces these) number) entry in
        body-whole
        (all_met held wheres)
        number
        (with_own s entry)
        held
        (all_bound_len these (onto_firsts g.spaces these (tuple_at (box_of g.spaces these) number)) (unset g entry) ∙ many)
        (within-good g true (pardo_at at these wheres body) number rest (with_own s entry) outer (lt-ltb number (volume (box_of g.spaces these)) below) in-range whole out once has all good)

    -- its created flags
    iteration-flags : (tuple : List ℕ) (s : State) → (state_of (iteration wheres (block_meaning Copied g (calls Copied g d) body) (with_own s (taken_up g these tuple entry)))).own.created ≡ entry.created
    iteration-flags tuple s =
        let held : Own = taken_up g these tuple entry in
        ap (λ (o : Outcome). (state_of o).own.created) (iteration_is g sound.setting d indices these wheres body stands d (with_own s held))
        ∙ outcome-flags
        entry.created
        (with_own s held)
        (iteration_ran g (view_of s) d wheres body held)
        (flags_iteration entry.created g (view_of s) d wheres body held (flags_bound these (onto_firsts g.spaces these tuple) (unset g entry)))

    -- the iterations of some numbers
    turns-whole : (ns : List ℕ) → ((n : ℕ) → Among n ns → n < volume (box_of g.spaces these)) → (l : Left) → IsWhole g (with_own l.state entry) → IsWhole g (with_own (iterations g entry these wheres body (map (tuple_at (box_of g.spaces these)) ns) l).state entry)
    turns-whole [] each l whole = whole
    turns-whole (n ∷ ns) each l whole =
        let held : Own = taken_up g these (tuple_at (box_of g.spaces these) n) entry in
        let s : State = with_own l.state held in
        let o : Outcome = iteration wheres (block_meaning Copied g (calls Copied g call_depth) body) s in
        let same : o ≡ iteration wheres (block_meaning Copied g (calls Copied g d) body) s = iteration_same g sound.setting d indices these wheres body stands enough s in
        let next : IsWhole g (state_of o) = subst (λ (p : Outcome). IsWhole g (state_of p)) (sym same) (iteration-whole n (each n (inl refl)) l.state whole) in
        let flags : (state_of o).own.created ≡ entry.created = ap (λ (p : Outcome). (state_of p).own.created) same ∙ iteration-flags (tuple_at (box_of g.spaces these) n) l.state in
        turns-whole
        ns
        (λ m a. each m (inr a))
        (noted l.traps o)
        (subst (λ (t : State). IsWhole g (with_own t entry)) (sym (noted-state l.traps o)) (own-whole g (state_of o) (with_own l.state entry) next whole flags))

    -- the whole pardo, and what is left behind it
    pub pardo-whole : (s : State) (ts : List Trap) → IsWhole g (with_own s entry) → GoodWork g rest (with_own (iterations g entry these wheres body (tuples (box_of g.spaces these)) (record { state = with_own s entry; traps = ts })).state (left g these entry))
    pardo-whole s ts whole =
        let dims : List ℕ = box_of g.spaces these in
        let ns : List ℕ = numbers_from 0 (volume dims) in
        let start : Left = record { state = with_own s entry; traps = ts } in
        let l : Left = iterations g entry these wheres body (tuples dims) start in
        let end-whole : IsWhole g (with_own l.state entry) =
        subst
        (λ (tuples_so : List (List ℕ)). IsWhole g (with_own (iterations g entry these wheres body tuples_so start).state entry))
        (sym (tuples-are dims))
        (turns-whole ns (λ n a. let low = numbers-below 0 (volume dims) n a in omega (arith, low)) start whole) in
        within-good g false (pardo_at at these wheres body) (volume dims) rest (with_own l.state entry) outer (le-ltb (volume dims) (volume dims) (omega arith)) in-range end-whole out once has all good

-- where the course goes on by a step that isn't a pardo's
stepped-good : (g : Setting) (r : Rest) (s : State) (ts : List Trap) (t : Stepped) → GoodWork g r s → GoodAt g t → GoodWork g (stepped (record { work = record { rest = r; state = s }; traps = ts }) t).work.rest (stepped (record { work = record { rest = r; state = s }; traps = ts }) t).work.state
stepped-good g r s ts (Moved w) work good = good
stepped-good g r s ts (Halted trap u) work good = work
stepped-good g r s ts Ended work good = work

-- the next point
next-point-good : (g : Setting) (sound : IsSound g) (r : Rest) (s : State) (ts : List Trap) → Fit g sound.setting (record { rest = r; state = s }) → GoodWork g r s
    → GoodWork g (next_from g (record { work = record { rest = r; state = s }; traps = ts }) r).work.rest (next_from g (record { work = record { rest = r; state = s }; traps = ts }) r).work.state
next-point-good g sound (Next at line (Pardo these wheres body) rest) s ts f work =
    let stands = pardo_stands g sound.setting f.d f.indices line these wheres body f.at.stands.0 in
    let deep : f.d + depth rest ≡ call_depth = f.at.deep in
    let gw : GoodWork g (Within (pardo_at at these wheres body) 0 rest) (with_own s (unset g s.own)) = step-good Copied g sound (Next at line (Pardo these wheres body) rest) s work in
    let good = gw.good in
    pardo-whole
    g
    sound
    f.d
    f.indices
    these
    wheres
    body
    stands.0
    (omega (arith, deep))
    at
    rest
    deep
    good.0
    good.2
    good.3
    good.4
    good.5
    good.6
    (unset g s.own)
    (fewer g good.0 gw.indices (unset g s.own).values good.1 gw.in_range)
    gw.whole.own.values
    s
    ts
    gw.whole
next-point-good g sound (Next at line form rest) s ts f work = stepped-good g (Next at line form rest) s ts (step_from Copied g (Next at line form rest) s) work (step-good Copied g sound (Next at line form rest) s work)
next-point-good g sound r s ts f work = stepped-good g r s ts (step_from Copied g r s) work (step-good Copied g sound r s work)

-- each point's work is good
pub course-good : (g : Setting) (sound : IsSound g) (t : ℕ) → GoodWork g (course g t).work.rest (course g t).work.state
course-good g sound zero = steps-lead Copied g zero sound
course-good g sound (suc t) = next-point-good g sound (course g t).work.rest (course g t).work.state (course g t).traps (course_fit g sound.setting t) (course-good g sound t)

-- each point is whole
pub points-are-whole : PointsAreWhole
points-are-whole g sound t = (course-good g sound t).whole
