-- Each write along the course has as many elements as its block.
use Rattle.std.proofs.Common.{◌≡◌, ℕ, zero, suc, ◌+◌, ◌<◌, List, [], ◌∷◌, ◌++◌, flat_map, length, get_or, Bool, true, false, refl, ◌∙◌, subst, arith, inl, inr, IsTrue}
use Rattle.std.specs.List.{list_all}
use Rattle.std.proofs.lemmas.Bool.{lt-ltb}
use Rattle.sial_syntax.proofs.AmongLemmas.{Among}
use Rattle.sial_syntax.specs.declared.access.Class.{Class}
use Rattle.sial_syntax.specs.declared.condition.Cond.{Cond}
use Rattle.sial_syntax.specs.Agreeing.{share_any, has_twice}
use Rattle.sial_syntax.specs.Boxes.{numbers_from, volume, tuple_at}
use Rattle.sial_syntax.specs.Proper.{has_index}
use Rattle.sial_syntax.specs.Spaces.{box_of, onto_firsts}
use Rattle.sial_syntax.specs.Tree.{Block, Pardo}
use Rattle.sial_syntax.specs.Visits.{visits}
use Rattle.sial_meaning.specs.AlongLaws.{state_at, WritesFit}
use Rattle.sial_meaning.specs.Control.{depth_left, begun, pardo_at}
use Rattle.sial_meaning.specs.Course.{course}
use Rattle.sial_meaning.specs.CourseDeeds.{iteration_deeds, deeds_from, deeds_at}
use Rattle.sial_meaning.specs.Deeds.{Deed, Writes}
use Rattle.sial_meaning.specs.Meaning.{block_meaning, calls, call_depth, all_met, taken_up}
use Rattle.sial_meaning.specs.Own.{Own, unset}
use Rattle.sial_meaning.specs.Ran.{view_of, block_ran, calls_ran, ran_unless_left_out, iteration_ran, statement_ran}
use Rattle.sial_meaning.specs.Rest.{PardoAt, Rest, Over, Next, Turn, Join, Back, Within, push, depth}
use Rattle.sial_meaning.specs.Setting.{Setting}
use Rattle.sial_meaning.specs.Sound.{IsSound}
use Rattle.sial_meaning.specs.State.{State, with_own, shared_block}
use Rattle.sial_meaning.specs.Statement.{Copied}
use Rattle.sial_meaning.specs.Step.{led}
use Rattle.sial_meaning.specs.WholeStates.{IsWhole}
use Rattle.sial_meaning.proofs.EpochsAlongTheCourse.Deeds.{each_of, each_passed}
use Rattle.sial_meaning.proofs.PointsAreWhole.Whole.{numbers-below, course-good}
use Rattle.sial_meaning.proofs.PardosKeepTheControl.Calls.{PardoStands}
use Rattle.sial_meaning.proofs.CourseFollowsTheFold.Fit.{pardo_stands, course_fit}
use Rattle.sial_meaning.proofs.CourseFollowsTheFold.Rest.{Fit}
use Rattle.sial_meaning.proofs.CourseFollowsTheFold.Stand.{visits_within}
use Rattle.sial_meaning.proofs.IterationsAreTheirDeeds.EachDeed.{Each, each_append, EachBefore}
use Rattle.sial_meaning.proofs.WritesFitTheirBlocks.Iterations.{Fits, statement-fits, walks}
use Rattle.sial_meaning.proofs.Granted.Visits.{AllGood}
use Rattle.sial_meaning.proofs.Granted.Ranges.{InRange}
use Rattle.sial_meaning.proofs.StepsReachTheFold.BoundNumbers.{all_bound_len}
use Rattle.sial_meaning.proofs.PardosKeepTheControl.Bodies.{body_leads}
use Rattle.sial_meaning.proofs.StepsTakeTheFirstPartOff.Stands.{BodyIn, and_none, pushed_ran, pushed_in}
use Rattle.sial_meaning.proofs.StatesAreWhole.Rest.{GoodRest, GoodWork, GoodAt, fewer}
use Rattle.sial_meaning.proofs.StatesAreWhole.Steps.{within-good, step-good}

-- of the deeds of each of some numbers
each-among : (P : Deed → Type 0) (f : ℕ → List Deed) (ns : List ℕ) → ((n : ℕ) → Among n ns → Each P (f n)) → Each P (flat_map f ns)
each-among P f [] h = tt
each-among P f (n ∷ ns) h = each_append P (f n) (flat_map f ns) (h n (inl refl)) (each-among P f ns (λ m a. h m (inr a)))

-- of one of some deeds
pub each-at : (P : Deed → Type 0) (ds : List Deed) → Each P ds → (k : ℕ) (d : Deed) → k < length ds → P (get_or ds k d)
each-at P [] e k d below = absurd (omega (arith, below))
each-at P (x ∷ ds) e zero d below = e.0
each-at P (x ∷ ds) e (suc k) d below = each-at P ds e.1 k d (omega (arith, below))

module _ (g : Setting) (sound : IsSound g) (d : ℕ) (indices these : List ℕ) (wheres : List Cond) (body : Block) (stands : PardoStands g sound.setting d indices these body) (at : ℕ) (rest : Rest) (deep : d + depth rest ≡ call_depth) (outer : List ℕ)
    (out : share_any these outer ≡ false) (once : has_twice these ≡ false) (has : IsTrue (list_all (has_index g.program) these)) (all : AllGood g (visits (these ++ outer) true body)) (good : GoodRest g outer rest) (s : State) where
  -- as many elements as the blocks have in this state
  abbrev long : Class → ℕ → ℕ
  long class block = length (shared_block s.shared class block)

  -- the body stands inside a pardo
  body-in : BodyIn g sound.setting (these ++ indices) true body
  body-in = record {
    proper = stands.proper;
    unbroken = stands.unbroken;
    calm = λ w m. let within = visits_within (these ++ indices) body w m in ((stands.outer w m).calm within, (stands.outer w m).inner within);
  }

  -- an iteration whose tuple is met or left out
  body-fits : (met : Bool) (number : ℕ) (before own : Own) → length own.values ≡ length g.program.indices → GoodAt g (led (with_own s before) (begun met (pardo_at at these wheres body) number rest own))
      → EachBefore (Fits long) (ran_unless_left_out met (block_ran g (view_of s) (calls_ran g (view_of s) (depth_left rest)) body) own)
  body-fits true number before own many work =
      let pardo : PardoAt = pardo_at at these wheres body in
      let t : State = with_own s own in
      let to : Rest = Within pardo (number + 1) rest in
      let l = body_leads g sound.setting d indices these body stands (at + 1 + length wheres) to t deep many in
      subst
      (EachBefore (Fits long))
      (pushed_ran g (view_of s) (at + 1 + length wheres) body to own ∙ and_none (block_ran g (view_of s) (calls_ran g (view_of s) (depth_left rest)) body own))
      (walks
      long
      g
      sound
      pardo
      (number + 1)
      rest
      l.0
      (push (at + 1 + length wheres) body to)
      t
      (pushed_in g sound.setting (these ++ indices) true (at + 1 + length wheres) body to body-in tt)
      many
      work
      (λ c b. refl)
      (block_meaning Copied g (calls Copied g d) body t)
      l.1)
  body-fits false number before own many work = tt

  module _ (entry : Own) (in-range : InRange g outer entry.values) (many : length entry.values ≡ length g.program.indices) (whole : IsWhole g (with_own s entry)) where
    -- an iteration
    pub iteration-fits : (number : ℕ) → number < volume (box_of g.spaces these) → EachBefore (Fits long) (iteration_ran g (view_of s) (depth_left rest) wheres body (taken_up g these (tuple_at (box_of g.spaces these) number) entry))
    iteration-fits number below =
        let held : Own = taken_up g these (tuple_at (box_of g.spaces these) number) entry in
        body-fits
        (all_met held wheres)
        number
        entry
        held
        (all_bound_len these (onto_firsts g.spaces these (tuple_at (box_of g.spaces these) number)) (unset g entry) ∙ many)
        (within-good g true (pardo_at at these wheres body) number rest (with_own s entry) outer (lt-ltb number (volume (box_of g.spaces these)) below) in-range whole out once has all good)

-- the deeds of the step from any work
pub from-fits : (g : Setting) (sound : IsSound g) (r : Rest) (s : State) → Fit g sound.setting (record { rest = r; state = s }) → GoodWork g r s → Each (Fits (λ class block. length (shared_block s.shared class block))) (deeds_from g s r)
from-fits g sound (Next at line (Pardo these wheres body) rest) s f work =
    let stands = pardo_stands g sound.setting f.d f.indices line these wheres body f.at.stands.0 in
    let gw : GoodWork g (Within (pardo_at at these wheres body) 0 rest) (with_own s (unset g s.own)) = step-good Copied g sound (Next at line (Pardo these wheres body) rest) s work in
    let good = gw.good in
    let dims : List ℕ = box_of g.spaces these in
    each-among
    (Fits (λ class block. length (shared_block s.shared class block)))
    (iteration_deeds g s these wheres body rest)
    (numbers_from 0 (volume dims))
    (λ n a.
    let low = numbers-below 0 (volume dims) n a in
    each_of
    (Fits (λ class block. length (shared_block s.shared class block)))
    (iteration_ran g (view_of s) (depth_left rest) wheres body (taken_up g these (tuple_at dims n) (unset g s.own)))
    (λ t. tt)
    (iteration-fits
    g
    sound
    f.d
    f.indices
    these
    wheres
    body
    stands.0
    at
    rest
    f.at.deep
    good.0
    good.2
    good.3
    good.4
    good.5
    good.6
    s
    (unset g s.own)
    (fewer g good.0 gw.indices (unset g s.own).values good.1 gw.in_range)
    gw.whole.own.values
    gw.whole
    n
    (omega (arith, low))))
from-fits g sound (Next at line form rest) s f work =
    let good = work.good in
    each_passed
    (Fits (λ class block. length (shared_block s.shared class block)))
    (statement_ran g (view_of s) line form s.own)
    (statement-fits (λ class block. length (shared_block s.shared class block)) g sound line work.indices good.0 form s work.in_range good.1 work.whole (λ c b. refl))
from-fits g sound (Over at) s f work = tt
from-fits g sound (Turn loop last rest) s f work = tt
from-fits g sound (Join at rest) s f work = tt
from-fits g sound (Back at values rest) s f work = tt
from-fits g sound (Within pardo number rest) s f work = tt

-- each write of each step
pub writes-fit : WritesFit
writes-fit g sound t touch words (k, below, is) =
    subst
    (Fits (λ class block. length (shared_block (state_at g t).shared class block)))
    is
    (each-at
    (Fits (λ class block. length (shared_block (state_at g t).shared class block)))
    (deeds_at g t)
    (from-fits g sound (course g t).work.rest (course g t).work.state (course_fit g sound.setting t) (course-good g sound t))
    k
    (Writes touch words)
    below)
