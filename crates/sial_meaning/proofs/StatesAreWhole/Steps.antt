-- Steps from a program's start lead from whole states to whole states.
use Rattle.std.proofs.Common.{◌≡◌, ℕ, zero, suc, ◌+◌, ◌<◌, List, [], ◌∷◌, ◌++◌, map, length, Bool, true, false, ◌==◌, ◌&&◌, ◌||◌, not, nat_lt, refl, sym, ap, ◌∙◌, subst, arith, IsTrue}
use Rattle.std.proofs.lemmas.Bool.Decides.{nat_tests}
use Rattle.std.specs.List.{list_all}
use Rattle.sial_syntax.specs.Agreeing.{contains, share_any, has_twice, is_sub_of}
use Rattle.sial_syntax.specs.Boxes.{volume, tuple_at}
use Rattle.sial_syntax.specs.Limits.{most_pardo}
use Rattle.sial_syntax.specs.Numbering.{sizes, stop_at}
use Rattle.sial_syntax.specs.Parts.{indices_bound}
use Rattle.sial_syntax.specs.Proper.{has_index, has_length, proper_body, proper_cond}
use Rattle.sial_syntax.specs.Spaces.{Span, Segments, Pieces, span_of, first_of, count_of, box_of, onto_firsts, pieces_of}
use Rattle.sial_syntax.specs.Tree.{Plain, Do, DoIn, Pardo, If, IfElse, Call, Assign, Get, Request, Put, Prepare, Create, Delete, Allocate, Deallocate, Collective, SipBarrier, ServerBarrier, Print, PrintScalar, Integrals}
use Rattle.sial_syntax.specs.Visits.{visits, inner_visits}
use Rattle.sial_syntax.proofs.RankLemmas.{numbers-within}
use Rattle.sial_meaning.specs.Meaning.{meaning, call_depth, condition, on_own, taken_up, all_met}
use Rattle.sial_meaning.specs.Own.{Own, value_of, unset}
use Rattle.sial_meaning.specs.Control.{begun, went_within, loop_at}
use Rattle.sial_meaning.specs.Rest.{PardoAt, Rest, Over, Next, Turn, Join, Back, Within, depth, push}
use Rattle.sial_meaning.specs.Step.{Work, Stepped, Moved, Halted, Ended, led, done, step_from, go_on, steps, start_work}
use Rattle.sial_meaning.specs.Setting.{Setting}
use Rattle.sial_meaning.specs.Sight.{is_pieces_of}
use Rattle.sial_meaning.specs.Sound.{IsSound}
use Rattle.sial_meaning.specs.State.{State, start_state, with_own}
use Rattle.sial_meaning.specs.Statement.{Outcome, Went, Stopped, Reading, statement}
use Rattle.sial_meaning.specs.WholeStates.{IsWhole, StandsAt, ReachedStatesAreWhole, state_of, OutcomesAreReached}
use Rattle.sial_meaning.proofs.Granted.Rules.{cuts-as-said}
use Rattle.sial_meaning.proofs.Granted.Visits.{Good, AllGood, good-split, body-good}
use Rattle.sial_meaning.proofs.AcceptedInOtherWords.Pairs.{never, holds-so}
use Rattle.sial_meaning.proofs.AssignmentsReadBack.Places.{or-right}
use Rattle.sial_meaning.proofs.Granted.Ranges.{InSpan, InRange}
use Rattle.sial_meaning.proofs.StepsReachTheFold.Fold.{reaches_fold}
use Rattle.sial_meaning.proofs.StepsReachTheFold.KeptNumbers.{GoesWith, statement_goes}
use Rattle.sial_meaning.proofs.StepsReachTheFold.Rules.{both, neither}
use Rattle.sial_meaning.proofs.StatesAreWhole.Created.{statement-whole}
use Rattle.sial_meaning.proofs.StatesAreWhole.Start.{start-whole}
use Rattle.sial_meaning.proofs.StatesAreWhole.Statements.{WholeTo}
use Rattle.sial_meaning.proofs.StatesAreWhole.Rest.{AllAmong, EndsIn, GoodRest, GoodWork, GoodAt, good-pushed, values-whole, fewer, first-in, last-in, entered-good, turned-good, branched-good, called-good}
use Rattle.sial_meaning.proofs.StatesAreWhole.Bound.{unset-whole, bound-whole, bound-others, tuple-bound}

-- a number of a box taken up, where its `where` lines hold or not
begun-good : (g : Setting) (met : Bool) (pardo : PardoAt) (number : ℕ) (rest : Rest) (s : State) (own : Own) (outer : List ℕ) → InRange g (pardo.indices ++ outer) own.values → IsWhole g (with_own s own)
    → share_any pardo.indices outer ≡ false → has_twice pardo.indices ≡ false → IsTrue (list_all (has_index g.program) pardo.indices) → AllGood g (visits (pardo.indices ++ outer) true pardo.body) → GoodRest g outer rest → GoodAt g (led s (begun met pardo number rest own))
begun-good g true pardo number rest s own outer in-range whole out once has all good = record {
  indices = pardo.indices ++ outer;
  in_range = in-range;
  good = good-pushed g (pardo.indices ++ outer) true (pardo.head + 1 + length pardo.wheres) pardo.body (Within pardo (number + 1) rest) all (outer, among-behind pardo.indices outer, out, once, has, all, good);
  whole = whole;
}
  where
    among-behind : (xs ys : List ℕ) → AllAmong ys (xs ++ ys)
    among-behind [] ys i has = has
    among-behind (x ∷ xs) ys i has = or-right (x == i) (contains (xs ++ ys) i) (among-behind xs ys i has)
begun-good g false pardo number rest s own outer in-range whole out once has all good = record {
  indices = pardo.indices ++ outer;
  in_range = in-range;
  good = (outer, among-behind pardo.indices outer, out, once, has, all, good);
  whole = whole;
}
  where
    among-behind : (xs ys : List ℕ) → AllAmong ys (xs ++ ys)
    among-behind [] ys i has = has
    among-behind (x ∷ xs) ys i has = or-right (x == i) (contains (xs ++ ys) i) (among-behind xs ys i has)

-- a pardo in progress
pub within-good : (g : Setting) (more : Bool) (pardo : PardoAt) (number : ℕ) (rest : Rest) (s : State) (outer : List ℕ) → nat_lt number (volume (box_of g.spaces pardo.indices)) ≡ more → InRange g outer s.own.values → IsWhole g s
    → share_any pardo.indices outer ≡ false → has_twice pardo.indices ≡ false → IsTrue (list_all (has_index g.program) pardo.indices) → AllGood g (visits (pardo.indices ++ outer) true pardo.body) → GoodRest g outer rest → GoodAt g (led s (went_within g more pardo number rest s.own))
within-good g true pardo number rest s outer is in-range whole out once has all good =
    let below : number < volume (box_of g.spaces pardo.indices) = grind (arith, nat_tests) in
    let numbers = onto_firsts g.spaces pardo.indices (tuple_at (box_of g.spaces pardo.indices) number) in
    let u : State = on_own (unset g) s in
    let t : State = on_own (taken_up g pardo.indices (tuple_at (box_of g.spaces pardo.indices) number)) s in
    begun-good g (all_met t.own pardo.wheres) pardo number rest s t.own outer
    (tuple-bound g pardo.indices outer numbers u out once has (numbers-within g.spaces pardo.indices number below) (unset-whole g s whole) in-range)
    (bound-whole g pardo.indices numbers u (unset-whole g s whole)) out once has all good
within-good g false pardo number rest s outer is in-range whole out once has all good = record {
  indices = outer;
  in_range = bound-others g outer pardo.indices (map (λ i. 0) pardo.indices) (unset g s.own) out in-range;
  good = good;
  whole = bound-whole g pardo.indices (map (λ i. 0) pardo.indices) (on_own (unset g) s) (unset-whole g s whole);
}

-- pieces have no range to be asked for
pieces-any : (s : Span) (w v last : ℕ) → is_pieces_of s w ≡ true → InSpan s v × EndsIn s last
pieces-any (Segments kind first count) w v last is = absurd (never is)
pieces-any (Pieces super) w v last is = (tt, tt)

-- a statement that holds no other
plain-good : (reading : Reading) (g : Setting) (line : ℕ) (form : Plain) (rest : Rest) (s : State) (indices : List ℕ) (within : Bool) → IsSound g → InRange g indices s.own.values → IsWhole g s
    → Good g (record { line = line; form = form; bound = indices; within = within }) → GoodRest g indices rest → GoodAt g (done (statement reading g line form s) rest)
plain-good reading g line form rest s indices within sound in-range whole good rest-good =
    by-outcome (statement reading g line form s) (statement-whole reading g line indices within form s sound in-range good whole) (statement_goes reading g line form s)
  where
    by-outcome : (o : Outcome) → WholeTo g o → GoesWith s.own.values o → GoodAt g (done o rest)
    by-outcome (Went t) now same = record { indices = indices; in_range = subst (InRange g indices) (sym same) in-range; good = rest-good; whole = now }
    by-outcome (Stopped trap t) now same = now

-- a loop's index isn't bound where it stands
loop-out : (g : Setting) (line index : ℕ) (form : Plain) (indices : List ℕ) (within : Bool) → Good g (record { line = line; form = form; bound = indices; within = within }) → indices_bound form ≡ index ∷ [] → contains indices index ≡ false
loop-out g line index form indices within good is =
    let out = (neither (share_any (indices_bound form) indices) (has_twice (indices_bound form)) good.rebound).0 in
    (neither (contains indices index) false (ap (λ xs. share_any xs indices) (sym is) ∙ out)).0

-- a statement at the head
next-good : (reading : Reading) (g : Setting) (at line : ℕ) (form : Plain) (rest : Rest) (s : State) (indices : List ℕ) (within : Bool) → IsSound g → InRange g indices s.own.values → IsWhole g s
    → Good g (record { line = line; form = form; bound = indices; within = within }) → AllGood g (inner_visits indices within form) → GoodRest g indices rest → GoodAt g (step_from reading g (Next at line form rest) s)
next-good reading g at line (Do index body) rest s indices within sound in-range whole good inner rest-good =
    entered-good g (loop_at at index body) (first_of g.spaces index) (count_of g.spaces index) rest s indices within in-range rest-good whole (loop-out g line index (Do index body) indices within good refl)
    (both (has_index g.program index) (proper_body g.program body) good.proper).0 inner
    (λ n is. (first-in (span_of g.spaces index) n is, last-in (span_of g.spaces index) n is))
next-good reading g at line (DoIn sub index body) rest s indices within sound in-range whole good inner rest-good =
    let loops = (neither (not (is_sub_of g.program sub index) || false) ((false || false) || (false || false)) good.kind).0 in
    let cut : is_sub_of g.program sub index ≡ true = holds-so (is_sub_of g.program sub index) (neither (not (is_sub_of g.program sub index)) false loops).0 in
    let pieces : is_pieces_of (span_of g.spaces sub) index ≡ true = cuts-as-said g sound sub index ∙ cut in
    entered-good g (loop_at at sub body) 1 (pieces_of g.spaces sub (value_of s.own index)) rest s indices within in-range rest-good whole (loop-out g line sub (DoIn sub index body) indices within good refl)
    (both (has_index g.program sub) (has_index g.program index && proper_body g.program body) good.proper).0 inner
    (λ n is. pieces-any (span_of g.spaces sub) index 1 (1 + n) pieces)
next-good reading g at line (Pardo over wheres body) rest s indices within sound in-range whole good inner rest-good =
    let parts = neither (share_any over indices) (has_twice over) good.rebound in
    let there = (both (has_length most_pardo over) (list_all (has_index g.program) over && (list_all (proper_cond g.program) wheres && proper_body g.program body)) good.proper).1 in
    record {
      indices = indices;
      in_range = in-range;
      good = (indices, (λ i is. is), parts.0, parts.1, (both (list_all (has_index g.program) over) (list_all (proper_cond g.program) wheres && proper_body g.program body) there).0, inner, rest-good);
      whole = unset-whole g s whole;
    }
next-good reading g at line (If test body) rest s indices within sound in-range whole good inner rest-good =
    branched-good g line (condition s.own test) (push (at + 1) body (Join (at + 1 + sizes body) rest)) rest s indices in-range whole (good-pushed g indices within (at + 1) body (Join (at + 1 + sizes body) rest) inner rest-good) rest-good
next-good reading g at line (IfElse test body other) rest s indices within sound in-range whole good inner rest-good =
    let parts = good-split g (visits indices within body) (visits indices within other) inner in
    branched-good g line (condition s.own test) (push (at + 1) body (Join (at + 1 + sizes body) rest)) (push (at + 2 + sizes body) other (Join (at + 2 + sizes body + sizes other) rest)) s indices in-range whole
    (good-pushed g indices within (at + 1) body (Join (at + 1 + sizes body) rest) parts.0 rest-good)
    (good-pushed g indices within (at + 2 + sizes body) other (Join (at + 2 + sizes body + sizes other) rest) parts.1 rest-good)
next-good reading g at line (Call procedure) rest s indices within sound in-range whole good inner rest-good = called-good g (nat_lt (depth rest) call_depth) procedure rest s indices sound in-range whole rest-good
next-good reading g at line (Assign to op right) rest s indices within sound in-range whole good inner rest-good = plain-good reading g line (Assign to op right) rest s indices within sound in-range whole good rest-good
next-good reading g at line (Get block) rest s indices within sound in-range whole good inner rest-good = plain-good reading g line (Get block) rest s indices within sound in-range whole good rest-good
next-good reading g at line (Request block) rest s indices within sound in-range whole good inner rest-good = plain-good reading g line (Request block) rest s indices within sound in-range whole good rest-good
next-good reading g at line (Put block how from) rest s indices within sound in-range whole good inner rest-good = plain-good reading g line (Put block how from) rest s indices within sound in-range whole good rest-good
next-good reading g at line (Prepare block how from) rest s indices within sound in-range whole good inner rest-good = plain-good reading g line (Prepare block how from) rest s indices within sound in-range whole good rest-good
next-good reading g at line (Create array) rest s indices within sound in-range whole good inner rest-good = plain-good reading g line (Create array) rest s indices within sound in-range whole good rest-good
next-good reading g at line (Delete array) rest s indices within sound in-range whole good inner rest-good = plain-good reading g line (Delete array) rest s indices within sound in-range whole good rest-good
next-good reading g at line (Allocate array slots) rest s indices within sound in-range whole good inner rest-good = plain-good reading g line (Allocate array slots) rest s indices within sound in-range whole good rest-good
next-good reading g at line (Deallocate array slots) rest s indices within sound in-range whole good inner rest-good = plain-good reading g line (Deallocate array slots) rest s indices within sound in-range whole good rest-good
next-good reading g at line (Collective into from) rest s indices within sound in-range whole good inner rest-good = plain-good reading g line (Collective into from) rest s indices within sound in-range whole good rest-good
next-good reading g at line SipBarrier rest s indices within sound in-range whole good inner rest-good = plain-good reading g line SipBarrier rest s indices within sound in-range whole good rest-good
next-good reading g at line ServerBarrier rest s indices within sound in-range whole good inner rest-good = plain-good reading g line ServerBarrier rest s indices within sound in-range whole good rest-good
next-good reading g at line (Print text) rest s indices within sound in-range whole good inner rest-good = plain-good reading g line (Print text) rest s indices within sound in-range whole good rest-good
next-good reading g at line (PrintScalar scalar) rest s indices within sound in-range whole good inner rest-good = plain-good reading g line (PrintScalar scalar) rest s indices within sound in-range whole good rest-good
next-good reading g at line (Integrals block) rest s indices within sound in-range whole good inner rest-good = plain-good reading g line (Integrals block) rest s indices within sound in-range whole good rest-good

-- one step of good work
pub step-good : (reading : Reading) (g : Setting) → IsSound g → (rest : Rest) (s : State) → GoodWork g rest s → GoodAt g (step_from reading g rest s)
step-good reading g sound (Over at) s work = tt
step-good reading g sound (Next at line form rest) s work =
    let good = work.good in
    next-good reading g at line form rest s work.indices good.0 sound work.in_range work.whole good.1 good.2 good.3
step-good reading g sound (Turn loop last rest) s work =
    let good = work.good in
    turned-good g (nat_lt (value_of s.own loop.index) last) loop last rest s work.indices good.0 good.1 refl work.in_range work.whole good.2 good.3 good.4 good.5 good.6 good.7
step-good reading g sound (Join at rest) s work = record { indices = work.indices; in_range = work.in_range; good = work.good; whole = work.whole }
step-good reading g sound (Back at values rest) s work =
    let good = work.good in
    record { indices = good.0; in_range = good.2; good = good.3; whole = values-whole g s values good.1 work.whole }
step-good reading g sound (Within pardo number rest) s work =
    let good = work.good in
    within-good g (nat_lt number (volume (box_of g.spaces pardo.indices))) pardo number rest s good.0 refl (fewer g good.0 work.indices s.own.values good.1 work.in_range) work.whole good.2 good.3 good.4 good.5 good.6

-- what follows a step
go-good : (g : Setting) (next : Work → Stepped) → ((w : Work) → GoodWork g w.rest w.state → GoodAt g (next w)) → (t : Stepped) → GoodAt g t → GoodAt g (go_on next t)
go-good g next each (Moved w) good = each w good
go-good g next each (Halted trap s) good = good
go-good g next each Ended good = tt

-- so many steps
pub steps-good : (reading : Reading) (g : Setting) → IsSound g → (count : ℕ) (rest : Rest) (s : State) → GoodWork g rest s → GoodAt g (steps reading g count (record { rest = rest; state = s }))
steps-good reading g sound zero rest s work = work
steps-good reading g sound (suc n) rest s work =
    go-good g (steps reading g n) (λ w good. steps-good reading g sound n w.rest w.state good) (step_from reading g rest s) (step-good reading g sound rest s work)

-- where any number of steps leads
pub steps-lead : (reading : Reading) (g : Setting) (count : ℕ) → IsSound g → GoodAt g (steps reading g count (start_work g))
steps-lead reading g count sound =
    steps-good reading g sound count (push 0 g.program.body (Over (stop_at g.program))) (start_state g)
    (record { indices = []; in_range = λ i has. absurd (never has); good = good-pushed g [] false 0 g.program.body (Over (stop_at g.program)) (body-good g sound) tt; whole = start-whole g sound })

-- each state that is reached is whole
pub reached-states-are-whole : ReachedStatesAreWhole
reached-states-are-whole g s sound (reading, count, stands) = by-steps (steps reading g count (start_work g)) (steps-lead reading g count sound) stands
  where
    by-steps : (t : Stepped) → GoodAt g t → StandsAt t s → IsWhole g s
    by-steps (Moved w) good is = subst (IsWhole g) is good.whole
    by-steps (Halted trap u) good is = subst (IsWhole g) is good
    by-steps Ended good is = absurd is

-- the state in which a program ends or traps is reached
pub outcomes-are-reached : OutcomesAreReached
outcomes-are-reached reading g sound =
    let reaches = reaches_fold reading g sound.setting.proper sound.setting.granted in
    (reading, reaches.0, subst (λ t. StandsAt t (state_of (meaning reading g))) (sym reaches.1) (stands-done (meaning reading g) (Over (stop_at g.program))))
  where
    stands-done : (o : Outcome) (rest : Rest) → StandsAt (done o rest) (state_of o)
    stands-done (Went s) rest = refl
    stands-done (Stopped trap s) rest = refl
