-- Each step of good work lowers what is owed.
use Rattle.std.proofs.Common.{◌≡◌, ℕ, ◌+◌, ◌-◌, ◌*◌, List, [], ◌∷◌, Bool, true, false, ◌&&◌, ◌||◌, not, nat_lt, refl, sym, ap, ◌∙◌, arith}
use Rattle.sial_syntax.specs.Agreeing.{contains, share_any, has_twice, is_sub_of}
use Rattle.sial_syntax.specs.Boxes.{volume}
use Rattle.sial_syntax.specs.Numbering.{sizes}
use Rattle.sial_syntax.specs.Parts.{indices_bound}
use Rattle.sial_syntax.specs.Proper.{has_index, proper_body}
use Rattle.sial_syntax.specs.Spaces.{first_of, count_of, box_of, pieces_of}
use Rattle.sial_syntax.specs.Tree.{Block, Plain, Do, DoIn, Pardo, If, IfElse, Call, Assign, Get, Request, Put, Prepare, Create, Delete, Allocate, Deallocate, Collective, SipBarrier, ServerBarrier, Print, PrintScalar, Integrals}
use Rattle.sial_meaning.specs.Control.{loop_at}
use Rattle.sial_meaning.specs.Costs.{most_pieces}
use Rattle.sial_meaning.specs.Meaning.{call_depth, condition}
use Rattle.sial_meaning.specs.Own.{value_of}
use Rattle.sial_meaning.specs.Rest.{Rest, Over, Next, Turn, Join, Back, Within, depth, push}
use Rattle.sial_meaning.specs.Setting.{Setting}
use Rattle.sial_meaning.specs.Sight.{cuts}
use Rattle.sial_meaning.specs.Sound.{IsSound}
use Rattle.sial_meaning.specs.State.{State}
use Rattle.sial_meaning.specs.Statement.{Outcome, Went, Stopped, Reading, statement}
use Rattle.sial_meaning.specs.Step.{done, step_from}
use Rattle.sial_meaning.proofs.AcceptedInOtherWords.Pairs.{holds-so}
use Rattle.sial_meaning.proofs.Granted.Rules.{cuts-as-said}
use Rattle.sial_meaning.proofs.Granted.Visits.{Good}
use Rattle.sial_meaning.proofs.StatesAreWhole.Rest.{GoodWork, place-there}
use Rattle.sial_meaning.proofs.StepsReachTheFold.KeptNumbers.{GoesWith, statement_goes}
use Rattle.sial_meaning.proofs.StepsReachTheFold.Rules.{both, neither}
use Rattle.sequential_costs.proofs.StepsAreFew.Control.{Lowered, entered_lowers, turned_lowers, branched_lowers, called_lowers, within_lowers}
use Rattle.sequential_costs.proofs.StepsAreFew.Owed.{body_steps, owed, pushed}
use Rattle.sequential_costs.proofs.StepsAreFew.Pieces.{pieces_few}

-- a statement that holds no other
plain_lowers : (reading : Reading) (g : Setting) (line : ℕ) (form : Plain) (rest : Rest) (s : State) → Lowered g (1 + owed g s.own.values rest) (done (statement reading g line form s) rest)
plain_lowers reading g line form rest s = by (statement reading g line form s) (statement_goes reading g line form s)
  where
    by : (o : Outcome) → GoesWith s.own.values o → Lowered g (1 + owed g s.own.values rest) (done o rest)
    by (Went t) kept = let same : owed g t.own.values rest ≡ owed g s.own.values rest = ap (λ values. owed g values rest) kept in omega (arith, same)
    by (Stopped trap t) kept = tt

-- a loop's index isn't bound where it stands
loop_out : (g : Setting) (line index : ℕ) (form : Plain) (indices : List ℕ) (within : Bool) → Good g (record { line = line; form = form; bound = indices; within = within }) → indices_bound form ≡ index ∷ [] → contains indices index ≡ false
loop_out g line index form indices within good is =
    let out = (neither (share_any (indices_bound form) indices) (has_twice (indices_bound form)) good.rebound).0 in
    (neither (contains indices index) false (ap (λ xs. share_any xs indices) (sym is) ∙ out)).0

-- the index whose segments a loop cuts is bound, and is cut by the loop's
record IsCut (g : Setting) (sub index : ℕ) (indices : List ℕ) : Type 0 where
  cut : cuts g.spaces sub index ≡ true
  bound : contains indices index ≡ true

cut_there : (g : Setting) (line sub index : ℕ) (body : Block) (indices : List ℕ) (within : Bool) → IsSound g → Good g (record { line = line; form = DoIn sub index body; bound = indices; within = within }) → IsCut g sub index indices
cut_there g line sub index body indices within sound good =
    let loops = (neither (not (is_sub_of g.program sub index) || false) ((false || false) || (false || false)) good.kind).0 in
    let said : is_sub_of g.program sub index ≡ true = holds-so (is_sub_of g.program sub index) (neither (not (is_sub_of g.program sub index)) false loops).0 in
    let used = holds-so (contains indices index && true) good.unbound in
    record { cut = cuts-as-said g sound sub index ∙ said; bound = (both (contains indices index) true used).0 }

-- a statement at the head
next_lowers : (reading : Reading) (g : Setting) (at line : ℕ) (form : Plain) (rest : Rest) (s : State) (work : GoodWork g (Next at line form rest) s) → IsSound g → Lowered g (owed g s.own.values (Next at line form rest)) (step_from reading g (Next at line form rest) s)
next_lowers reading g at line (Do index body) rest s work sound =
    let good = work.good in
    entered_lowers g (loop_at at index body) (first_of g.spaces index) (count_of g.spaces index) (count_of g.spaces index) rest s work.indices (omega arith)
    (place-there g s index (both (has_index g.program index) (proper_body g.program body) good.1.proper).0 work.whole)
    (loop_out g line index (Do index body) work.indices good.0 good.1 refl) good.3
next_lowers reading g at line (DoIn sub index body) rest s work sound =
    let good = work.good in
    let is = cut_there g line sub index body work.indices good.0 sound good.1 in
    let few = pieces_few g sub index (value_of s.own index) sound is.cut (work.in_range index is.bound) in
    entered_lowers g (loop_at at sub body) 1 (pieces_of g.spaces sub (value_of s.own index)) (most_pieces g sub index) rest s work.indices few
    (place-there g s sub (both (has_index g.program sub) (has_index g.program index && proper_body g.program body) good.1.proper).0 work.whole)
    (loop_out g line sub (DoIn sub index body) work.indices good.0 good.1 refl) good.3
next_lowers reading g at line (Pardo indices wheres body) rest s work sound =
    let v = volume (box_of g.spaces indices) in
    let b = body_steps g rest body in
    let none : v - 0 ≡ v = omega arith in
    let all : (v - 0) * (1 + b) ≡ v * (1 + b) = ap (λ k. k * (1 + b)) none in
    omega (arith, all)
next_lowers reading g at line (If test body) rest s work sound =
    let met = pushed g s.own.values (at + 1) body (Join (at + 1 + sizes body) rest) in
    branched_lowers g (owed g s.own.values (Next at line (If test body) rest)) line (condition s.own test) (push (at + 1) body (Join (at + 1 + sizes body) rest)) rest s (omega (arith, met)) (omega arith)
next_lowers reading g at line (IfElse test body other) rest s work sound =
    let met = pushed g s.own.values (at + 1) body (Join (at + 1 + sizes body) rest) in
    let unmet = pushed g s.own.values (at + 2 + sizes body) other (Join (at + 2 + sizes body + sizes other) rest) in
    branched_lowers g (owed g s.own.values (Next at line (IfElse test body other) rest)) line (condition s.own test) (push (at + 1) body (Join (at + 1 + sizes body) rest)) (push (at + 2 + sizes body) other (Join (at + 2 + sizes body + sizes other) rest)) s
    (omega (arith, met)) (omega (arith, unmet))
next_lowers reading g at line (Call procedure) rest s work sound = called_lowers g (nat_lt (depth rest) call_depth) procedure rest s refl
next_lowers reading g at line (Assign to op right) rest s work sound = plain_lowers reading g line (Assign to op right) rest s
next_lowers reading g at line (Get block) rest s work sound = plain_lowers reading g line (Get block) rest s
next_lowers reading g at line (Request block) rest s work sound = plain_lowers reading g line (Request block) rest s
next_lowers reading g at line (Put block how from) rest s work sound = plain_lowers reading g line (Put block how from) rest s
next_lowers reading g at line (Prepare block how from) rest s work sound = plain_lowers reading g line (Prepare block how from) rest s
next_lowers reading g at line (Create array) rest s work sound = plain_lowers reading g line (Create array) rest s
next_lowers reading g at line (Delete array) rest s work sound = plain_lowers reading g line (Delete array) rest s
next_lowers reading g at line (Allocate array slots) rest s work sound = plain_lowers reading g line (Allocate array slots) rest s
next_lowers reading g at line (Deallocate array slots) rest s work sound = plain_lowers reading g line (Deallocate array slots) rest s
next_lowers reading g at line (Collective into from) rest s work sound = plain_lowers reading g line (Collective into from) rest s
next_lowers reading g at line SipBarrier rest s work sound = plain_lowers reading g line SipBarrier rest s
next_lowers reading g at line ServerBarrier rest s work sound = plain_lowers reading g line ServerBarrier rest s
next_lowers reading g at line (Print text) rest s work sound = plain_lowers reading g line (Print text) rest s
next_lowers reading g at line (PrintScalar scalar) rest s work sound = plain_lowers reading g line (PrintScalar scalar) rest s
next_lowers reading g at line (Integrals block) rest s work sound = plain_lowers reading g line (Integrals block) rest s

-- one step of good work
pub step_lowers : (reading : Reading) (g : Setting) (rest : Rest) (s : State) → GoodWork g rest s → IsSound g → Lowered g (owed g s.own.values rest) (step_from reading g rest s)
step_lowers reading g (Over at) s work sound = tt
step_lowers reading g (Next at line form rest) s work sound = next_lowers reading g at line form rest s work sound
step_lowers reading g (Turn loop last rest) s work sound =
    let good = work.good in
    turned_lowers g (nat_lt (value_of s.own loop.index) last) loop last rest s good.0 refl (place-there g s loop.index good.4 work.whole) good.3 good.7
step_lowers reading g (Join at rest) s work sound = omega arith
step_lowers reading g (Back at values rest) s work sound = omega arith
step_lowers reading g (Within pardo number rest) s work sound =
    let good = work.good in
    within_lowers g (nat_lt number (volume (box_of g.spaces pardo.indices))) pardo number rest s good.0 refl good.2 good.6
