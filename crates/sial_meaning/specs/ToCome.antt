-- What is still to come of an iteration: the fold of the rest of its work, and one step inside it.
use Rattle.std.specs.Prelude.{ℕ, zero, suc, ◌+◌, ◌-◌, List, [], ◌++◌}
use Rattle.sial_syntax.specs.Boxes.{numbers_from}
use Rattle.sial_meaning.specs.declared.trap.Trap.{Trap}
use Rattle.sial_meaning.specs.Control.{Led, Goes, Halts, depth_left, control}
use Rattle.sial_meaning.specs.Deeds.{Deed}
use Rattle.sial_meaning.specs.Next as next
use Rattle.sial_meaning.specs.Next.{Task, next_of}
use Rattle.sial_meaning.specs.Own.{Own, value_of, bound, with_values}
use Rattle.sial_meaning.specs.Ran.{View, Ran, Through, Broke, and_so, ran_over, ran_then, statement_ran, block_ran, form_ran, calls_ran}
use Rattle.sial_meaning.specs.Rest.{LoopAt, Rest, Over, Next, Turn, Join, Back, Within}
use Rattle.sial_meaning.specs.Setting.{Setting}

-- the numbers of a loop's index that are left
abbrev pub numbers_left : LoopAt → (last : ℕ) → Own → List ℕ
numbers_left loop last own = numbers_from (value_of own loop.index + 1) (last - value_of own loop.index)

-- the fold of the rest of an iteration's work, up to the end of the pardo's body
abbrev pub rest_ran : Setting → View → Rest → Own → Ran
rest_ran g view (Over at) own = Through [] own
rest_ran g view (Next at line form rest) own = and_so (form_ran g view (calls_ran g view (depth_left rest)) line form own) (rest_ran g view rest)
rest_ran g view (Turn loop last rest) own =
    and_so
    (ran_then (ran_over (numbers_left loop last own) (λ k o. block_ran g view (calls_ran g view (depth_left rest)) loop.body (bound loop.index k o)) own) (bound loop.index 0))
    (rest_ran g view rest)
rest_ran g view (Join at rest) own = rest_ran g view rest own
rest_ran g view (Back at values rest) own = rest_ran g view rest (with_values values own)
rest_ran g view (Within pardo number rest) own = Through [] own

-- where steps inside an iteration lead, with what they did: on to other work, to a trap, or nowhere at the end of the body
pub data Inner : Type 0 where
  On : (did : List Deed) → Rest → Own → Inner
  Out : (did : List Deed) → Trap → Own → Inner
  AtEnd : Inner

-- control inside an iteration, which does nothing outside
abbrev pub led_on : Own → Led → Inner
led_on own (Goes rest held) = On [] rest held
led_on own (Halts trap) = Out [] trap own

-- a statement inside an iteration
abbrev pub done_on : Ran → Rest → Inner
done_on (Through did own) rest = On did rest own
done_on (Broke did trap own) rest = Out did trap own

-- one step inside an iteration by what comes next; no pardo stands within one
abbrev pub inner_by : Setting → View → Task → Rest → Own → Inner
inner_by g view next.Control r own = led_on own (control g r own)
inner_by g view (next.Statement line form rest) r own = done_on (statement_ran g view line form own) rest
inner_by g view task r own = AtEnd

-- one step inside an iteration
abbrev pub inner_step : Setting → View → Rest → Own → Inner
inner_step g view r own = inner_by g view (next_of r) r own

-- what was done behind other deeds
abbrev pub inner_behind : List Deed → Inner → Inner
inner_behind first (On did rest own) = On (first ++ did) rest own
inner_behind first (Out did trap own) = Out (first ++ did) trap own
inner_behind first AtEnd = AtEnd

-- what follows a step
abbrev pub inner_on : Inner → (Rest → Own → Inner) → Inner
inner_on (On did rest own) more = inner_behind did (more rest own)
inner_on (Out did trap own) more = Out did trap own
inner_on AtEnd more = AtEnd

-- so many steps
abbrev pub inner_steps : Setting → View → (count : ℕ) → Rest → Own → Inner
inner_steps g view zero r own = On [] r own
inner_steps g view (suc n) r own = inner_on (inner_step g view r own) (inner_steps g view n)
