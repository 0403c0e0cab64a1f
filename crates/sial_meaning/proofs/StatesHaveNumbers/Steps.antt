-- Steps from a program's start lead from states that have numbers alone to such states.
use Rattle.std.proofs.Common.{◌≡◌, ℕ, zero, suc, ◌+◌, ◌<◌, ◌≤◌, List, [], ◌∷◌, map, length, slice_index_or, slice_set, replicate, Bool, true, false, nat_lt, Option, None, Ok, Err, refl, subst, arith}
use Rattle.std.proofs.lemmas.Bool.{ltb-true}
use Rattle.std.specs.Option.{IfSome}
use Rattle.sial_syntax.specs.declared.classes.ScalarClass.{ScalarClass}
use Rattle.sial_syntax.specs.declared.classes.ScalarClass.TheVariants.{Replicated, Private, Partial}
use Rattle.sial_syntax.specs.declared.classes.Side.{Side}
use Rattle.sial_syntax.specs.declared.classes.Side.TheVariants.{Outer, Inner, Unused}
use Rattle.sial_syntax.specs.Boxes.{volume, tuple_at}
use Rattle.sial_syntax.specs.BoxLaws.{AreSegments}
use Rattle.sial_syntax.specs.Numbering.{size, sizes, stop_at, entry_of}
use Rattle.sial_syntax.specs.Spaces.{first_of, count_of, box_of, onto_firsts, pieces_of}
use Rattle.sial_syntax.specs.Tree.{Block, End, Then, Plain, Do, DoIn, Pardo, If, IfElse, Call, Assign, Get, Request, Put, Prepare, Create, Delete, Allocate, Deallocate, Collective, SipBarrier, ServerBarrier, Print, PrintScalar, Integrals}
use Rattle.sial_syntax.proofs.RankLemmas.{numbers-within}
use Rattle.sial_meaning.specs.Control.{Led, Goes, Halts, entered, turned, branched, called, begun, went_within, loop_at, form_control}
use Rattle.sial_meaning.specs.LocalStep.{Answer}
use Rattle.sial_meaning.specs.Meaning.{condition, all_met, taken_up, call_depth}
use Rattle.sial_meaning.specs.NumberStates.{IsNumber, AreNumbers, HoldsNumbers, OwnHasNumbers, HasNumbers, ReachedStatesHaveNumbers}
use Rattle.sial_meaning.specs.Own.{Own, value_of, bound, all_bound, with_values, unset_if_private, unset_if_inner, unset}
use Rattle.sial_meaning.specs.Rest.{LoopAt, PardoAt, Rest, Over, Next, Turn, Join, Back, Within, push, depth}
use Rattle.sial_meaning.specs.Setting.{Setting, scalar_class, side_of, procedure_body}
use Rattle.sial_meaning.specs.Sound.{IsSound}
use Rattle.sial_meaning.specs.State.{State, start_state}
use Rattle.sial_meaning.specs.Statement.{Outcome, Went, Stopped, Reading, statement}
use Rattle.sial_meaning.specs.Step.{Stepped, Moved, Halted, Ended, led, done, step_from, go_on, steps, start_work}
use Rattle.sial_meaning.specs.WholeStates.{StandsAt}
use Rattle.sial_meaning.proofs.StatesHaveNumbers.Lists.{none-number, zero-numbers, replaced-numbers, mapped-has}
use Rattle.sial_meaning.proofs.StatesHaveNumbers.Start.{BodyHas, InnerHas, program-has, procedure-has, start-has, pieces-few, segments-small}
use Rattle.sial_meaning.proofs.StatesHaveNumbers.Statements.{FormHas, OutcomeHas, statement-has}

-- the rest of the work has numbers alone: those that its statements write out, the ends of its loops, and index numbers that are kept
abbrev pub RestHas : Rest → Type 0
RestHas (Over at) = Unit {0}
RestHas (Next at line form rest) = FormHas form × InnerHas form × RestHas rest
RestHas (Turn loop last rest) = BodyHas loop.body × IsNumber last × RestHas rest
RestHas (Join at rest) = RestHas rest
RestHas (Back at values rest) = AreNumbers values × RestHas rest
RestHas (Within pardo number rest) = BodyHas pardo.body × RestHas rest

-- where control goes
abbrev pub LedHas : Led → Type 0
LedHas (Goes rest own) = RestHas rest × OwnHasNumbers own
LedHas (Halts trap) = Unit {0}

-- where a step leads
abbrev pub StepHas : Stepped → Type 0
StepHas (Moved w) = RestHas w.rest × HasNumbers w.state
StepHas (Halted trap s) = HasNumbers s
StepHas Ended = Unit {0}

-- statements before the rest
pub pushed-has : (at : ℕ) (body : Block) (rest : Rest) → BodyHas body → RestHas rest → RestHas (push at body rest)
pushed-has at End rest body-is rest-is = rest-is
pushed-has at (Then line form more) rest body-is rest-is = (body-is.0, body-is.1, pushed-has (at + size form) more rest body-is.2 rest-is)

-- other index numbers
values-have : (own : Own) (values : List ℕ) → OwnHasNumbers own → AreNumbers values → OwnHasNumbers (with_values values own)
values-have own values has are = record { values = are; scalars = has.scalars; statics = has.statics; temps = has.temps; locals = has.locals }

-- one index bound
bound-has : (own : Own) (index number : ℕ) → OwnHasNumbers own → IsNumber number → OwnHasNumbers (bound index number own)
bound-has own index number has is = values-have own (slice_set own.values index number) has (replaced-numbers own.values index number has.values is)

-- several indices bound to numbers of their segments
segments-bound : (g : Setting) → IsSound g → (indices numbers : List ℕ) (own : Own) → AreSegments g.spaces indices numbers → OwnHasNumbers own → OwnHasNumbers (all_bound indices numbers own)
segments-bound g sound [] numbers own are has = has
segments-bound g sound (i ∷ is) [] own are has = has
segments-bound g sound (i ∷ is) (n ∷ ns) own are has =
    let most = segments-small g sound i in
    let below = are.1 in
    segments-bound g sound is ns (bound i n own) are.2 (bound-has own i n has (omega (arith, most, below)))

-- several indices not bound any longer
unbound-has : (indices others : List ℕ) (own : Own) → OwnHasNumbers own → OwnHasNumbers (all_bound indices (map (λ i. 0) others) own)
unbound-has [] others own has = has
unbound-has (i ∷ is) [] own has = has
unbound-has (i ∷ is) (j ∷ js) own has = unbound-has is js (bound i 0 own) (bound-has own i 0 has none-number)

-- what is unset
private-has : (class : ScalarClass) (x : Option ℕ) → IfSome x IsNumber → IfSome (unset_if_private class x) IsNumber
private-has Replicated x has = has
private-has Private x has = tt
private-has Partial x has = has

inner-has : (side : Side) (row : List (Option (List ℕ))) → ((n : ℕ) → IfSome (slice_index_or row n None) AreNumbers) → (n : ℕ) → IfSome (slice_index_or (unset_if_inner side row) n None) AreNumbers
inner-has Outer row has n = has n
inner-has Inner row has n = mapped-has (λ x. IfSome x AreNumbers) (λ block. None) row None (λ block. tt) tt n
inner-has Unused row has n = has n

unset-has : (g : Setting) (own : Own) → OwnHasNumbers own → OwnHasNumbers (unset g own)
unset-has g own has = record {
  values = has.values;
  scalars = mapped-has (λ x. IfSome x IsNumber) (λ s. unset_if_private (scalar_class g s) (slice_index_or own.scalars s None)) _ None
      (λ s. private-has (scalar_class g s) (slice_index_or own.scalars s None) (has.scalars s)) tt;
  statics = has.statics;
  temps = mapped-has (λ x. IfSome x HoldsNumbers) (λ held. None) own.temps None (λ held. tt) tt;
  locals = mapped-has (λ row. (n : ℕ) → IfSome (slice_index_or row n None) AreNumbers) (λ a. unset_if_inner (side_of g a) (slice_index_or own.locals a [])) _ []
      (λ a. inner-has (side_of g a) (slice_index_or own.locals a []) (has.locals a)) (λ n. tt);
}

-- a loop entered
entered-has : (loop : LoopAt) (first count : ℕ) (rest : Rest) (own : Own) → BodyHas loop.body → RestHas rest → OwnHasNumbers own → first + count ≤ 4097 → LedHas (entered loop first count rest own)
entered-has loop first zero rest own body rest-is has few = (rest-is, bound-has own loop.index 0 has none-number)
entered-has loop first (suc n) rest own body rest-is has few = (
  pushed-has (loop.head + 1) loop.body (Turn loop (first + n) rest) body (body, omega (arith, few), rest-is),
  bound-has own loop.index first has (omega (arith, few)),
)

-- the end of a loop's body
turned-has : (more : Bool) (loop : LoopAt) (last : ℕ) (rest : Rest) (own : Own) → nat_lt (value_of own loop.index) last ≡ more → BodyHas loop.body → IsNumber last → RestHas rest → OwnHasNumbers own → LedHas (turned more loop last rest own)
turned-has true loop last rest own is body end rest-is has =
    let less : value_of own loop.index < last = ltb-true (value_of own loop.index) last is in (
      pushed-has (loop.head + 1) loop.body (Turn loop last rest) body (body, end, rest-is),
      bound-has own loop.index (value_of own loop.index + 1) has (omega (arith, less, end)),
    )
turned-has false loop last rest own is body end rest-is has = (rest-is, bound-has own loop.index 0 has none-number)

-- a branch
branched-has : (line : ℕ) (answer : Answer Bool) (met unmet : Rest) (own : Own) → RestHas met → RestHas unmet → OwnHasNumbers own → LedHas (branched line answer met unmet own)
branched-has line (Ok true) met unmet own first second has = (first, has)
branched-has line (Ok false) met unmet own first second has = (second, has)
branched-has line (Err kind) met unmet own first second has = tt

-- a call
called-has : (g : Setting) → IsSound g → (more : Bool) (procedure : ℕ) (rest : Rest) (own : Own) → RestHas rest → OwnHasNumbers own → LedHas (called g more procedure rest own)
called-has g sound true procedure rest own rest-is has = (
  pushed-has (entry_of g.program procedure) (procedure_body g procedure) (Back (entry_of g.program procedure + sizes (procedure_body g procedure)) own.values rest)
      (procedure-has g sound.setting.proper procedure) (has.values, rest-is),
  values-have own (replicate (length own.values) 0) has (zero-numbers (length own.values)),
)
called-has g sound false procedure rest own rest-is has = (rest-is, has)

-- a tuple taken up
begun-has : (met : Bool) (pardo : PardoAt) (number : ℕ) (rest : Rest) (own : Own) → BodyHas pardo.body → RestHas rest → OwnHasNumbers own → LedHas (begun met pardo number rest own)
begun-has true pardo number rest own body rest-is has = (pushed-has (pardo.head + 1 + length pardo.wheres) pardo.body (Within pardo (number + 1) rest) body (body, rest-is), has)
begun-has false pardo number rest own body rest-is has = ((body, rest-is), has)

-- the end of a pardo's body
pub within-has : (g : Setting) → IsSound g → (more : Bool) (pardo : PardoAt) (number : ℕ) (rest : Rest) (own : Own) → nat_lt number (volume (box_of g.spaces pardo.indices)) ≡ more → BodyHas pardo.body → RestHas rest → OwnHasNumbers own
    → LedHas (went_within g more pardo number rest own)
within-has g sound true pardo number rest own is body rest-is has =
    let held = taken_up g pardo.indices (tuple_at (box_of g.spaces pardo.indices) number) own in
    let below : number < volume (box_of g.spaces pardo.indices) = ltb-true number (volume (box_of g.spaces pardo.indices)) is in
    begun-has (all_met held pardo.wheres) pardo number rest held body rest-is
    (segments-bound g sound pardo.indices (onto_firsts g.spaces pardo.indices (tuple_at (box_of g.spaces pardo.indices) number)) (unset g own) (numbers-within g.spaces pardo.indices number below) (unset-has g own has))
within-has g sound false pardo number rest own is body rest-is has = (rest-is, unbound-has pardo.indices pardo.indices (unset g own) (unset-has g own has))

-- control at a statement
form-has : (g : Setting) → IsSound g → (at line : ℕ) (form : Plain) (rest : Rest) (own : Own) → InnerHas form → RestHas rest → OwnHasNumbers own → LedHas (form_control g at line form rest own)
form-has g sound at line (Do index body) rest own inner rest-is has = entered-has (loop_at at index body) (first_of g.spaces index) (count_of g.spaces index) rest own inner rest-is has (segments-small g sound index)
form-has g sound at line (DoIn sub index body) rest own inner rest-is has =
    let few = pieces-few g sound sub (value_of own index) in
    entered-has (loop_at at sub body) 1 (pieces_of g.spaces sub (value_of own index)) rest own inner rest-is has (omega (arith, few))
form-has g sound at line (Pardo indices wheres body) rest own inner rest-is has = ((inner, rest-is), unset-has g own has)
form-has g sound at line (If test body) rest own inner rest-is has =
    branched-has line (condition own test) (push (at + 1) body (Join (at + 1 + sizes body) rest)) rest own (pushed-has (at + 1) body (Join (at + 1 + sizes body) rest) inner rest-is) rest-is has
form-has g sound at line (IfElse test body other) rest own inner rest-is has =
    branched-has line (condition own test) (push (at + 1) body (Join (at + 1 + sizes body) rest)) (push (at + 2 + sizes body) other (Join (at + 2 + sizes body + sizes other) rest)) own
    (pushed-has (at + 1) body (Join (at + 1 + sizes body) rest) inner.0 rest-is)
    (pushed-has (at + 2 + sizes body) other (Join (at + 2 + sizes body + sizes other) rest) inner.1 rest-is) has
form-has g sound at line (Call procedure) rest own inner rest-is has = called-has g sound (nat_lt (depth rest) call_depth) procedure rest own rest-is has
form-has g sound at line form rest own inner rest-is has = (rest-is, has)

-- where control leads in a state
pub led-has : (s : State) (to : Led) → HasNumbers s → LedHas to → StepHas (led s to)
led-has s (Goes rest own) has to = (to.0, record { own = to.1; partials = has.partials; shared = has.shared; copies = has.copies })
led-has s (Halts trap) has to = has

-- where a statement leads
done-has : (outcome : Outcome) (rest : Rest) → OutcomeHas outcome → RestHas rest → StepHas (done outcome rest)
done-has (Went s) rest has rest-is = (rest-is, has)
done-has (Stopped trap s) rest has rest-is = has

-- a statement at the head
next-has : (reading : Reading) (g : Setting) → IsSound g → (at line : ℕ) (form : Plain) (rest : Rest) (s : State) → FormHas form → InnerHas form → RestHas rest → HasNumbers s → StepHas (step_from reading g (Next at line form rest) s)
next-has reading g sound at line (Do index body) rest s out inner rest-is has = led-has s (form_control g at line (Do index body) rest s.own) has (form-has g sound at line (Do index body) rest s.own inner rest-is has.own)
next-has reading g sound at line (DoIn sub index body) rest s out inner rest-is has =
    led-has s (form_control g at line (DoIn sub index body) rest s.own) has (form-has g sound at line (DoIn sub index body) rest s.own inner rest-is has.own)
next-has reading g sound at line (Pardo indices wheres body) rest s out inner rest-is has =
    led-has s (form_control g at line (Pardo indices wheres body) rest s.own) has (form-has g sound at line (Pardo indices wheres body) rest s.own inner rest-is has.own)
next-has reading g sound at line (If test body) rest s out inner rest-is has = led-has s (form_control g at line (If test body) rest s.own) has (form-has g sound at line (If test body) rest s.own inner rest-is has.own)
next-has reading g sound at line (IfElse test body other) rest s out inner rest-is has =
    led-has s (form_control g at line (IfElse test body other) rest s.own) has (form-has g sound at line (IfElse test body other) rest s.own inner rest-is has.own)
next-has reading g sound at line (Call procedure) rest s out inner rest-is has = led-has s (form_control g at line (Call procedure) rest s.own) has (form-has g sound at line (Call procedure) rest s.own inner rest-is has.own)
next-has reading g sound at line (Assign to op right) rest s out inner rest-is has = done-has (statement reading g line (Assign to op right) s) rest (statement-has reading g line (Assign to op right) s out has) rest-is
next-has reading g sound at line (Get block) rest s out inner rest-is has = done-has (statement reading g line (Get block) s) rest (statement-has reading g line (Get block) s out has) rest-is
next-has reading g sound at line (Request block) rest s out inner rest-is has = done-has (statement reading g line (Request block) s) rest (statement-has reading g line (Request block) s out has) rest-is
next-has reading g sound at line (Put block how from) rest s out inner rest-is has = done-has (statement reading g line (Put block how from) s) rest (statement-has reading g line (Put block how from) s out has) rest-is
next-has reading g sound at line (Prepare block how from) rest s out inner rest-is has = done-has (statement reading g line (Prepare block how from) s) rest (statement-has reading g line (Prepare block how from) s out has) rest-is
next-has reading g sound at line (Create array) rest s out inner rest-is has = done-has (statement reading g line (Create array) s) rest (statement-has reading g line (Create array) s out has) rest-is
next-has reading g sound at line (Delete array) rest s out inner rest-is has = done-has (statement reading g line (Delete array) s) rest (statement-has reading g line (Delete array) s out has) rest-is
next-has reading g sound at line (Allocate array slots) rest s out inner rest-is has = done-has (statement reading g line (Allocate array slots) s) rest (statement-has reading g line (Allocate array slots) s out has) rest-is
next-has reading g sound at line (Deallocate array slots) rest s out inner rest-is has = done-has (statement reading g line (Deallocate array slots) s) rest (statement-has reading g line (Deallocate array slots) s out has) rest-is
next-has reading g sound at line (Collective into from) rest s out inner rest-is has = done-has (statement reading g line (Collective into from) s) rest (statement-has reading g line (Collective into from) s out has) rest-is
next-has reading g sound at line SipBarrier rest s out inner rest-is has = done-has (statement reading g line SipBarrier s) rest (statement-has reading g line SipBarrier s out has) rest-is
next-has reading g sound at line ServerBarrier rest s out inner rest-is has = done-has (statement reading g line ServerBarrier s) rest (statement-has reading g line ServerBarrier s out has) rest-is
next-has reading g sound at line (Print text) rest s out inner rest-is has = done-has (statement reading g line (Print text) s) rest (statement-has reading g line (Print text) s out has) rest-is
next-has reading g sound at line (PrintScalar scalar) rest s out inner rest-is has = done-has (statement reading g line (PrintScalar scalar) s) rest (statement-has reading g line (PrintScalar scalar) s out has) rest-is
next-has reading g sound at line (Integrals block) rest s out inner rest-is has = done-has (statement reading g line (Integrals block) s) rest (statement-has reading g line (Integrals block) s out has) rest-is

-- one step
pub step-has : (reading : Reading) (g : Setting) → IsSound g → (rest : Rest) (s : State) → RestHas rest → HasNumbers s → StepHas (step_from reading g rest s)
step-has reading g sound (Over at) s rest-is has = tt
step-has reading g sound (Next at line form rest) s rest-is has = next-has reading g sound at line form rest s rest-is.0 rest-is.1 rest-is.2 has
step-has reading g sound (Turn loop last rest) s rest-is has =
    led-has s (turned (nat_lt (value_of s.own loop.index) last) loop last rest s.own) has
    (turned-has (nat_lt (value_of s.own loop.index) last) loop last rest s.own refl rest-is.0 rest-is.1 rest-is.2 has.own)
step-has reading g sound (Join at rest) s rest-is has = (rest-is, has)
step-has reading g sound (Back at values rest) s rest-is has = led-has s (Goes rest (with_values values s.own)) has (rest-is.1, values-have s.own values has.own rest-is.0)
step-has reading g sound (Within pardo number rest) s rest-is has =
    led-has s (went_within g (nat_lt number (volume (box_of g.spaces pardo.indices))) pardo number rest s.own) has
    (within-has g sound (nat_lt number (volume (box_of g.spaces pardo.indices))) pardo number rest s.own refl rest-is.0 rest-is.1 has.own)

-- so many steps
pub steps-have : (reading : Reading) (g : Setting) → IsSound g → (count : ℕ) (rest : Rest) (s : State) → RestHas rest → HasNumbers s → StepHas (steps reading g count (record { rest = rest; state = s }))
steps-have reading g sound zero rest s rest-is has = (rest-is, has)
steps-have reading g sound (suc n) rest s rest-is has =
    further (step_from reading g rest s) (step-has reading g sound rest s rest-is has) (λ r t r-is t-has. steps-have reading g sound n r t r-is t-has)
  where
    further : (to : Stepped) → StepHas to → ((r : Rest) (t : State) → RestHas r → HasNumbers t → StepHas (steps reading g n (record { rest = r; state = t }))) → StepHas (go_on (steps reading g n) to)
    further (Moved w) has-to more = more w.rest w.state has-to.0 has-to.1
    further (Halted trap t) has-to more = has-to
    further Ended has-to more = tt

-- the state in which so many steps stand
stands-have : (to : Stepped) (s : State) → StandsAt to s → StepHas to → HasNumbers s
stands-have (Moved w) s at has = subst HasNumbers at has.1
stands-have (Halted trap t) s at has = subst HasNumbers at has
stands-have Ended s at has = absurd at

-- the states that steps reach from the start, and the outcomes, have numbers alone
pub reached-states-have-numbers : ReachedStatesHaveNumbers
reached-states-have-numbers g s sound reached =
    stands-have (steps reached.0 g reached.1 (start_work g)) s reached.2
    (steps-have reached.0 g sound reached.1 (push 0 g.program.body (Over (stop_at g.program))) (start_state g)
    (pushed-has 0 g.program.body (Over (stop_at g.program)) (program-has g.program sound.setting.proper) tt) (start-has g sound))
