-- Where control and steps lead pardos in progress.
use Rattle.std.proofs.Common.{◌≡◌, ℕ, zero, suc, ◌+◌, ◌<◌, ◌≤◌, Bool, true, false, nat_lt, List, [], ◌∷◌, ◌++◌, length, Ok, Err, refl, sym, ap, ◌∙◌, subst, arith}
use Rattle.sial_syntax.specs.Boxes.{volume, tuple_at}
use Rattle.sial_syntax.specs.Numbering.{size, sizes, entry_of, stop_at}
use Rattle.sial_syntax.specs.Spaces.{first_of, count_of, box_of, pieces_of}
use Rattle.sial_syntax.specs.Tree.{Block, End, Then, Plain, Do, DoIn, Pardo, If, IfElse, Call, Assign, Get, Request, Put, Prepare, Create, Delete, Allocate, Deallocate, Collective, SipBarrier, ServerBarrier, Print, PrintScalar, Integrals}
use Rattle.sial_meaning.specs.Control.{Led, Goes, Halts, entered, turned, branched, called, begun, taken, went_within, loop_at, control}
use Rattle.sial_meaning.specs.LocalStep.{Answer}
use Rattle.sial_meaning.specs.Meaning.{condition, all_met, taken_up, left, call_depth}
use Rattle.sial_meaning.specs.Next as next
use Rattle.sial_meaning.specs.Next.{Task, next_of}
use Rattle.sial_meaning.specs.Own.{Own, value_of}
use Rattle.sial_meaning.specs.Rest.{LoopAt, PardoAt, Rest, Over, Next, Turn, Join, Back, Within, push, depth}
use Rattle.sial_meaning.specs.Setting.{Setting, procedure_body}
use Rattle.sial_meaning.specs.State.{State}
use Rattle.sial_meaning.specs.Statement.{Outcome, Went, Stopped, Reading, statement}
use Rattle.sial_meaning.specs.Step.{Work, Stepped, Moved, Halted, Ended, led, done, go_on, start_work, step, step_from, steps}
use Rattle.exec_alone.specs.Turns.{turns_of, TurnsBelow}
use Rattle.exec_alone.specs.Laws.{TurnsAreFew, TurnsStayBelow}

-- no pardo begins with a body
pub pushed-turns : (at : ℕ) (body : Block) (rest : Rest) → turns_of (push at body rest) ≡ turns_of rest
pushed-turns at End rest = refl
pushed-turns at (Then line form more) rest = pushed-turns (at + size form) more rest

pushed-below : (n at : ℕ) (body : Block) (rest : Rest) → TurnsBelow n rest → TurnsBelow n (push at body rest)
pushed-below n at End rest low = low
pushed-below n at (Then line form more) rest low = pushed-below n (at + size form) more rest low

-- control leads to work with these turns
abbrev pub TurnsAre : List ℕ → Led → Type 0
TurnsAre turns (Goes rest own) = turns ≡ turns_of rest
TurnsAre turns (Halts trap) = Unit {0}

-- loops, branches and calls leave turns as they are, and a pardo begins at the first tuple
abbrev pub TaskTurns : Task → List ℕ → Led → Type 0
TaskTurns next.Control turns to = TurnsAre turns to
TaskTurns next.Pardo turns to = TurnsAre (turns ++ 0 ∷ []) to
TaskTurns _ turns to = Unit {0}

entered-turns : (loop : LoopAt) (first count : ℕ) (rest : Rest) (own : Own) → TurnsAre (turns_of rest) (entered loop first count rest own)
entered-turns loop first zero rest own = refl
entered-turns loop first (suc n) rest own = sym (pushed-turns (loop.head + 1) loop.body (Turn loop (first + n) rest))

turned-turns : (more : Bool) (loop : LoopAt) (last : ℕ) (rest : Rest) (own : Own) → TurnsAre (turns_of rest) (turned more loop last rest own)
turned-turns true loop last rest own = sym (pushed-turns (loop.head + 1) loop.body (Turn loop last rest))
turned-turns false loop last rest own = refl

branched-turns : (line : ℕ) (answer : Answer Bool) (met unmet : Rest) (own : Own) (turns : List ℕ) → turns ≡ turns_of met → turns ≡ turns_of unmet → TurnsAre turns (branched line answer met unmet own)
branched-turns line (Ok true) met unmet own turns first second = first
branched-turns line (Ok false) met unmet own turns first second = second
branched-turns line (Err kind) met unmet own turns first second = tt

called-turns : (g : Setting) (more : Bool) (procedure : ℕ) (rest : Rest) (own : Own) → TurnsAre (turns_of rest) (called g more procedure rest own)
called-turns g true procedure rest own =
    sym (pushed-turns (entry_of g.program procedure) (procedure_body g procedure) (Back (entry_of g.program procedure + sizes (procedure_body g procedure)) own.values rest))
called-turns g false procedure rest own = refl

form-turns : (g : Setting) (at line : ℕ) (form : Plain) (rest : Rest) (own : Own) → TaskTurns (next_of (Next at line form rest)) (turns_of rest) (control g (Next at line form rest) own)
form-turns g at line (Do index body) rest own = entered-turns (loop_at at index body) (first_of g.spaces index) (count_of g.spaces index) rest own
form-turns g at line (DoIn sub index body) rest own = entered-turns (loop_at at sub body) 1 (pieces_of g.spaces sub (value_of own index)) rest own
form-turns g at line (Pardo indices wheres body) rest own = refl
form-turns g at line (If test body) rest own =
    branched-turns line (condition own test) (push (at + 1) body (Join (at + 1 + sizes body) rest)) rest own (turns_of rest)
    (sym (pushed-turns (at + 1) body (Join (at + 1 + sizes body) rest))) refl
form-turns g at line (IfElse test body other) rest own =
    branched-turns line (condition own test)
    (push (at + 1) body (Join (at + 1 + sizes body) rest))
    (push (at + 2 + sizes body) other (Join (at + 2 + sizes body + sizes other) rest))
    own (turns_of rest)
    (sym (pushed-turns (at + 1) body (Join (at + 1 + sizes body) rest)))
    (sym (pushed-turns (at + 2 + sizes body) other (Join (at + 2 + sizes body + sizes other) rest)))
form-turns g at line (Call procedure) rest own = called-turns g (nat_lt (depth rest) call_depth) procedure rest own
form-turns g at line form rest own = tt

-- turns where control leads
pub control-turns : (g : Setting) (rest : Rest) (own : Own) → TaskTurns (next_of rest) (turns_of rest) (control g rest own)
control-turns g (Over at) own = tt
control-turns g (Next at line form rest) own = form-turns g at line form rest own
control-turns g (Turn loop last rest) own = turned-turns (nat_lt (value_of own loop.index) last) loop last rest own
control-turns g (Join at rest) own = refl
control-turns g (Back at values rest) own = refl
control-turns g (Within pardo number rest) own = tt

-- where a step leads, turns are below a number
abbrev BelowAt : ℕ → Stepped → Type 0
BelowAt n (Moved w) = TurnsBelow n w.rest
BelowAt n (Halted trap s) = Unit {0}
BelowAt n Ended = Unit {0}

-- what is below a number is below a greater one
pub stay-below : TurnsStayBelow
stay-below n m (Over at) le low = tt
stay-below n m (Next at line form rest) le low = stay-below n m rest le low
stay-below n m (Turn loop last rest) le low = stay-below n m rest le low
stay-below n m (Join at rest) le low = stay-below n m rest le low
stay-below n m (Back at values rest) le low = stay-below n m rest le low
stay-below n m (Within pardo number rest) le low = (omega (arith, le, low.0), stay-below n m rest le low.1)

entered-below : (n : ℕ) (loop : LoopAt) (first count : ℕ) (rest : Rest) (s : State) → TurnsBelow n rest → BelowAt n (led s (entered loop first count rest s.own))
entered-below n loop first zero rest s low = low
entered-below n loop first (suc k) rest s low = pushed-below n (loop.head + 1) loop.body (Turn loop (first + k) rest) low

turned-below : (n : ℕ) (more : Bool) (loop : LoopAt) (last : ℕ) (rest : Rest) (s : State) → TurnsBelow n rest → BelowAt n (led s (turned more loop last rest s.own))
turned-below n true loop last rest s low = pushed-below n (loop.head + 1) loop.body (Turn loop last rest) low
turned-below n false loop last rest s low = low

branched-below : (n line : ℕ) (answer : Answer Bool) (met unmet : Rest) (s : State) → TurnsBelow n met → TurnsBelow n unmet → BelowAt n (led s (branched line answer met unmet s.own))
branched-below n line (Ok true) met unmet s first second = first
branched-below n line (Ok false) met unmet s first second = second
branched-below n line (Err kind) met unmet s first second = tt

called-below : (g : Setting) (n : ℕ) (more : Bool) (procedure : ℕ) (rest : Rest) (s : State) → TurnsBelow n rest → BelowAt n (led s (called g more procedure rest s.own))
called-below g n true procedure rest s low =
    pushed-below n (entry_of g.program procedure) (procedure_body g procedure) (Back (entry_of g.program procedure + sizes (procedure_body g procedure)) s.own.values rest) low
called-below g n false procedure rest s low = low

begun-below : (n : ℕ) (met : Bool) (pardo : PardoAt) (number : ℕ) (rest : Rest) (s : State) (own : Own) → number < n → TurnsBelow n rest → BelowAt (n + 1) (led s (begun met pardo number rest own))
begun-below n true pardo number rest s own less low =
    pushed-below (n + 1) (pardo.head + 1 + length pardo.wheres) pardo.body (Within pardo (number + 1) rest) (omega (arith, less), stay-below n (n + 1) rest (omega arith) low)
begun-below n false pardo number rest s own less low = (omega (arith, less), stay-below n (n + 1) rest (omega arith) low)

within-below : (g : Setting) (n : ℕ) (more : Bool) (pardo : PardoAt) (number : ℕ) (rest : Rest) (s : State) → number < n → TurnsBelow n rest → BelowAt (n + 1) (led s (went_within g more pardo number rest s.own))
within-below g n true pardo number rest s less low =
    let held : Own = taken_up g pardo.indices (tuple_at (box_of g.spaces pardo.indices) number) s.own in
    begun-below n (all_met held pardo.wheres) pardo number rest s held less low
within-below g n false pardo number rest s less low = stay-below n (n + 1) rest (omega arith) low

done-below : (n : ℕ) (o : Outcome) (rest : Rest) → TurnsBelow n rest → BelowAt n (done o rest)
done-below n (Went s) rest low = low
done-below n (Stopped trap s) rest low = tt

-- one more may be below where a step leads
more-at : (n : ℕ) (t : Stepped) → BelowAt n t → BelowAt (n + 1) t
more-at n (Moved w) low = stay-below n (n + 1) w.rest (omega arith) low
more-at n (Halted trap s) low = tt
more-at n Ended low = tt

module _ (reading : Reading) (g : Setting) (n : ℕ) where
  next-below : (at line : ℕ) (form : Plain) (rest : Rest) (s : State) → 0 < n → TurnsBelow n rest → BelowAt n (step_from reading g (Next at line form rest) s)
  next-below at line (Do index body) rest s some low = entered-below n (loop_at at index body) (first_of g.spaces index) (count_of g.spaces index) rest s low
  next-below at line (DoIn sub index body) rest s some low = entered-below n (loop_at at sub body) 1 (pieces_of g.spaces sub (value_of s.own index)) rest s low
  next-below at line (Pardo indices wheres body) rest s some low = (some, low)
  next-below at line (If test body) rest s some low =
      branched-below n line (condition s.own test) (push (at + 1) body (Join (at + 1 + sizes body) rest)) rest s
      (pushed-below n (at + 1) body (Join (at + 1 + sizes body) rest) low) low
  next-below at line (IfElse test body other) rest s some low =
      branched-below n line (condition s.own test)
      (push (at + 1) body (Join (at + 1 + sizes body) rest))
      (push (at + 2 + sizes body) other (Join (at + 2 + sizes body + sizes other) rest))
      s
      (pushed-below n (at + 1) body (Join (at + 1 + sizes body) rest) low)
      (pushed-below n (at + 2 + sizes body) other (Join (at + 2 + sizes body + sizes other) rest) low)
  next-below at line (Call procedure) rest s some low = called-below g n (nat_lt (depth rest) call_depth) procedure rest s low
  next-below at line form rest s some low = done-below n (statement reading g line form s) rest low

  step-below : (r : Rest) (s : State) → 0 < n → TurnsBelow n r → BelowAt (n + 1) (step_from reading g r s)
  step-below (Over at) s some low = tt
  step-below (Next at line form rest) s some low = more-at n (step_from reading g (Next at line form rest) s) (next-below at line form rest s some low)
  step-below (Turn loop last rest) s some low =
      more-at n (led s (turned (nat_lt (value_of s.own loop.index) last) loop last rest s.own)) (turned-below n (nat_lt (value_of s.own loop.index) last) loop last rest s low)
  step-below (Join at rest) s some low = stay-below n (n + 1) rest (omega arith) low
  step-below (Back at values rest) s some low = stay-below n (n + 1) rest (omega arith) low
  step-below (Within pardo number rest) s some low = within-below g n (nat_lt number (volume (box_of g.spaces pardo.indices))) pardo number rest s low.0 low.1

-- so many steps on
steps-below : (reading : Reading) (g : Setting) (count n : ℕ) (t : Stepped) → 0 < n → BelowAt n t → BelowAt (n + count) (go_on (steps reading g count) t)
steps-below reading g zero n (Moved w) some low = let none : n ≡ n + 0 = omega arith in subst (λ (k : ℕ). TurnsBelow k w.rest) none low
steps-below reading g (suc count) n (Moved w) some low =
    let same : n + 1 + count ≡ n + suc count = omega arith in
    subst (λ (k : ℕ). BelowAt k (go_on (steps reading g count) (step reading g w))) same
    (steps-below reading g count (n + 1) (step reading g w) (omega arith) (step-below reading g n w.rest w.state some low))
steps-below reading g count n (Halted trap s) some low = tt
steps-below reading g count n Ended some low = tt

pub few-turns : TurnsAreFew
few-turns reading g count w e =
    let low : BelowAt (1 + count) (steps reading g count (start_work g)) =
    steps-below reading g count 1 (Moved (start_work g)) (omega arith) (pushed-below 1 0 g.program.body (Over (stop_at g.program)) tt) in
    let same : 1 + count ≡ count + 1 = omega arith in
    subst (λ (k : ℕ). TurnsBelow k w.rest) same (subst (BelowAt (1 + count)) e low)
