-- The steps of an iteration come to the end of the pardo's body, or to its trap.
use Rattle.std.proofs.Common.{◌≡◌, ℕ, zero, suc, ◌+◌, List, [], length, Bool, true, false, Ok, Err, nat_lt, refl, sym, ap, ◌∙◌, subst}
use Rattle.sial_syntax.specs.Boxes.{tuple_at}
use Rattle.sial_syntax.specs.Numbering.{size, sizes, entry_of}
use Rattle.sial_syntax.specs.Spaces.{first_of, count_of, box_of, onto_firsts, pieces_of}
use Rattle.sial_syntax.specs.Tree.{Block, End, Then, Do, DoIn, Pardo, If, IfElse, Call}
use Rattle.sial_meaning.specs.declared.trap.Trap.{Trap}
use Rattle.sial_meaning.specs.Control.{Led, Goes, Halts, entered, turned, branched, called, begun, loop_at, control}
use Rattle.sial_meaning.specs.Course.{course}
use Rattle.sial_meaning.specs.Deeds.{Deed, applied}
use Rattle.sial_meaning.specs.LocalStep.{Answer}
use Rattle.sial_meaning.specs.Meaning.{block_meaning, calls, call_depth, condition, all_met, taken_up}
use Rattle.sial_meaning.specs.Own.{Own, value_of, unset}
use Rattle.sial_meaning.specs.Ran.{View, view_of, Ran, Through, Broke, outcome_in, behind, statement_ran}
use Rattle.sial_meaning.specs.Rest.{LoopAt, PardoAt, Rest, Over, Next, Turn, Join, Back, Within, push, depth}
use Rattle.sial_meaning.specs.Setting.{Setting, procedure_body}
use Rattle.sial_meaning.specs.Sound.{IsGrantedSetting}
use Rattle.sial_meaning.specs.State.{State, with_own}
use Rattle.sial_meaning.specs.Statement.{Outcome, Went, Stopped, Copied}
use Rattle.sial_meaning.specs.Step.{Stepped, Moved, Halted, Ended, led, done, go_on, steps}
use Rattle.sial_meaning.specs.ToCome.{rest_ran, On, Out, led_on, done_on, inner_step, inner_behind, inner_on, inner_steps}
use Rattle.sial_meaning.specs.ToComeLaws.{PardoOf, code_of, IterationsEnd}
use Rattle.sial_meaning.proofs.PardosKeepTheControl.Calls.{PardoStands}
use Rattle.sial_meaning.proofs.CourseFollowsTheFold.Fit.{course_fit}
use Rattle.sial_meaning.proofs.PardosKeepTheControl.OfTheCourse.{begins_so}
use Rattle.sial_meaning.proofs.CourseFollowsTheFold.Rest.{Fit}
use Rattle.sial_meaning.proofs.IterationsAreTheirDeeds.Statement.{statement_is}
use Rattle.sial_meaning.proofs.StepsReachTheFold.BoundNumbers.{all_bound_len}
use Rattle.sial_meaning.proofs.PardosKeepTheControl.Bodies.{body_leads}
use Rattle.sial_meaning.proofs.StepsTakeTheFirstPartOff.Step.{Took, step_took}
use Rattle.sial_meaning.proofs.StepsTakeTheFirstPartOff.Stands.{RestIn, AsMany}
use Rattle.sial_meaning.proofs.StepsTakeTheFirstPartOff.Walk.{begins_right}

-- the end of the pardo's body that work inside it stands before
abbrev bottom : Rest → Rest
bottom (Over at) = Over at
bottom (Next at line form rest) = bottom rest
bottom (Turn loop last rest) = bottom rest
bottom (Join at rest) = bottom rest
bottom (Back at values rest) = bottom rest
bottom (Within pardo number rest) = Within pardo number rest

-- statements before the rest
bottom_pushed : (at : ℕ) (body : Block) (rest : Rest) → bottom (push at body rest) ≡ bottom rest
bottom_pushed at End rest = refl
bottom_pushed at (Then line form more) rest = bottom_pushed (at + size form) more rest

-- where control goes it stands before the same end
abbrev SameBottom : Rest → Led → Type 0
SameBottom r (Goes rest own) = bottom rest ≡ bottom r
SameBottom r (Halts trap) = Unit {0}

-- a loop entered
bottom_entered : (loop : LoopAt) (first count : ℕ) (rest : Rest) (own : Own) → SameBottom rest (entered loop first count rest own)
bottom_entered loop first zero rest own = refl
bottom_entered loop first (suc n) rest own = bottom_pushed (loop.head + 1) loop.body (Turn loop (first + n) rest)

-- the end of a loop's body
bottom_turned : (more : Bool) (loop : LoopAt) (last : ℕ) (rest : Rest) (own : Own) → SameBottom rest (turned more loop last rest own)
bottom_turned true loop last rest own = bottom_pushed (loop.head + 1) loop.body (Turn loop last rest)
bottom_turned false loop last rest own = refl

-- a branch
bottom_branched : (line : ℕ) (answer : Answer Bool) (met unmet rest : Rest) (own : Own) → bottom met ≡ bottom rest → bottom unmet ≡ bottom rest → SameBottom rest (branched line answer met unmet own)
bottom_branched line (Ok true) met unmet rest own a b = a
bottom_branched line (Ok false) met unmet rest own a b = b
bottom_branched line (Err kind) met unmet rest own a b = tt

-- a call
bottom_called : (g : Setting) (more : Bool) (q : ℕ) (rest : Rest) (own : Own) → SameBottom rest (called g more q rest own)
bottom_called g true q rest own = bottom_pushed (entry_of g.program q) (procedure_body g q) (Back (entry_of g.program q + sizes (procedure_body g q)) own.values rest)
bottom_called g false q rest own = refl

-- deeds before what is done to the end
done_behind : (ds : List Deed) (x : Ran) (to : Rest) → done_on (behind ds x) to ≡ inner_behind ds (done_on x to)
done_behind ds (Through es own) to = refl
done_behind ds (Broke es trap own) to = refl

-- the work where steps led
abbrev work_at : Rest → Stepped → Rest
work_at other (Moved w) = w.rest
work_at other (Halted trap s) = other
work_at other Ended = other

module _ (g : Setting) (set : IsGrantedSetting g) (pardo : PardoAt) (number : ℕ) (behind_it : Rest) where
  -- the end of the body
  abbrev to : Rest
  to = Within pardo number behind_it

  -- the steps inside come to the end, or to the trap
  abbrev Comes : View → Rest → Own → Type 0
  Comes v r own = (count : ℕ) × (inner_steps g v count r own ≡ done_on (rest_ran g v r own) to)

  -- so they do from all work from which so many steps lead there
  abbrev ComesBy : ℕ → Type 0
  ComesBy n = (r : Rest) (s : State) → RestIn g set r → AsMany g set s.own → bottom r ≡ to → (o : Outcome) → steps Copied g n (record { rest = r; state = s }) ≡ done o to → Comes (view_of s) r s.own

  -- a step, and those that follow it
  comes_on : (v : View) (r : Rest) (own : Own) (ds : List Deed) (rest : Rest) (held : Own) → inner_step g v r own ≡ On ds rest held → rest_ran g v r own ≡ behind ds (rest_ran g v rest held) → Comes v rest held → Comes v r own
  comes_on v r own ds rest held is took (count, e) = (
    suc count,
    ap (λ x. inner_on x (inner_steps g v count)) is ∙ (ap (inner_behind ds) e ∙ (sym (done_behind ds (rest_ran g v rest held) to) ∙ sym (ap (λ x. done_on x to) took))),
  )

  -- a step that traps
  comes_out : (v : View) (r : Rest) (own : Own) (ds : List Deed) (trap : Trap) (held : Own) → inner_step g v r own ≡ Out ds trap held → rest_ran g v r own ≡ Broke ds trap held → Comes v r own
  comes_out v r own ds trap held is took = (1, ap (λ x. inner_on x (inner_steps g v 0)) is ∙ sym (ap (λ x. done_on x to) took))

  -- by control
  led_comes : (n : ℕ) → ComesBy n → (r : Rest) (s : State) (c : Led) → inner_step g (view_of s) r s.own ≡ led_on s.own c → Took g set (view_of s) r s.own (led_on s.own c) → SameBottom r c → bottom r ≡ to → (o : Outcome) → go_on (steps Copied g n) (led s c) ≡ done o to → Comes (view_of s) r s.own
  led_comes n more r s (Goes rest own) is took same b o e = comes_on (view_of s) r s.own [] rest own is took.1 (more rest (with_own s own) took.0.0 took.0.1 (same ∙ b) o e)
  led_comes n more r s (Halts trap) is took same b o e = comes_out (view_of s) r s.own [] trap s.own is took

  -- by a statement
  done_comes : (n : ℕ) → ComesBy n → (r : Rest) (s : State) (x : Ran) (rest : Rest) → inner_step g (view_of s) r s.own ≡ done_on x rest → Took g set (view_of s) r s.own (done_on x rest) → bottom rest ≡ to → (o : Outcome) → go_on (steps Copied g n) (done (outcome_in s x) rest) ≡ done o to → Comes (view_of s) r s.own
  done_comes n more r s (Through ds own) rest is took b o e = comes_on (view_of s) r s.own ds rest own is took.1 (more rest (with_own (applied ds s) own) took.0.0 took.0.1 b o e)
  done_comes n more r s (Broke ds trap own) rest is took b o e = comes_out (view_of s) r s.own ds trap own is took

  -- the end itself
  comes_here : (v : View) (r : Rest) (own : Own) → r ≡ to → Comes v r own
  comes_here v r own e = subst (λ (x : Rest). Comes v x own) (sym e) (0, refl)

  -- any number of steps
  comes : (n : ℕ) → ComesBy n
  comes zero r s stands many b (Went u) e = comes_here (view_of s) r s.own (ap (work_at to) e)
  comes zero r s stands many b (Stopped trap u) e = absurd cc
  comes (suc n) (Over at) s stands many b o e = absurd stands
  comes (suc n) (Within pardo-here number-here rest) s stands many b o e = (0, ap (λ (r : Rest). On [] r s.own) b)
  comes (suc n) (Next at line (Pardo these wheres body) rest) s stands many b o e = let never : true ≡ false = stands.0.2.here.0.pardo in absurd cc
  comes (suc n) (Next at line (Do index body) rest) s stands many b o e =
      led_comes n (comes n) (Next at line (Do index body) rest) s (control g (Next at line (Do index body) rest) s.own) refl (step_took g set (view_of s) (Next at line (Do index body) rest) s.own stands many) (bottom_entered (loop_at at index body) (first_of g.spaces index) (count_of g.spaces index) rest s.own) b o e
  comes (suc n) (Next at line (DoIn sub index body) rest) s stands many b o e =
      led_comes n (comes n) (Next at line (DoIn sub index body) rest) s (control g (Next at line (DoIn sub index body) rest) s.own) refl (step_took g set (view_of s) (Next at line (DoIn sub index body) rest) s.own stands many) (bottom_entered (loop_at at sub body) 1 (pieces_of g.spaces sub (value_of s.own index)) rest s.own) b o e
  comes (suc n) (Next at line (If test body) rest) s stands many b o e =
      led_comes n (comes n) (Next at line (If test body) rest) s (control g (Next at line (If test body) rest) s.own) refl (step_took g set (view_of s) (Next at line (If test body) rest) s.own stands many)
      (bottom_branched line (condition s.own test) (push (at + 1) body (Join (at + 1 + sizes body) rest)) rest rest s.own (bottom_pushed (at + 1) body (Join (at + 1 + sizes body) rest)) refl) b o e
  comes (suc n) (Next at line (IfElse test body other) rest) s stands many b o e =
      led_comes n (comes n) (Next at line (IfElse test body other) rest) s (control g (Next at line (IfElse test body other) rest) s.own) refl (step_took g set (view_of s) (Next at line (IfElse test body other) rest) s.own stands many)
      (bottom_branched line (condition s.own test) (push (at + 1) body (Join (at + 1 + sizes body) rest)) (push (at + 2 + sizes body) other (Join (at + 2 + sizes body + sizes other) rest)) rest s.own (bottom_pushed (at + 1) body (Join (at + 1 + sizes body) rest)) (bottom_pushed (at + 2 + sizes body) other (Join (at + 2 + sizes body + sizes other) rest))) b o e
  comes (suc n) (Next at line (Call procedure) rest) s stands many b o e =
      led_comes n (comes n) (Next at line (Call procedure) rest) s (control g (Next at line (Call procedure) rest) s.own) refl (step_took g set (view_of s) (Next at line (Call procedure) rest) s.own stands many) (bottom_called g (nat_lt (depth rest) call_depth) procedure rest s.own) b o e
  comes (suc n) (Next at line form rest) s stands many b o e =
      let is = statement_is g line form stands.0.2.here.0 s in
      done_comes
      n
      (comes n)
      (Next at line form rest)
      s
      (statement_ran g (view_of s) line form s.own)
      rest
      refl
      (step_took g set (view_of s) (Next at line form rest) s.own stands many)
      b
      o
      (subst (λ (p : Outcome). go_on (steps Copied g n) (done p rest) ≡ done o to) is e)
  comes (suc n) (Turn loop last rest) s stands many b o e =
      led_comes n (comes n) (Turn loop last rest) s (control g (Turn loop last rest) s.own) refl (step_took g set (view_of s) (Turn loop last rest) s.own stands many) (bottom_turned (nat_lt (value_of s.own loop.index) last) loop last rest s.own) b o e
  comes (suc n) (Join at rest) s stands many b o e =
      led_comes n (comes n) (Join at rest) s (control g (Join at rest) s.own) refl (step_took g set (view_of s) (Join at rest) s.own stands many) refl b o e
  comes (suc n) (Back at values rest) s stands many b o e =
      led_comes n (comes n) (Back at values rest) s (control g (Back at values rest) s.own) refl (step_took g set (view_of s) (Back at values rest) s.own stands many) refl b o e

-- from where control goes the steps inside come to the end
abbrev EndsAt : (g : Setting) → IsGrantedSetting g → View → PardoAt → (number : ℕ) → Rest → Led → Type 0
EndsAt g set v pardo number behind_it (Goes r own) = RestIn g set r → (count : ℕ) × (inner_steps g v count r own ≡ done_on (rest_ran g v r own) (Within pardo (number + 1) behind_it))
EndsAt g set v pardo number behind_it (Halts trap) = ⊥

-- a state that is seen so
abbrev seen_so : View → Own → State
seen_so v own = record { own = own; partials = []; shared = v.copies; copies = v.copies; epochs = v.epochs; lines = []; log = [] }

-- the tuple of an iteration, met or left out
begun_ends : (g : Setting) (set : IsGrantedSetting g) (v : View) (t : ℕ) (p : PardoOf) (number : ℕ) (f : Fit g set (course g t).work) (stands : PardoStands g set f.d f.indices p.indices p.body) (deep : f.d + depth p.rest ≡ call_depth) (held : Own) (many : length held.values ≡ length g.program.indices) (met : Bool)
    → EndsAt g set v (code_of p) number p.rest (begun met (code_of p) number p.rest held)
begun_ends g set v t p number f stands deep held many true =
    let to : Rest = Within (code_of p) (number + 1) p.rest in
    let s : State = seen_so v held in
    let l = body_leads g set f.d f.indices p.indices p.body stands (p.at + 1 + length p.wheres) to s deep many in
    λ inside.
    comes g set (code_of p) (number + 1) p.rest l.0 (push (p.at + 1 + length p.wheres) p.body to) s inside many (bottom_pushed (p.at + 1 + length p.wheres) p.body to) (block_meaning Copied g (calls Copied g f.d) p.body s) l.1
begun_ends g set v t p number f stands deep held many false = λ inside. (0, refl)

-- the steps of an iteration come to its end
pub iterations_end : IterationsEnd
iterations_end g v set t p number r own b =
    let f = course_fit g set t in
    let stands = (begins_so g set (course g t).work f p.indices p.wheres p.body (p.at, p.line, p.rest, b.0)).0 in
    let so = begins_right g set v t p number r own b in
    let deep : f.d + depth (course g t).work.rest ≡ call_depth = f.at.deep in
    let deep_so : f.d + depth p.rest ≡ call_depth = sym (ap (λ x. f.d + depth x) b.0) ∙ deep in
    let entry : Own = unset g (course g t).work.state.own in
    let tuple : List ℕ = tuple_at (box_of g.spaces p.indices) number in
    let held : Own = taken_up g p.indices tuple entry in
    let many : length held.values ≡ length g.program.indices = all_bound_len p.indices (onto_firsts g.spaces p.indices tuple) (unset g entry) ∙ f.at.numbered.len in
    let comes_so = subst (EndsAt g set v (code_of p) number p.rest) b.1 (begun_ends g set v t p number f stands deep_so held many (all_met held p.wheres)) so.stands in
    (comes_so.0, comes_so.1 ∙ ap (λ x. done_on x (Within (code_of p) (number + 1) p.rest)) so.all)
