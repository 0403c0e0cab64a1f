-- What steps meet on the way is what the whole meaning meets.
use Rattle.std.proofs.Common.{◌≡◌, ℕ, zero, suc, ◌+◌, ◌-◌, inl, inr, ◌<◌, List, [], Option, Some, None, refl, sym, ap, ◌∙◌, subst, arith}
use Rattle.std.proofs.lemmas.Bool.{cases_lt}
use Rattle.sial_syntax.specs.Numbering.{stop_at}
use Rattle.sial_meaning.proofs.AcceptedInOtherWords.Refusals.{no-refusal-says-accepted}
use Rattle.sial_meaning.proofs.CourseFollowsTheFold.Steps.{go_add}
use Rattle.sial_meaning.proofs.EpochsAgree.Clashes.{Extends, extends_then, clash_is}
use Rattle.sial_meaning.proofs.EpochsAgree.Steps.{ExtendsAt, step_extends}
use Rattle.sial_meaning.specs.Accepted.{Clashed, log_of, trap_of, refused, refusal_of}
use Rattle.sial_meaning.specs.Access.{Found, Touch, first_clash}
use Rattle.sial_meaning.specs.Meaning.{meaning, sequential}
use Rattle.sial_meaning.specs.Rest.{Rest, Over}
use Rattle.sial_meaning.specs.Setting.{Setting}
use Rattle.sial_meaning.specs.Statement.{Outcome, Went, Stopped, Present}
use Rattle.sial_meaning.specs.Step.{Work, Stepped, Moved, Halted, Ended, done, go_on, start_work, step, steps}
use Rattle.sequential_costs.proofs.StepsAreFew.Ends.{fold_is_near, end_is_the_meaning, halt_is_the_meaning}
use Rattle.epoch_check.specs.OnTheWay.{Runs, ComesTo, Logs, ClashOnTheWay, TrapOnTheWay, EndOnTheWay}

-- a log behind which a step logs is one that the step extends
extends-at : (log : List Touch) (t : Stepped) → Logs log t → ExtendsAt log t
extends-at log (Moved w) x = x
extends-at log (Halted trap s) x = x
extends-at log Ended x = tt

-- what is logged behind a log that goes on
at-then : (a b : List Touch) (t : Stepped) → Extends a b → ExtendsAt b t → ExtendsAt a t
at-then a b (Moved w) x y = extends_then a b w.state.log x y
at-then a b (Halted trap s) x y = extends_then a b s.log x y
at-then a b Ended x y = tt

-- more steps log behind what was logged
steps-extend : (g : Setting) (n : ℕ) (log : List Touch) (t : Stepped) → ExtendsAt log t → ExtendsAt log (go_on (steps Present g n) t)
steps-extend g zero log (Moved w) x = x
steps-extend g (suc n) log (Moved w) x =
    steps-extend g n log (step Present g w) (at-then log w.state.log (step Present g w) x (step_extends Present g w.rest w.state))
steps-extend g n log (Halted trap s) x = x
steps-extend g n log Ended x = x

-- no step leads on from the program's end
none-behind : (g : Setting) (n : ℕ) (o : Outcome) (w : Work) (log : List Touch) → go_on (steps Present g n) (done o (Over (stop_at g.program))) ≡ Moved w → Logs log (step Present g w) → ⊥
none-behind g zero (Went s) w log e logs = subst (λ (t : Stepped). Logs log (go_on (step Present g) t)) (sym e) logs
none-behind g (suc n) (Went s) w log e logs = absurd cc
none-behind g n (Stopped trap s) w log e logs = absurd cc

-- the log of where an outcome leads is the outcome's
logged-done : (log : List Touch) (o : Outcome) (rest : Rest) → ExtendsAt log (done o rest) → Extends log (log_of o)
logged-done log (Went s) rest x = x
logged-done log (Stopped trap s) rest x = x

-- so many steps, and those behind the next one
behind : (g : Setting) (count n : ℕ) (w : Work) → count < n → steps Present g count (start_work g) ≡ Moved w
    → steps Present g n (start_work g) ≡ go_on (steps Present g (n - (count + 1))) (step Present g w)
behind g count n w less led =
    let split : ◌≡◌ {A = ℕ} n (count + suc (n - (count + 1))) = omega (arith, less) in
    ap (λ (k : ℕ). steps Present g k (start_work g)) split
    ∙ go_add Present g count (suc (n - (count + 1))) (Moved (start_work g))
    ∙ ap (go_on (steps Present g (suc (n - (count + 1))))) led

-- what a step has logged is a first part of the whole log
step-in-log : (g : Setting) (w : Work) (log : List Touch) → Runs g → ComesTo g w → Logs log (step Present g w) → Extends log (log_of (sequential g))
step-in-log g w log runs comes logs =
    let near = fold_is_near Present g runs.sound runs.few in
    let o = meaning Present g in
    elim (cases_lt comes.count near.0) [
      | inl less ↦
          logged-done log o (Over (stop_at g.program))
          (subst (ExtendsAt log) (sym (behind g comes.count near.0 w less comes.led) ∙ near.2)
          (steps-extend g (near.0 - (comes.count + 1)) log (step Present g w) (extends-at log (step Present g w) logs)))
      | inr more ↦
          let split-at : ◌≡◌ {A = ℕ} comes.count (near.0 + (comes.count - near.0)) = omega (arith, more) in
          absurd (none-behind g (comes.count - near.0) o w log
          (ap (go_on (steps Present g (comes.count - near.0))) (sym near.2)
          ∙ sym (go_add Present g near.0 (comes.count - near.0) (Moved (start_work g)))
          ∙ ap (λ (k : ℕ). steps Present g k (start_work g)) (sym split-at)
          ∙ comes.led) logs)
    ]

-- the first refusal of an outcome with a clash
clash-first : (o : Outcome) (clash : Found) → first_clash [] (log_of o) ≡ Some clash → refusal_of o ≡ Some (Clashed clash)
clash-first o clash e = ap (λ (f : Option Found). refused f (trap_of o)) e

-- a clash
pub clash-on-the-way : ClashOnTheWay
clash-on-the-way g w log clash runs comes logs e =
    clash-first (sequential g) clash (clash_is [] log (log_of (sequential g)) clash (step-in-log g w log runs comes logs) e)

-- no step more
stays-there : (t : Stepped) → go_on (λ (v : Work). Moved v) t ≡ t
stays-there (Moved w) = refl
stays-there (Halted trap s) = refl
stays-there Ended = refl

-- one step more
one-more : (g : Setting) (w : Work) (comes : ComesTo g w) → steps Present g (comes.count + 1) (start_work g) ≡ step Present g w
one-more g w comes = go_add Present g comes.count 1 (Moved (start_work g)) ∙ ap (go_on (steps Present g 1)) comes.led ∙ stays-there (step Present g w)

-- a trap
pub trap-on-the-way : TrapOnTheWay
trap-on-the-way g w trap s runs comes halts clear =
    let whole = halt_is_the_meaning Present g (comes.count + 1) trap s runs.sound (one-more g w comes ∙ halts) in
    (ap refusal_of whole ∙ ap (λ (f : Option Found). refused f (Some trap)) clear, whole)

-- the end
pub end-on-the-way : EndOnTheWay
end-on-the-way g w runs comes over clear =
    let whole = end_is_the_meaning Present g comes.count w runs.sound comes.led over in
    ((no-refusal-says-accepted g).0 (ap refusal_of whole ∙ ap (λ (f : Option Found). refused f None) clear), whole)
