-- Where a worker is led by its control.
use Rattle.std.proofs.Common.{◌≡◌, ℕ, List, Bool, Result, refl, ap, ◌∙◌}
use Rattle.block_pool.specs.Memory.{Memory}
use Rattle.exec_blocks.specs.Standing.{AreIn, BlocksStand}
use Rattle.exec_control.specs.Position.{Position}
use Rattle.exec_control.specs.Stands.{ControlStands, IsLed, IsTakenUp, entering}
use Rattle.exec_control.specs.Stands as stands
use Rattle.exec_scalars.specs.Numbers.{AreNumbers}
use Rattle.sial_meaning.specs.declared.trap.Trap.{Trap}
use Rattle.sial_meaning.specs.Control.{Led, Goes, Halts}
use Rattle.sial_meaning.specs.Next as next
use Rattle.sial_meaning.specs.Next.{Task}
use Rattle.sial_meaning.specs.Own.{Own, unset, with_values}
use Rattle.sial_meaning.specs.Rest.{PardoAt, Rest}
use Rattle.sial_meaning.specs.Setting.{Setting}
use Rattle.exec_core.specs.Moves.{GoesOn, Passes, TakesUp}
use Rattle.exec_core.specs.Parts.{Parts}
use Rattle.exec_core.specs.Stands.{LocalStands}
use Rattle.exec_core.proofs.PardoLemmas.{IsGoing}
use Rattle.exec_core.proofs.StandLemmas.{stands_with}

-- by a loop, a branch, a call or the end of one
pub led_on : (g : Setting) (p : Memory) (l : Parts) (c : Position) (rest : Rest) (own : Own) (partials : List ℕ) (task : Task) (to : Led) (result : Result (Unit {0}) Trap) → LocalStands g p l rest own partials
    → entering g task own ≡ own → IsLed g l.control c task own to result → GoesOn g p p l (record l { control = c }) partials to result
led_on g p l c rest own partials task (Goes more held) result st same led =
    (led.0, stands_with g p (record l { control = c }) more own held partials c.values (led.2 ∙ ap (with_values c.values) same) led.1 st.scalars st.seated st.blocks st.created)
led_on g p l c rest own partials task (Halts trap) result st same led = (led.0, ap (λ (q : Position). record l { control = q }) led.1, refl)

-- into a pardo
pub entered_on : (g : Setting) (old new : Memory) (before after : Parts) (own : Own) (partials : List ℕ) (task : Task) (to : Led) (result : Result (Unit {0}) Trap) → task ≡ next.Pardo → IsGoing to
    → IsLed g before.control after.control task own to result → AreNumbers after.scalars (unset g own) partials → AreIn g new after.blocks → BlocksStand g new after.blocks (unset g own) → after.created ≡ own.created
    → GoesOn g old new before after partials to result
entered_on g old new before after own partials task (Goes more held) result pardo going led numbers seated blocks created =
    let held_is : held ≡ with_values after.control.values (unset g own) = led.2 ∙ ap (λ (t : Task). with_values after.control.values (entering g t own)) pardo in
    (led.0, stands_with g new after more (unset g own) held partials after.control.values held_is led.1 numbers seated blocks created)
entered_on g old new before after own partials task (Halts trap) result pardo going led numbers seated blocks created = absurd going

-- to a tuple of a pardo
pub taken_on : (g : Setting) (p : Memory) (l : Parts) (pardo : PardoAt) (own : Own) (partials : List ℕ) (to : Led) (met : Bool) → IsTakenUp g l.control pardo own to met
    → AreNumbers l.scalars (unset g own) partials → AreIn g p l.blocks → BlocksStand g p l.blocks (unset g own) → l.created ≡ own.created → TakesUp g p l pardo partials to met
taken_on g p l pardo own partials (Goes rest held) met taken numbers seated blocks created =
    (taken.0, stands_with g p l rest (unset g own) held partials l.control.values taken.2 taken.1 numbers seated blocks created)
taken_on g p l pardo own partials (Halts trap) met taken numbers seated blocks created = absurd taken

-- past a statement
pub passed_on : (g : Setting) (p : Memory) (l : Parts) (rest : Rest) (own : Own) (partials : List ℕ) (c : Position) (task : Task) → LocalStands g p l rest own partials → stands.Passes g c own task
    → Passes g p (record l { control = c }) own partials task
passed_on g p l rest own partials c next.Over st passes = tt
passed_on g p l rest own partials c next.Control st passes = tt
passed_on g p l rest own partials c next.Pardo st passes = tt
passed_on g p l rest own partials c next.End st passes = tt
passed_on g p l rest own partials c (next.Statement line form more) st passes = record { control = passes; scalars = st.scalars; seated = st.seated; blocks = st.blocks; created = st.created }
