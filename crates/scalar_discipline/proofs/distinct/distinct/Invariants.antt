use Rattle.std.proofs.Common.{◌≡◌, ℕ, List, Bool, true, false, ◌||◌, drop, slice_index_or}
use Rattle.scalar_discipline.specs.Rounds.{leads_on}
use Rattle.scalar_discipline.proofs.distinct.distinct.Given as goal

-- those so far, and the calls that are left, lead on where all do; and a procedure that was called leads on where it reaches
abbrev pub invariant-loop-call : goal.invariant-loop-call
invariant-loop-call l =
    ((reach : List Bool) → (leads_on reach l.few.items || leads_on reach (drop l.call-index l.own)) ≡ leads_on reach l.own)
    × ((reach : List Bool) (p : ℕ) → slice_index_or l.called.items p false ≡ true → slice_index_or reach p false ≡ true → leads_on reach l.few.items ≡ true)
