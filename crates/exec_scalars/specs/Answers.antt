-- What a worker's scalars and index numbers decide, and what an assignment to a scalar does to them.
use Rattle.std.specs.Prelude.{◌≡◌, ℕ, List, [], Result, Ok, Err}
use Rattle.sial_meaning.specs.declared.trap.TrapKind.{TrapKind}
use Rattle.sial_meaning.specs.LocalStep.{Answer, Done}
use Rattle.sial_meaning.specs.Own.{Own}
use Rattle.exec_scalars.specs.Numbers.{Numbers, AreNumbers}

-- whatever a worker holds beside these scalars and these index numbers
abbrev pub OfWorkers : Numbers → (values : List ℕ) → (Own → Type 0) → Type 0
OfWorkers numbers values holds = (own : Own) → own.scalars ≡ numbers.scalars → own.values ≡ values → holds own

-- these scalars are those of a statement's end, which changed nothing else and printed nothing
pub record AreDone (numbers : Numbers) (own : Own) (done : Done) : Type 0 where
  pub numbers_are : AreNumbers numbers done.own done.partials
  pub rest : done.own ≡ record own { scalars = numbers.scalars }
  pub quiet : done.printed ≡ []

-- a statement ended with these scalars, or trapped and left them as they were
abbrev pub EndsWith : (old new : Numbers) → Own → Answer Done → Result (Unit {0}) TrapKind → Type 0
EndsWith old new own (Ok done) (Ok x) = AreDone new own done
EndsWith old new own (Ok done) (Err kind) = ⊥
EndsWith old new own (Err trap) (Ok x) = ⊥
EndsWith old new own (Err trap) (Err kind) = (kind ≡ trap) × (new ≡ old)
