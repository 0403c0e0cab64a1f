-- What a worker becomes, as the definitions lead it.
use Rattle.std.specs.Prelude.{◌≡◌, ℕ, List, Bool, Result, Ok, Err}
use Rattle.block_pool.specs.Memory.{Memory}
use Rattle.sial_meaning.specs.declared.trap.Trap.{Trap}
use Rattle.sial_meaning.specs.Control.{Led, Goes, Halts}
use Rattle.sial_meaning.specs.Meaning.{all_met}
use Rattle.sial_meaning.specs.Next as next
use Rattle.sial_meaning.specs.Next.{Task}
use Rattle.sial_meaning.specs.Own.{Own}
use Rattle.sial_meaning.specs.Rest.{PardoAt}
use Rattle.sial_meaning.specs.Setting.{Setting}
use Rattle.exec_core.specs.Parts.{Parts}
use Rattle.exec_core.specs.Stands.{LocalStands}

-- a worker went past a statement that holds no other, where one came next
abbrev pub Passes : Setting → Memory → Parts → Own → (partials : List ℕ) → Task → Type 0
Passes g p l own partials (next.Statement line form more) = LocalStands g p l more own partials
Passes g p l own partials _ = Unit {0}

-- control led a worker to this work; or it trapped, and then it left the worker and the pool as they were
abbrev pub GoesOn : Setting → (old new : Memory) → (before after : Parts) → (partials : List ℕ) → Led → Result (Unit {0}) Trap → Type 0
GoesOn g old new before after partials (Goes rest own) result = (result ≡ Ok tt) × LocalStands g new after rest own partials
GoesOn g old new before after partials (Halts trap) result = (result ≡ Err trap) × (after ≡ before) × (new ≡ old)

-- a tuple of a pardo was taken up, or left out by its `where` lines
abbrev pub TakesUp : Setting → Memory → Parts → PardoAt → (partials : List ℕ) → Led → (met : Bool) → Type 0
TakesUp g p l pardo partials (Goes rest held) met = (met ≡ all_met held pardo.wheres) × LocalStands g p l rest held partials
TakesUp g p l pardo partials (Halts trap) met = ⊥
