-- A worker that runs a program alone: what it stands for, and where control leads it.
use Rattle.std.specs.Prelude.{◌≡◌, ℕ, ◌-◌, ◌^◌, List, Result, Ok, Err}
use Rattle.block_pool.specs.Memory.{Memory}
use Rattle.sial_meaning.specs.declared.trap.Trap.{Trap}
use Rattle.sial_meaning.specs.Control.{Led, Goes, Halts}
use Rattle.sial_meaning.specs.Next as next
use Rattle.sial_meaning.specs.Next.{Task}
use Rattle.sial_meaning.specs.Own.{Own}
use Rattle.sial_meaning.specs.Rest.{Rest}
use Rattle.sial_meaning.specs.Setting.{Setting}
use Rattle.exec_core.specs.Parts.{Parts}
use Rattle.exec_core.specs.Runs.{RunsWell}
use Rattle.exec_core.specs.Stands.{LocalStands}
use Rattle.exec_alone.specs.Turns.{turns_of, TurnsBelow}
use Rattle.exec_alone.specs.declared.halt.Halt.{Halt}
use Rattle.exec_alone.specs.declared.halt.Halt.TheVariants.{Trapped, OutOfMemory}

-- a worker and its turns stand for this rest of the work, and for what the definitions have the worker hold
pub record AloneStands (g : Setting) (p : Memory) (l : Parts) (turns : List ℕ) (rest : Rest) (own : Own) (partials : List ℕ) : Type 0 where
  pub local : LocalStands g p l rest own partials
  pub turns_are : turns ≡ turns_of rest

-- they stand for some work that runs well, and no pardo of it has come to the last number
pub record AloneAtWork (g : Setting) (p : Memory) (l : Parts) (turns : List ℕ) : Type 0 where
  pub rest : Rest
  pub own : Own
  pub partials : List ℕ
  pub stands : AloneStands g p l turns rest own partials
  pub runs_well : RunsWell g rest own
  pub low : TurnsBelow (2 ^ 64 - 1) rest

-- what comes next is a loop, a branch, a call, a pardo, or the end of one
abbrev pub IsLed : Task → Type 0
IsLed next.Control = Unit {0}
IsLed next.Pardo = Unit {0}
IsLed next.End = Unit {0}
IsLed _ = ⊥

-- control led to this work
abbrev pub LedTo : Setting → Memory → Parts → (turns : List ℕ) → (partials : List ℕ) → Led → Type 0
LedTo g p l turns partials (Goes rest own) = AloneStands g p l turns rest own partials
LedTo g p l turns partials (Halts trap) = ⊥

-- this is where it trapped
abbrev pub TrapsAt : Led → Halt → Type 0
TrapsAt led OutOfMemory = Unit {0}
TrapsAt (Halts trap) (Trapped other) = other ≡ trap
TrapsAt (Goes rest own) (Trapped other) = ⊥

-- control led to this work; or it trapped, or memory was short, and then all is as it was
abbrev pub GoesAlone : Setting → (old new : Memory) → (before after : Parts) → (was is : List ℕ) → (partials : List ℕ) → Led → Result (Unit {0}) Halt → Type 0
GoesAlone g old new before after was is partials led (Ok tt) = LedTo g new after is partials led
GoesAlone g old new before after was is partials led (Err halt) = TrapsAt led halt × (after ≡ before) × (is ≡ was) × (new ≡ old)

-- what a worker alone answers, where the worker answers this
abbrev pub halted : Result (Unit {0}) Trap → Result (Unit {0}) Halt
halted (Ok tt) = Ok tt
halted (Err trap) = Err (Trapped trap)
