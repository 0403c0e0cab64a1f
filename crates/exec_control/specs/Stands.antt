-- What a worker's control stands for: the rest of its work, and what it holds of its own.
use Rattle.std.specs.Prelude.{◌≡◌, ℕ, ◌+◌, Bool, true, false, ◌^◌, ◌<◌, length, Option, Some, None, Result, Ok, Err}
use Rattle.sial_syntax.specs.Proper.{IsProper}
use Rattle.sial_meaning.specs.declared.trap.Trap.{Trap}
use Rattle.sial_meaning.specs.Control.{Led, Goes, Halts}
use Rattle.sial_meaning.specs.Meaning.{all_met, left}
use Rattle.sial_meaning.specs.Next as next
use Rattle.sial_meaning.specs.Next.{Task}
use Rattle.sial_meaning.specs.Own.{Own, with_values, unset}
use Rattle.sial_meaning.specs.Rest.{PardoAt, Rest, place}
use Rattle.sial_meaning.specs.Setting.{Setting}
use Rattle.sip_tables.specs.declared.instruction.Operation.{Operation}
use Rattle.sip_tables.specs.declared.instruction.Operation.TheVariants as op
use Rattle.sip_tables.specs.Flatten.{flatten}
use Rattle.code_places.specs.Follows.{Follows, return_places, saved_values}
use Rattle.exec_control.specs.Depth.{lasts_of, Nests}
use Rattle.exec_control.specs.Position.{Position}

-- control stands for this rest of the work, and for the index numbers of what the worker holds
pub record ControlStands (g : Setting) (c : Position) (rest : Rest) (own : Own) : Type 0 where
  pub proper : IsProper g.program
  pub short : length (flatten g.program).code < 2 ^ 32
  pub follows : Follows g.program rest
  pub nests : Nests rest
  pub at : c.at ≡ place rest
  pub values : c.values ≡ own.values
  pub long : length c.values ≡ length g.program.indices
  pub returns : c.returns ≡ return_places rest
  pub saved : c.saved ≡ saved_values rest
  pub lasts : c.lasts ≡ lasts_of rest

-- what the worker holds as control goes on, apart from index numbers: all unset where a pardo is entered
abbrev pub entering : Setting → Task → Own → Own
entering g next.Pardo own = unset g own
entering g _ own = own

-- what comes next is a loop, a branch, a call, an end of one, or a pardo to be entered
abbrev pub IsControl : Task → Type 0
IsControl next.Control = Unit {0}
IsControl next.Pardo = Unit {0}
IsControl _ = ⊥

-- control goes where the definitions lead it; a trap leaves it where it was
abbrev pub IsLed : Setting → (old new : Position) → Task → Own → Led → Result (Unit {0}) Trap → Type 0
IsLed g old new task own (Goes rest held) result =
    (result ≡ Ok tt) × ControlStands g new rest held × (held ≡ with_values new.values (entering g task own))
IsLed g old new task own (Halts trap) result = (result ≡ Err trap) × (new ≡ old)

-- a branch is taken by its condition, and a pardo in progress goes on as it is told; all else follows from the instruction alone
abbrev pub IsFollowed : Operation → Type 0
IsFollowed (op.If cond otherwise) = ⊥
IsFollowed _ = Unit {0}

-- control went past a statement, where this was what came next
abbrev pub Passes : Setting → Position → Own → Task → Type 0
Passes g c own (next.Statement line form more) = ControlStands g c more own
Passes g c own _ = Unit {0}

-- a tuple of a pardo was taken up, or left out by its `where` lines: all is unset, and the pardo's indices are bound to it
abbrev pub IsTakenUp : Setting → Position → PardoAt → Own → Led → (met : Bool) → Type 0
IsTakenUp g c pardo own (Goes rest held) met =
    (met ≡ all_met held pardo.wheres) × ControlStands g c rest held × (held ≡ with_values c.values (unset g own))
IsTakenUp g c pardo own (Halts trap) met = ⊥

-- a pardo was left: all is unset, and its indices aren't bound any longer
abbrev pub IsLeft : Setting → Position → PardoAt → (more : Rest) → Own → Type 0
IsLeft g c pardo more own =
    ControlStands g c more (left g pardo.indices own) × (left g pardo.indices own ≡ with_values c.values (unset g own))

-- the place of a body's first instruction, where the body is run
abbrev pub IsBegun : PardoAt → (met : Bool) → Option ℕ → Type 0
IsBegun pardo true first = first ≡ Some (pardo.head + 1 + length pardo.wheres)
IsBegun pardo false first = first ≡ None
