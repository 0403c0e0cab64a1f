-- Which programs the epoch rule accepts, and the first refusal of the others.
use Rattle.std.specs.Prelude.{◌≡◌, ℕ, ◌+◌, List, [], Bool, true, false, ◌==◌, ◌&&◌, ◌⊎◌, Option, Some, None, AllPairs, count_by, IsTrue}
use Rattle.sial_syntax.specs.declared.access.Access.{Access}
use Rattle.sial_syntax.specs.declared.access.Access.TheVariants.{Read, Add, Max, Store}
use Rattle.sial_syntax.specs.declared.access.Class.{Class}
use Rattle.sial_meaning.specs.declared.trap.Trap.{Trap}
use Rattle.sial_meaning.specs.Access.{Touch, Found, same_place, may_stand, first_clash}
use Rattle.sial_meaning.specs.Meaning.{sequential}
use Rattle.sial_meaning.specs.Setting.{Setting}
use Rattle.sial_meaning.specs.Statement.{Outcome, Went, Stopped}
use Rattle.sial_syntax.specs.Spaces.{same_class}

-- why a program is refused
pub data Refusal : Type 0 where
  Clashed : Found → Refusal
  Trapped : Trap → Refusal

-- the log of an outcome: up to the trap, where one came
abbrev pub log_of : Outcome → List Touch
log_of (Went s) = s.log
log_of (Stopped trap s) = s.log

-- the trap of an outcome
abbrev pub trap_of : Outcome → Option Trap
trap_of (Went s) = None
trap_of (Stopped trap s) = Some trap

-- a clash in the log comes before the trap that ended it
abbrev pub refused : Option Found → Option Trap → Option Refusal
refused (Some clash) trap = Some (Clashed clash)
refused None (Some trap) = Some (Trapped trap)
refused None None = None

-- the first refusal of an outcome
abbrev pub refusal_of : Outcome → Option Refusal
refusal_of outcome = refused (first_clash [] (log_of outcome)) (trap_of outcome)

-- the first refusal of a program: the first trap, or the first access that may not stand together with an earlier one
abbrev pub first_refusal : Setting → Option Refusal
first_refusal g = refusal_of (sequential g)

-- whether a later access to the same block in the same epoch of its class may stand together with this one
abbrev pub StandsWith : Touch → Touch → Type 0
StandsWith earlier later = IsTrue (same_place later earlier) → IsTrue (may_stand earlier.kind later.kind)

-- a program is accepted: its meaning has no trap, and any two accesses to one block in one epoch may stand together
pub record Accepts (g : Setting) : Type 0 where
  pub no_trap : trap_of (sequential g) ≡ None
  pub pairs : AllPairs StandsWith (log_of (sequential g))

-- whether an access is of this kind and to this block in this epoch
abbrev pub is_at : Class → (epoch block : ℕ) → (Access → Bool) → Touch → Bool
is_at class epoch block kind t = same_class t.class class && ((t.epoch == epoch) && ((t.block == block) && kind t.kind))

-- how many accesses of some kinds a block has in an epoch
abbrev pub count_at : Class → (epoch block : ℕ) → (Access → Bool) → List Touch → ℕ
count_at class epoch block kind log = count_by (is_at class epoch block kind) log

-- whether a kind is that of reads
abbrev pub is_read : Access → Bool
is_read Read = true
is_read _ = false

-- whether a kind is that of adds
abbrev pub is_add : Access → Bool
is_add Add = true
is_add _ = false

-- whether a kind is that of maxes
abbrev pub is_max : Access → Bool
is_max Max = true
is_max _ = false

-- whether a kind is that of stores
abbrev pub is_store : Access → Bool
is_store Store = true
is_store _ = false

-- how many reads, adds, maxes and stores a block has in an epoch
pub record Counted : Type 0 where
  pub reads : ℕ
  pub adds : ℕ
  pub maxes : ℕ
  pub stores : ℕ

-- the counts of a block in an epoch
abbrev pub counted : Class → (epoch block : ℕ) → List Touch → Counted
counted class epoch block log = record {
  reads = count_at class epoch block is_read log;
  adds = count_at class epoch block is_add log;
  maxes = count_at class epoch block is_max log;
  stores = count_at class epoch block is_store log;
}

-- only reads, only adds, only maxes, or nothing but one store
abbrev pub IsUniform : Counted → Type 0
IsUniform c =
    ((c.adds + (c.maxes + c.stores)) ≡ 0)
    ⊎ (((c.reads + (c.maxes + c.stores)) ≡ 0) ⊎ (((c.reads + (c.adds + c.stores)) ≡ 0) ⊎ (((c.reads + (c.adds + c.maxes)) ≡ 0) × (c.stores ≡ 1))))

-- each block has uniform accesses in each epoch
abbrev pub AllUniform : List Touch → Type 0
AllUniform log = (class : Class) (epoch block : ℕ) → IsUniform (counted class epoch block log)
