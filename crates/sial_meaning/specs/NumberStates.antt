-- States whose numbers are numbers: index numbers, scalars and all elements are below 2^64.
use Rattle.std.specs.Prelude.{ℕ, ◌<◌, List, [], slice_index_or}
use Rattle.std.specs.Option.{IfSome}
use Rattle.sial_syntax.specs.Limits.{past_numbers}
use Rattle.sial_meaning.specs.Own.{Own, Held, static_block, temp_of, local_block, scalar_of}
use Rattle.sial_meaning.specs.Setting.{Setting}
use Rattle.sial_meaning.specs.Sound.{IsSound}
use Rattle.sial_meaning.specs.State.{State, Shared}
use Rattle.sial_meaning.specs.WholeStates.{IsReached}

-- something is a number
abbrev pub IsNumber : ℕ → Type 0
IsNumber n = n < past_numbers

-- all of a list are numbers; past its end 0 is read
abbrev pub AreNumbers : List ℕ → Type 0
AreNumbers words = (k : ℕ) → IsNumber (slice_index_or words k 0)

-- the elements of the block that a temp holds are numbers
abbrev pub HoldsNumbers : Held → Type 0
HoldsNumbers held = AreNumbers held.words

-- what a worker holds: index numbers, scalars, and the elements of statics, temps and locals
pub record OwnHasNumbers (own : Own) : Type 0 where
  pub values : AreNumbers own.values
  pub scalars : (scalar : ℕ) → IfSome (scalar_of own scalar) IsNumber
  pub statics : (array number : ℕ) → AreNumbers (static_block own array number)
  pub temps : (array : ℕ) → IfSome (temp_of own array) HoldsNumbers
  pub locals : (array number : ℕ) → IfSome (local_block own array number) AreNumbers

-- the elements of shared blocks
pub record SharedHasNumbers (shared : Shared) : Type 0 where
  pub distributed : (block : ℕ) → AreNumbers (slice_index_or shared.distributed block [])
  pub served : (block : ℕ) → AreNumbers (slice_index_or shared.served block [])

-- a state: what its worker holds, the partial scalars, and the shared blocks with their copies
pub record HasNumbers (s : State) : Type 0 where
  pub own : OwnHasNumbers s.own
  pub partials : AreNumbers s.partials
  pub shared : SharedHasNumbers s.shared
  pub copies : SharedHasNumbers s.copies

-- every state that steps lead to from the start of a sound setting has numbers alone
abbrev pub ReachedStatesHaveNumbers : Type 0
ReachedStatesHaveNumbers = (g : Setting) (s : State) → IsSound g → IsReached g s → HasNumbers s
