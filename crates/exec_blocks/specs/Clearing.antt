-- Blocks that are taken away.
use Rattle.std.specs.Prelude.{◌≡◌, ℕ, ◌+◌, ◌<◌, ◌≤◌, List, length, Bool, true, false, nat_lt, Option, None}
use Rattle.sial_syntax.specs.declared.array.ArrayKind.TheVariants.{Local}
use Rattle.sial_syntax.specs.declared.classes.Side.{Side}
use Rattle.sial_syntax.specs.declared.classes.Side.TheVariants.{Outer, Inner, Unused}
use Rattle.sial_meaning.specs.Setting.{Setting, array_kind, block_count, side_of}
use Rattle.block_pool.specs.Memory.{Memory}
use Rattle.block_seats.specs.Leaving.{Leaves}
use Rattle.block_seats.specs.Seated.{Seated, SeatsStand, block_at}
use Rattle.exec_blocks.specs.Kept.{Kept, place_by}

-- no block stands at so many places from one on, and all others are as before
pub record Clears (old new : Memory) (before after : Seated) (from count : ℕ) : Type 0 where
  pub stands : SeatsStand new after
  pub places : length after.slots ≡ length before.slots
  pub leaves : Leaves old new before.slots after.slots
  pub gone : (k : ℕ) → k < count → block_at new after (from + k) ≡ None
  pub front : (place : ℕ) → place < from → block_at new after place ≡ block_at old before place
  pub behind : (place : ℕ) → from + count ≤ place → block_at new after place ≡ block_at old before place

-- what is left of a local block where a pardo begins
abbrev pub left_of : Side → Option (List ℕ) → Option (List ℕ)
left_of Outer block = block
left_of Inner block = None
left_of Unused block = block

-- the same, of an array that was looked at
abbrev pub left_if : (looked : Bool) → Side → Option (List ℕ) → Option (List ℕ)
left_if true side block = left_of side block
left_if false side block = block

-- of the first so many arrays, the local blocks that pardos make unset are gone; all others are as before
pub record Forgets (g : Setting) (b : Kept) (old new : Memory) (before after : Seated) (arrays : ℕ) : Type 0 where
  pub stands : SeatsStand new after
  pub places : length after.slots ≡ length before.slots
  pub leaves : Leaves old new before.slots after.slots
  pub statics : (place : ℕ) → place < b.locals_at → block_at new after place ≡ block_at old before place
  pub locals : (array number : ℕ) → array_kind g array ≡ Local → number < block_count g array
      → block_at new after (place_by g b array number Local) ≡ left_if (nat_lt array arrays) (side_of g array) (block_at old before (place_by g b array number Local))
  pub temps : (place : ℕ) → b.temps_at ≤ place → block_at new after place ≡ block_at old before place
