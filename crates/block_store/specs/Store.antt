-- What a store tells of its blocks, and what a write leaves of it.
use Rattle.std.specs.Prelude.{◌≡◌, ℕ, ◌<◌, List, Option, Some, None, IsSome}
use Rattle.std.specs.FinMap as map
use Rattle.std.specs.Ordering.{nat_cmp}

-- the words of each block, by number
abbrev pub Blocks : Type 0
Blocks = map.FinMap nat_cmp (List ℕ)

-- a fact about the blocks, where the store tells them
abbrev pub WhereTold : Option Blocks → (Blocks → Type 0) → Type 0
WhereTold None fact = Unit {0}
WhereTold (Some blocks) fact = fact blocks

-- each block below this one is there
abbrev pub HasBelow : ℕ → Blocks → Type 0
HasBelow block blocks = (lower : ℕ) → lower < block → IsSome (map.get blocks lower)

-- the block has these words now, and no other block has changed
abbrev pub Sets : Option Blocks → Option Blocks → ℕ → List ℕ → Type 0
Sets None new block words = new ≡ None
Sets (Some old) new block words = new ≡ Some (map.insert old block words)

-- no other block has changed
abbrev pub ChangesOnly : Option Blocks → Option Blocks → ℕ → Type 0
ChangesOnly None new block = new ≡ None
ChangesOnly (Some old) new block = (now : Blocks) × (new ≡ Some now) × (map.remove now block ≡ map.remove old block)
