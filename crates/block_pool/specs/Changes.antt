-- What a call does to a pool: one slot changes, and no other.
use Rattle.std.specs.Prelude.{◌≡◌, ℕ, ◌<◌, ◌≤◌, true, List, length, replicate, slice_set}
use Rattle.block_pool.specs.declared.state.State.{State}
use Rattle.block_pool.specs.declared.state.State.TheVariants.{Free, Lifted}
use Rattle.block_pool.specs.Memory.{Memory, Apart, state_at, words_at, names}

-- a lease of this kind stands in the pool
pub record Stands (p : Memory) (s : State) (slot : ℕ) : Type 0 where
  pub state : state_at p.states slot ≡ s
  pub within : slot < length p.words
  pub listed : slot < length p.states

-- one slot has this state and these words now, and no other slot has changed
pub record Changes (old new : Memory) (slot : ℕ) (s : State) (held : List ℕ) : Type 0 where
  pub states : new.states ≡ slice_set old.states slot s
  pub words : new.words ≡ slice_set old.words slot held
  pub width : length held ≡ length (words_at old.words slot)
  pub classes : new.classes ≡ old.classes
  pub groups : new.groups ≡ old.groups
  pub widest : new.widest ≡ old.widest
  pub most : new.most ≡ old.most

-- the same, and nothing is lifted or lowered
pub record Writes (old new : Memory) (slot : ℕ) (s : State) (held : List ℕ) : Type 0 where
  pub changes : Changes old new slot s held
  pub is_lifted : new.is_lifted ≡ old.is_lifted

-- a slot that was free and that the class names has this state and these words now
pub record Takes (class : ℕ) (old new : Memory) (slot : ℕ) (s : State) (held : List ℕ) : Type 0 where
  pub was : Stands old Free slot
  pub named : names old class slot ≡ true
  pub changes : Changes old new slot s held
  pub is_lifted : new.is_lifted ≡ old.is_lifted

-- a slot of the widest class was lifted; its words stay in the pool, and zeros stand apart
pub record Lifts (old new : Memory) (lifted : Apart) : Type 0 where
  pub was : Stands old Free lifted.slot
  pub named : names old old.widest lifted.slot ≡ true
  pub changes : Changes old new lifted.slot Lifted (words_at old.words lifted.slot)
  pub is_lifted : new.is_lifted ≡ true
  pub words : lifted.words ≡ replicate old.most 0

-- a lifted lease stands in the pool, with as many words as were lifted
pub record StandsLifted (p : Memory) (lifted : Apart) : Type 0 where
  pub slot : Stands p Lifted lifted.slot
  pub width : length lifted.words ≡ p.most

-- as many classes and states as slots
pub record IsMemory (p : Memory) : Type 0 where
  pub states : length p.states ≡ length p.words
  pub classes : length p.classes ≡ length p.words

-- each slot that the class names has at least so many words
abbrev pub AreWide : Memory → ℕ → ℕ → Type 0
AreWide p class len = (slot : ℕ) → slot < length p.words → names p class slot ≡ true → len ≤ length (words_at p.words slot)

-- each slot that the class names has so many words
abbrev pub HasWidth : Memory → ℕ → ℕ → Type 0
HasWidth p class width = (slot : ℕ) → slot < length p.words → names p class slot ≡ true → length (words_at p.words slot) ≡ width
