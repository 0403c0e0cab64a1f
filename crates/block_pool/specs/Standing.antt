-- Lists of leases that stand in a pool: the words for whoever holds some.
use Rattle.std.specs.Prelude.{◌≡◌, ◌≢◌, ℕ, ◌+◌, List, [], ◌∷◌, true, Option, Some, None, map, slice_index_or}
use Rattle.std.specs.Option.{option_map, unwrap_or}
use Rattle.block_pool.specs.declared.state.State.{State}
use Rattle.block_pool.specs.declared.state.State.TheVariants.{Free, Owned, Awaiting, Cached, Sending}
use Rattle.block_pool.specs.Memory.{Memory, words_at, names, one_if, free_in}
use Rattle.block_pool.specs.Changes.{IsMemory, Stands}

-- the slot that stands at a place of a list of leases, if one does
abbrev pub lease_at : List (Option ℕ) → ℕ → Option ℕ
lease_at xs i = slice_index_or xs i None

-- each lease of a list stands in the pool, and no two name one slot
pub record Holds (p : Memory) (s : State) (xs : List (Option ℕ)) : Type 0 where
  pub stands : (i slot : ℕ) → lease_at xs i ≡ Some slot → Stands p s slot
  pub apart : (i j slot : ℕ) → lease_at xs i ≡ Some slot → lease_at xs j ≡ Some slot → i ≡ j

-- a value with these leases stands in the pool: each of them does, and no two name one slot, since a
-- slot has one state
pub record StandsIn (p : Memory) (own await keep send : List (Option ℕ)) : Type 0 where
  pub owned : Holds p Owned own
  pub awaited : Holds p Awaiting await
  pub cached : Holds p Cached keep
  pub sending : Holds p Sending send

-- the words of the leases
abbrev pub contents : Memory → List (Option ℕ) → List (Option (List ℕ))
contents p xs = map (option_map (words_at p.words)) xs

-- the words at a place of such a list
abbrev pub words_of : List (Option (List ℕ)) → ℕ → List ℕ
words_of ws i = unwrap_or (slice_index_or ws i None) []

-- a list of leases stands in the pool, and these are their words
pub record Keeps (p : Memory) (s : State) (xs : List (Option ℕ)) (words : List (Option (List ℕ))) : Type 0 where
  pub holds : Holds p s xs
  pub words_are : contents p xs ≡ words

-- a class names the slot of each lease
pub record Named (p : Memory) (class : ℕ) (xs : List (Option ℕ)) : Type 0 where
  pub named : (i slot : ℕ) → lease_at xs i ≡ Some slot → names p class slot ≡ true

-- no slot stands in both lists
pub record NoShared (xs zs : List (Option ℕ)) : Type 0 where
  pub differ : (i j slot : ℕ) → lease_at xs i ≡ Some slot → lease_at zs j ≡ Some slot → ⊥

-- whoever holds other owned slots still holds them, with their words, and shares none with the new list
pub record Frames (old new : Memory) (xs ys : List (Option ℕ)) : Type 0 where
  pub others_stay : (zs : List (Option ℕ)) (ws : List (Option (List ℕ))) → NoShared xs zs → Keeps old Owned zs ws → Keeps new Owned zs ws × NoShared ys zs

-- whoever holds other slots of any kind still holds them, with their words
pub record FramesAll (old new : Memory) (xs : List (Option ℕ)) : Type 0 where
  pub all_stay : (s : State) (zs : List (Option ℕ)) (ws : List (Option (List ℕ))) → s ≢ Free → (s ≡ Owned → NoShared xs zs) → Keeps old s zs ws → Keeps new s zs ws

-- how many leases of a list a class names
abbrev pub named_count : Memory → ℕ → List (Option ℕ) → ℕ
named_count p class [] = 0
named_count p class (None ∷ xs) = named_count p class xs
named_count p class (Some slot ∷ xs) = one_if (names p class slot) + named_count p class xs

-- some owned leases of a list were given back, and these are left
pub record Closing (old now : Memory) (all rest : List (Option ℕ)) : Type 0 where
  pub sound : IsMemory now
  pub stands : Holds now Owned rest
  pub frame : Frames old now all rest
  pub classes : now.classes ≡ old.classes
  pub groups : now.groups ≡ old.groups
  pub free : (class : ℕ) → free_in now class + named_count old class rest ≡ free_in old class + named_count old class all
