-- Free slots of a class, and the vacant keys of its slab.
use Rattle.std.proofs.Common.{◌≡◌, ℕ, ◌<◌, ◌≤◌, inl, inr, true, false, List, length, get_or, refl, ◌∙◌, arith, Option, Some, None, is_some, not, ltb, ◌-◌, ◌^◌}
use borrow.Author.Tests.{ltb-true, ltb-false}
use Rattle.std.proofs.lemmas.Bool.{cases_Bool}
use Rattle.std.proofs.lemmas.List.{get_or_default}
use Rattle.std.specs.Option.{OnSome}
use Rattle.slab.specs.Slab.{slab_len, HasRoomFor}
use Rattle.block_pool.specs.declared.state.State.{State}
use Rattle.block_pool.specs.declared.state.State.TheVariants.{Free, Owned, Awaiting, Cached, Sending, Lifted}
use Rattle.block_pool.specs.declared.slots.Group.{Group}
use Rattle.block_pool.specs.Memory.{is_free, free_slots}
use Rattle.block_pool.specs.Occupied.{IsTied, group_at, table_of}
use Rattle.block_pool.proofs.FreeSlots.{free_slots-none}
use Rattle.block_pool.proofs.Members.{free_slots-members}

-- no slot is of a class past the pool's
pub unknown_class : (gs : List Group) (cs : List ℕ) (ss : List State) (g : ℕ) → IsTied gs cs ss → length gs ≤ g → free_slots g cs ss ≡ 0
unknown_class gs cs ss g tied past = free_slots-none g cs ss (λ slot h. let known = (tied.home slot h).known in omega arith)

-- a class with a free slot is one of the pool's
pub known_class : (gs : List Group) (cs : List ℕ) (ss : List State) (g : ℕ) → IsTied gs cs ss → 0 < free_slots g cs ss → g < length gs
known_class gs cs ss g tied some = elim (cases_Bool (ltb g (length gs))) as (λ _. g < length gs) [
  | inl low ↦ ltb-true g (length gs) low
  | inr high ↦ absurd (let none : free_slots g cs ss ≡ 0 = unknown_class gs cs ss g tied (ltb-false g (length gs) high) in omega arith)
]

-- a slot whose key is vacant is free
pub vacant_is_free : (s : State) → false ≡ not (is_free s) → s ≡ Free
vacant_is_free Free e = refl
vacant_is_free Owned e = absurd (cc)
vacant_is_free Awaiting e = absurd (cc)
vacant_is_free Cached e = absurd (cc)
vacant_is_free Sending e = absurd (cc)
vacant_is_free Lifted e = absurd (cc)

-- a u32 counts the free slots of a class
pub free_fits : (gs : List Group) (cs : List ℕ) (ss : List State) (g : ℕ) → IsTied gs cs ss → g < length gs → (table_of gs g).capacity - slab_len (table_of gs g) < 2 ^ 32
free_fits gs cs ss g tied known = omega (arith, tied.count g known, tied.fits g known, free_slots-members g cs ss)

-- a group that was read
pub group_read : (gs : List Group) (g : ℕ) (v : Group) → g < length gs → v ≡ get_or gs g v → v ≡ group_at gs g
group_read gs g v known read = read ∙ get_or_default gs g v _ known

-- what is said where there is a value
pub on_some : {A : Type 0} {P : Type 0} (o : Option A) → is_some o ≡ true → OnSome o P → P
on_some None e p = absurd (cc)
on_some (Some x) e p = p

-- a class with a free slot has a vacant key
pub has_room : (gs : List Group) (cs : List ℕ) (ss : List State) (g : ℕ) (v : Group) → IsTied gs cs ss → 0 < free_slots g cs ss → v ≡ get_or gs g v → HasRoomFor v.table 1
has_room gs cs ss g v tied some read =
    let known : g < length gs = known_class gs cs ss g tied some in
    rw (group_read gs g v known read) (omega (arith, tied.count g known))
