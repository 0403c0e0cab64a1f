-- The slabs of the classes, as slots are taken and given back.
use Rattle.std.proofs.Common.{◌≡◌, ◌≢◌, ℕ, ◌+◌, ◌<◌, ◌≤◌, inl, inr, true, false, List, length, get_or, set, refl, ap, sym, ◌∙◌, arith, length-set, Option, Some, None, is_some, not, eq-eqb, ne_eqb, ◌-◌}
use Rattle.std.specs.Prelude.{◌==◌}
use Rattle.std.proofs.lemmas.Bool.{cases_eq, cases_lt}
use Rattle.std.proofs.lemmas.List.{get_or-set_same, get_or-set_other, set-get_or}
use Rattle.std.specs.Option.{OnSome}
use Rattle.slab.specs.Slab.{Slab, get, slab_len, Updates}
use Rattle.block_pool.specs.declared.state.State.{State}
use Rattle.block_pool.specs.declared.state.State.TheVariants.{Free}
use Rattle.block_pool.specs.declared.slots.Group.{Group}
use Rattle.block_pool.specs.Memory.{state_at, is_free, free_slots, one_if}
use Rattle.block_pool.specs.Surplus.{HoldsSurplus}
use Rattle.block_pool.specs.Occupied.{IsTied, IsIn, group_at, first_of, table_of, room_of}
use Rattle.block_pool.proofs.FreeSlots.{free_slots-set}
use Rattle.block_pool.proofs.VacantLemmas.{known_class, vacant_is_free, group_read, on_some}

-- one slot has another state, and its key another value
module _ (gs : List Group) (cs : List ℕ) (ss : List State) (tied : IsTied gs cs ss) (g k : ℕ) (known : g < length gs) (key : k < room_of gs g)
    (s : State) (o : Option (Unit {0})) (t : Slab (Unit {0})) (updates : Updates (table_of gs g) t k o) (taken : is_some o ≡ not (is_free s))
    (room : t.capacity ≡ (table_of gs g).capacity)
    (count : slab_len t + one_if (is_free s) ≡ slab_len (table_of gs g) + one_if (is_free (state_at ss (first_of gs g + k)))) where
  abbrev slot : ℕ
  slot = first_of gs g + k

  abbrev after : List Group
  after = set gs g (record { first = first_of gs g; count = room_of gs g; table = t })

  -- the group is the new one
  group_here : group_at after g ≡ record { first = first_of gs g; count = room_of gs g; table = t }
  group_here = get_or-set_same gs g _ _ known

  -- the other groups are as before
  group_other : (h : ℕ) → h ≢ g → group_at after h ≡ group_at gs h
  group_other h ne = get_or-set_other gs g h _ _ ne

  -- so is its slab
  table_here : table_of after g ≡ t
  table_here = ap (λ (x : Group). x.table) group_here

  -- so are their slabs
  table_other : (h : ℕ) → h ≢ g → table_of after h ≡ table_of gs h
  table_other h ne = ap (λ (x : Group). x.table) (group_other h ne)

  -- all runs begin as before
  same_first : (h : ℕ) → first_of after h ≡ first_of gs h
  same_first h = elim (cases_eq h g) as (λ _. first_of after h ≡ first_of gs h) [
    | inl e ↦ rw e (ap (λ (x : Group). x.first) group_here)
    | inr ne ↦ ap (λ (x : Group). x.first) (group_other h ne)
  ]

  -- and are as long
  same_room : (h : ℕ) → room_of after h ≡ room_of gs h
  same_room h = elim (cases_eq h g) as (λ _. room_of after h ≡ room_of gs h) [
    | inl e ↦ rw e (ap (λ (x : Group). x.count) group_here)
    | inr ne ↦ ap (λ (x : Group). x.count) (group_other h ne)
  ]

  -- and their slabs have as many keys
  same_capacity : (h : ℕ) → (table_of after h).capacity ≡ (table_of gs h).capacity
  same_capacity h = elim (cases_eq h g) as (λ _. (table_of after h).capacity ≡ (table_of gs h).capacity) [
    | inl e ↦ rw e (ap (λ (x : Group). x.table.capacity) group_here ∙ room)
    | inr ne ↦ ap (λ (x : Group). x.table.capacity) (group_other h ne)
  ]

  -- it is a slot
  within : slot < length cs
  within = tied.within g k known key

  -- with a state
  listed : slot < length ss
  listed = let h = within in omega (arith, tied.listed, h)

  -- of the class
  class_here : get_or cs slot 0 ≡ g
  class_here = tied.named g k known key

  -- each key tells whether its slot is free
  taken_after : (h j : ℕ) → h < length gs → j < room_of gs h → is_some (get (table_of after h) j) ≡ not (is_free (state_at (set ss slot s) (first_of gs h + j)))
  taken_after h j kh kj = elim (cases_eq h g) as (λ _. is_some (get (table_of after h) j) ≡ not (is_free (state_at (set ss slot s) (first_of gs h + j)))) [
    | inl e ↦ elim (cases_eq j k) as (λ _. is_some (get (table_of after h) j) ≡ not (is_free (state_at (set ss slot s) (first_of gs h + j)))) [
      | inl f ↦ rw (e, f, table_here, updates.changed, get_or-set_same ss slot s Free listed) taken
      | inr nf ↦ (
          let away : first_of gs g + j ≢ slot = λ z. nf (omega arith) in
          let kj2 : j < room_of gs g = rw e at kj in
          rw (e, table_here, updates.others j nf, get_or-set_other ss slot (first_of gs g + j) s Free away) (tied.taken g j known kj2)
          )
    ]
    | inr ne ↦ (
        let away : first_of gs h + j ≢ slot = λ z. ne (sym (tied.named h j kh kj) ∙ (ap (λ n. get_or cs n 0) z ∙ class_here)) in
        rw (table_other h ne, get_or-set_other ss slot (first_of gs h + j) s Free away) (tied.taken h j kh kj)
        )
  ]

  -- the surplus keys stay taken
  surplus_after : (h : ℕ) → h < length gs → HoldsSurplus (table_of after h) (room_of gs h)
  surplus_after h kh = elim (cases_eq h g) as (λ _. HoldsSurplus (table_of after h) (room_of gs h)) [
    | inl e ↦ λ j past low. (
        let past_g : room_of gs g ≤ j = rw e at past in
        let low_g : j < (table_of gs g).capacity = rw e at (rw (same_capacity h) at low) in
        rw (e, table_here, updates.others j (λ z. absurd (omega arith))) (tied.surplus g known j past_g low_g)
        )
    | inr ne ↦ rw (table_other h ne) (tied.surplus h kh)
  ]

  -- and the counts add up
  count_after : (h : ℕ) → h < length gs → slab_len (table_of after h) + free_slots h cs (set ss slot s) ≡ (table_of gs h).capacity
  count_after h kh =
      let change = free_slots-set h cs ss slot s within listed in
      let was = tied.count h kh in
      elim (cases_eq h g) as (λ _. slab_len (table_of after h) + free_slots h cs (set ss slot s) ≡ (table_of gs h).capacity) [
        | inl e ↦ (
            let test : (get_or cs slot 0 == h) ≡ true = eq-eqb (get_or cs slot 0) h (class_here ∙ sym e) in
            let step = rw test at change in
            let here : slab_len (table_of after h) ≡ slab_len t = rw e (ap (λ (x : Slab (Unit {0})). slab_len x) table_here) in
            let count_h : slab_len t + one_if (is_free s) ≡ slab_len (table_of gs h) + one_if (is_free (state_at ss slot)) = rw e count in
            omega (arith, step, was, here, count_h)
            )
        | inr ne ↦ (
            let test : (get_or cs slot 0 == h) ≡ false = ne_eqb (get_or cs slot 0) h (λ z. ne (sym z ∙ class_here)) in
            let step = rw test at change in
            let here : slab_len (table_of after h) ≡ slab_len (table_of gs h) = ap (λ (x : Slab (Unit {0})). slab_len x) (table_other h ne) in
            omega (arith, step, was, here)
            )
      ]

  -- the slabs still tell what is taken
  pub tied_after : IsTied after cs (set ss slot s)
  tied_after = record {
    listed = rw length-set tied.listed;
    home = λ i h. let old = tied.home i h in record {
      known = rw length-set old.known;
      from = rw (same_first (get_or cs i 0)) old.from;
      to = rw (same_first (get_or cs i 0), same_room (get_or cs i 0)) old.to;
    };
    within = λ h j kh kj. rw (same_first h) (tied.within h j (rw length-set at kh) (rw (same_room h) at kj));
    named = λ h j kh kj. rw (same_first h) (tied.named h j (rw length-set at kh) (rw (same_room h) at kj));
    taken = λ h j kh kj. rw (same_first h) (taken_after h j (rw length-set at kh) (rw (same_room h) at kj));
    surplus = λ h kh. rw (same_room h) (surplus_after h (rw length-set at kh));
    count = λ h kh. rw (same_capacity h) (count_after h (rw length-set at kh));
    fits = λ h kh. tied.fits h (rw length-set at kh);
  }

-- a free slot was taken
module _ (gs : List Group) (cs : List ℕ) (ss : List State) (g key : ℕ) (v : Group) (t : Slab (Unit {0})) (tied : IsTied gs cs ss)
    (some : 0 < free_slots g cs ss) (read : v ≡ get_or gs g v) (vacant : get v.table key ≡ None) (low : key < t.capacity) (room : t.capacity ≡ v.table.capacity) where
  -- the class is known
  known : g < length gs
  known = known_class gs cs ss g tied some

  -- the group that was read
  group_is : v ≡ group_at gs g
  group_is = group_read gs g v known read

  -- the key is no surplus key, so it is one of the run
  key_low : key < room_of gs g
  key_low = elim (cases_lt key (room_of gs g)) as (λ _. key < room_of gs g) [
    | inl low_key ↦ low_key
    | inr past ↦ absurd (
        let within : key < (table_of gs g).capacity = rw (room ∙ ap (λ (x : Group). x.table.capacity) group_is) at low in
        let none : get (table_of gs g) key ≡ None = rw group_is at vacant in
        cc (tied.surplus g known key past within, ap is_some none)
        )
  ]

  -- so the slot is one of the run
  same_slot : v.first + key ≡ first_of gs g + key
  same_slot = ap (λ (x : Group). x.first + key) group_is

  -- it was free
  pub vacant_state : state_at ss (v.first + key) ≡ Free
  vacant_state = vacant_is_free _ (rw same_slot (sym (ap is_some (ap (λ (x : Group). get x.table key) (sym group_is) ∙ vacant)) ∙ tied.taken g key known key_low))

  -- it is a slot
  pub taken_within : v.first + key < length cs
  taken_within = rw same_slot (tied.within g key known key_low)

  -- with a state
  pub taken_listed : v.first + key < length ss
  taken_listed = let h = taken_within in omega (arith, tied.listed, h)

  -- of the class
  pub taken_class : get_or cs (v.first + key) 0 ≡ g
  taken_class = rw same_slot (tied.named g key known key_low)

  -- the slabs tell that it is taken
  pub tied_taken : (s : State) → is_free s ≡ false → Updates v.table t key (Some tt) → slab_len t ≡ slab_len v.table + 1
      → IsTied (set gs g (record { first = v.first; count = v.count; table = t })) cs (set ss (v.first + key) s)
  tied_taken s not_free updates longer =
      let updates1 : Updates (table_of gs g) t key (Some tt) = rw group_is at updates in
      let longer1 : slab_len t ≡ slab_len (table_of gs g) + 1 = rw group_is at longer in
      let was : state_at ss (first_of gs g + key) ≡ Free = rw (← same_slot) vacant_state in
      rw group_is (tied_after gs cs ss tied g key known key_low s (Some tt) t updates1 (sym (ap not not_free)) (room ∙ ap (λ (x : Group). x.table.capacity) group_is)
      (rw (not_free, was) (omega (arith, longer1))))

-- a slot that is not free
module _ (gs : List Group) (cs : List ℕ) (ss : List State) (slot g : ℕ) (tied : IsTied gs cs ss) (within_cs : slot < length cs)
    (class_is : g ≡ get_or cs slot 0) (held : is_free (state_at ss slot) ≡ false) where
  -- it is in the run of its class
  in_group : IsIn gs g slot
  in_group = rw class_is (tied.home slot within_cs)

  -- its class is known
  pub held_known : g < length gs
  held_known = in_group.known

  -- its key gives it back
  place : first_of gs g + (slot - first_of gs g) ≡ slot
  place = let h = in_group in omega (arith, h)

  -- its key is one of the run
  place_low : slot - first_of gs g < room_of gs g
  place_low = let h = in_group in omega (arith, h)

  -- its key is taken
  is_taken : is_some (get (table_of gs g) (slot - first_of gs g)) ≡ true
  is_taken = tied.taken g (slot - first_of gs g) held_known place_low ∙ rw (place, held) refl

  -- has another state
  pub tied_moved : (s : State) → is_free s ≡ false → IsTied gs cs (set ss slot s)
  tied_moved s not_free =
      let same : set gs g (group_at gs g) ≡ gs = set-get_or gs g _ in
      let after = tied_after gs cs ss tied g (slot - first_of gs g) held_known place_low s (get (table_of gs g) (slot - first_of gs g)) (table_of gs g)
      (record { changed = refl; others = λ other ne. refl }) (is_taken ∙ sym (ap not not_free)) refl (rw (place, not_free, held) refl) in
      rw (place, same) at after

  -- was given back
  pub tied_freed : (v : Group) (t : Slab (Unit {0})) (o : Option (Unit {0})) → v ≡ get_or gs g v → o ≡ get v.table (slot - v.first) → Updates v.table t (slot - v.first) None
      → OnSome o (slab_len t + 1 ≡ slab_len v.table) → t.capacity ≡ v.table.capacity
      → IsTied (set gs g (record { first = v.first; count = v.count; table = t })) cs (set ss slot Free)
  tied_freed v t o read found updates shorter room =
      let group_is : v ≡ group_at gs g = group_read gs g v held_known read in
      let found1 : o ≡ get (table_of gs g) (slot - first_of gs g) = rw group_is at found in
      let updates1 : Updates (table_of gs g) t (slot - first_of gs g) None = rw group_is at updates in
      let shorter1 : slab_len t + 1 ≡ slab_len (table_of gs g) = rw group_is at (on_some o (ap is_some found1 ∙ is_taken) shorter) in
      let after = tied_after gs cs ss tied g (slot - first_of gs g) held_known place_low Free None t updates1 refl (room ∙ ap (λ (x : Group). x.table.capacity) group_is)
      (rw (place, held) (omega (arith, shorter1))) in
      let after1 = rw place at after in
      rw group_is after1
