-- One class more is laid out, and then no slot is taken.
use Rattle.std.proofs.Common.{◌≡◌, ℕ, zero, suc, subst, ◌+◌, ◌-◌, ◌<◌, ◌^◌, inl, inr, List, [], ◌∷◌, ◌++◌, length, get_or, replicate, refl, ap, ◌∙◌, arith, length-append}
use Rattle.std.proofs.lemmas.Bool.{cases_lt}
use Rattle.std.proofs.lemmas.List.{get_or_append_left, get_or-append-add, get_or_push, get_or-replicate, length-replicate, length_push}
use Rattle.block_pool.specs.declared.slots.Group.{Group}
use Rattle.block_pool.specs.declared.state.State.TheVariants.{Free}
use Rattle.block_pool.specs.Memory.{state_at}
use Rattle.block_pool.specs.Surplus.{IsVacantBelow}
use Rattle.block_pool.specs.Occupied.{IsIn, IsTied, group_at, first_of, table_of, room_of, members}
use Rattle.block_pool.specs.Laid.{IsLaid}
use Rattle.block_pool.proofs.Members.{free_slots-replicate, members-append, members-replicate_same, members-replicate_other, members-none}

module _ (gs : List Group) (cs : List ℕ) (laid : IsLaid gs cs) (v : Group) (n : ℕ) (first : v.first ≡ length cs) (room : v.count ≡ n) (vacant : IsVacantBelow v.table n)
    (fits : n < 2 ^ 32) where
  abbrev more : List Group
  more = gs ++ v ∷ []

  abbrev all : List ℕ
  all = cs ++ replicate n (length gs)

  -- one group more
  longer : length more ≡ length gs + 1
  longer = length_push gs v

  -- so many slots more
  total : length all ≡ length cs + n
  total = length-append cs (replicate n (length gs)) ∙ ap (λ k. length cs + k) (length-replicate n (length gs))

  -- the groups before
  old : (g : ℕ) → g < length gs → group_at more g ≡ group_at gs g
  old g h = get_or_append_left gs (v ∷ []) _ g h

  -- the new one
  new : group_at more (length gs) ≡ v
  new = get_or_push gs v _ (length gs) refl

  -- where the runs before begin
  old_first : (g : ℕ) → g < length gs → first_of more g ≡ first_of gs g
  old_first g h = ap (λ (x : Group). x.first) (old g h)

  -- how long they are
  old_room : (g : ℕ) → g < length gs → room_of more g ≡ room_of gs g
  old_room g h = ap (λ (x : Group). x.count) (old g h)

  -- their slabs
  old_table : (g : ℕ) → g < length gs → table_of more g ≡ table_of gs g
  old_table g h = ap (λ (x : Group). x.table) (old g h)

  -- where the new run begins
  new_first : first_of more (length gs) ≡ length cs
  new_first = ap (λ (x : Group). x.first) new ∙ first

  -- how long it is
  new_room : room_of more (length gs) ≡ n
  new_room = ap (λ (x : Group). x.count) new ∙ room

  -- a fact of each group, old or new
  by_group : (P : ℕ → Type 0) → ((g : ℕ) → g < length gs → P g) → P (length gs) → (g : ℕ) → g < length more → P g
  by_group P before last g h = elim (cases_lt g (length gs)) as (λ _. P g) [
    | inl low ↦ before g low
    | inr high ↦ (let same : length gs ≡ g = (let l = longer in omega arith) in subst P same last)
  ]

  -- the class of a slot before
  class_old : (slot : ℕ) → slot < length cs → get_or all slot 0 ≡ get_or cs slot 0
  class_old slot h = get_or_append_left cs (replicate n (length gs)) 0 slot h

  -- the class of a new slot
  class_new : (k : ℕ) → k < n → get_or all (length cs + k) 0 ≡ length gs
  class_new k h = get_or-append-add cs (replicate n (length gs)) k 0 ∙ get_or-replicate n k (length gs) 0 h

  -- each slot is in the run of its class
  home : (slot : ℕ) → slot < length all → IsIn more (get_or all slot 0) slot
  home slot h = elim (cases_lt slot (length cs)) as (λ _. IsIn more (get_or all slot 0) slot) [
    | inl low ↦ (
        let was = laid.home slot low in
        rw (class_old slot low) (record {
          known = let k = was.known in let l = longer in omega arith;
          from = rw (old_first (get_or cs slot 0) was.known) was.from;
          to = rw (old_first (get_or cs slot 0) was.known, old_room (get_or cs slot 0) was.known) was.to;
        })
        )
    | inr high ↦ (
        let k : ℕ = slot - length cs in
        let at : slot ≡ length cs + k = omega arith in
        let low : k < n = (let t = total in omega arith) in
        let here : get_or all slot 0 ≡ length gs = ap (λ i. get_or all i 0) at ∙ class_new k low in
        rw here (record {
          known = let l = longer in omega arith;
          from = rw new_first high;
          to = rw (new_first, new_room) (omega arith);
        })
        )
  ]

  -- each key is a slot
  within : (g : ℕ) → g < length more → (k : ℕ) → k < room_of more g → first_of more g + k < length all
  within = by_group (λ g. (k : ℕ) → k < room_of more g → first_of more g + k < length all)
      (λ g h k low. rw (old_first g h) (let was = laid.within g k h (rw (old_room g h) at low) in let t = total in omega arith))
      (λ k low. rw new_first (let few : k < n = rw new_room at low in let t = total in omega arith))

  -- of the class
  named : (g : ℕ) → g < length more → (k : ℕ) → k < room_of more g → get_or all (first_of more g + k) 0 ≡ g
  named = by_group (λ g. (k : ℕ) → k < room_of more g → get_or all (first_of more g + k) 0 ≡ g)
      (λ g h k low. rw (old_first g h) (let few : k < room_of gs g = rw (old_room g h) at low in class_old _ (laid.within g k h few) ∙ laid.named g k h few))
      (λ k low. rw new_first (class_new k (rw new_room at low)))

  -- just the keys of the runs are vacant
  is_vacant : (g : ℕ) → g < length more → IsVacantBelow (table_of more g) (room_of more g)
  is_vacant = by_group (λ g. IsVacantBelow (table_of more g) (room_of more g))
      (λ g h. rw (old_table g h, old_room g h) (laid.vacant g h))
      (rw (ap (λ (x : Group). x.table) new, new_room) vacant)

  -- each run has all slots of its class
  count : (g : ℕ) → g < length more → members g all ≡ room_of more g
  count = by_group (λ g. members g all ≡ room_of more g)
      (λ g h. rw (old_room g h) (
      let none : members g (replicate n (length gs)) ≡ 0 = members-replicate_other g (length gs) n (λ e. absurd (omega arith)) in
      let was = laid.count g h in
      members-append g cs (replicate n (length gs)) ∙ omega arith
      ))
      (rw new_room (
      let none : members (length gs) cs ≡ 0 = members-none (length gs) cs (λ slot h. (laid.home slot h).known) in
      let here = members-replicate_same (length gs) n in
      members-append (length gs) cs (replicate n (length gs)) ∙ omega arith
      ))

  -- and fits
  small : (g : ℕ) → g < length more → room_of more g < 2 ^ 32
  small = by_group (λ g. room_of more g < 2 ^ 32) (λ g h. rw (old_room g h) (laid.fits g h)) (rw new_room fits)

  -- one class more
  pub laid_push : IsLaid more all
  laid_push = record {
    home = home;
    within = λ g k h low. within g h k low;
    named = λ g k h low. named g h k low;
    vacant = is_vacant;
    count = count;
    fits = small;
  }

-- each slot is free
state-replicate : (n i : ℕ) → state_at (replicate n Free) i ≡ Free
state-replicate zero i = refl
state-replicate (suc n) zero = refl
state-replicate (suc n) (suc i) = state-replicate n i

-- no class
pub laid_none : IsLaid [] []
laid_none = record {
  home = λ slot h. absurd (omega arith);
  within = λ g k h low. absurd (omega arith);
  named = λ g k h low. absurd (omega arith);
  vacant = λ g h. absurd (omega arith);
  count = λ g h. absurd (omega arith);
  fits = λ g h. absurd (omega arith);
}

-- no slot is taken
pub tied_at_first : (gs : List Group) (cs : List ℕ) → IsLaid gs cs → IsTied gs cs (replicate (length cs) Free)
tied_at_first gs cs laid = record {
  listed = length-replicate (length cs) Free;
  home = laid.home;
  within = laid.within;
  named = laid.named;
  taken = λ g k h low. rw (state-replicate (length cs) (first_of gs g + k)) ((laid.vacant g h).vacant k low);
  surplus = λ g h. (laid.vacant g h).surplus;
  count = λ g h. rw (free_slots-replicate g cs) (omega (arith, laid.count g h, (laid.vacant g h).len));
  fits = λ g h. rw (laid.count g h) (laid.fits g h);
}
