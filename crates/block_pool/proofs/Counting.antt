-- How many slots are free, and how wide they are, after one has changed.
use Rattle.std.proofs.Common.{◌≡◌, inl, inr, ℕ, ◌+◌, ◌<◌, ◌≤◌, Bool, true, false, List, length, refl, arith, length-set}
use Rattle.std.specs.Prelude.{◌&&◌}
use Rattle.std.proofs.lemmas.Bool.{cases_eq, cases_Bool}
use Rattle.block_pool.specs.declared.state.State.{State}
use Rattle.block_pool.specs.declared.state.State.TheVariants.{Free}
use Rattle.block_pool.specs.Memory.{Memory, words_at, free_in, group_of, names, one_if, is_free}
use Rattle.block_pool.specs.Changes.{IsMemory, Changes, Stands, HasWidth, AreWide}
use Rattle.block_pool.proofs.FreeSlots.{free_slots-set}
use Rattle.block_pool.proofs.OneChange.{words_same, words_other}

-- as many classes and states as slots
pub memory_after : {p p1 : Memory} {t : ℕ} {s1 : State} {w : List ℕ} → Changes p p1 t s1 w → IsMemory p → IsMemory p1
memory_after ch m = record {
  states = rw (ch.states, ch.words, length-set, length-set) m.states;
  classes = rw (ch.classes, ch.words, length-set) m.classes;
}

-- a slot counts among the free ones of a class
abbrev pub counts : Memory → ℕ → ℕ → State → Bool
counts p class slot s = names p class slot && is_free s

-- the count after one slot has another state
pub free_after : {p p1 : Memory} {t : ℕ} {s0 s1 : State} {w : List ℕ} → Changes p p1 t s1 w → IsMemory p → Stands p s0 t → (k : ℕ)
    → free_in p1 k + one_if (counts p k t s0) ≡ free_in p k + one_if (counts p k t s1)
free_after {p} {p1} {t} {s0} {s1} {w} ch m st k =
    let within : t < length p.classes = omega (arith, m.classes, st.within) in
    rw (ch.classes, ch.groups, ch.states, ← st.state) (free_slots-set (group_of p.groups k) p.classes p.states t s1 within st.listed)

-- a class keeps its width
pub width_after : {p p1 : Memory} {t : ℕ} {s0 s1 : State} {w : List ℕ} → Changes p p1 t s1 w → Stands p s0 t → (k width : ℕ) → HasWidth p k width → HasWidth p1 k width
width_after {p} {p1} {t} {s0} {s1} {w} ch st k width h slot within named =
    let was : length (words_at p.words slot) ≡ width = h slot (rw (← length-set p.words t w, ← ch.words) within) (rw (ch.classes, ch.groups) at named) in
    elim (cases_eq slot t) as (λ _. length (words_at p1.words slot) ≡ width) [
      | inl e ↦ rw (e, words_same ch st, ch.width, ← e) was
      | inr ne ↦ rw (words_other ch slot ne) was
    ]

-- a class that is so wide is wide enough for less
pub wide_enough : (p : Memory) (k width len : ℕ) → HasWidth p k width → len ≤ width → AreWide p k len
wide_enough p k width len h fits slot within named = omega (arith, fits, h slot within named)

module _ {p p1 : Memory} {t : ℕ} {s0 s1 : State} {w : List ℕ} (ch : Changes p p1 t s1 w) (sound : IsMemory p) (st : Stands p s0 t) (k : ℕ) where
  -- a slot was given back
  pub gave_back : s1 ≡ Free → is_free s0 ≡ false → names p k t ≡ true → free_in p1 k ≡ free_in p k + 1
  gave_back to_free was_taken named =
      let eq = free_after ch sound st k in
      let a : counts p k t s0 ≡ false = rw (named, was_taken) refl in
      let b : counts p k t s1 ≡ true = rw (named, to_free) refl in
      let eq2 = rw (a, b) at eq in
      omega (arith, eq2)

  -- a slot was taken
  pub took : s0 ≡ Free → is_free s1 ≡ false → names p k t ≡ true → free_in p1 k + 1 ≡ free_in p k
  took was_free is_taken named =
      let eq = free_after ch sound st k in
      let a : counts p k t s0 ≡ true = rw (named, was_free) refl in
      let b : counts p k t s1 ≡ false = rw (named, is_taken) refl in
      let eq2 = rw (a, b) at eq in
      omega (arith, eq2)

  -- a slot was and is taken
  pub moved : is_free s0 ≡ false → is_free s1 ≡ false → free_in p1 k ≡ free_in p k
  moved was_taken is_taken =
      let eq = free_after ch sound st k in
      let same : counts p k t s0 ≡ counts p k t s1 = rw (was_taken, is_taken) refl in
      let eq2 = rw same at eq in
      omega (arith, eq2)

  -- a slot of another class
  pub unnamed : names p k t ≡ false → free_in p1 k ≡ free_in p k
  unnamed other =
      let eq = free_after ch sound st k in
      let a : counts p k t s0 ≡ false = rw other refl in
      let b : counts p k t s1 ≡ false = rw other refl in
      let eq2 = rw (a, b) at eq in
      omega (arith, eq2)

  -- a slot was given back, of this class or another
  pub gave_back_any : s1 ≡ Free → is_free s0 ≡ false → free_in p1 k ≡ free_in p k + one_if (names p k t)
  gave_back_any to_free was_taken = elim (cases_Bool (names p k t)) as (λ _. free_in p1 k ≡ free_in p k + one_if (names p k t)) [
    | inl yes_named ↦ rw yes_named (gave_back to_free was_taken yes_named)
    | inr other ↦ rw other (let same = unnamed other in omega arith)
  ]

  -- a slot was taken, of this class or another
  pub took_any : s0 ≡ Free → is_free s1 ≡ false → free_in p1 k + one_if (names p k t) ≡ free_in p k
  took_any was_free is_taken = elim (cases_Bool (names p k t)) as (λ _. free_in p1 k + one_if (names p k t) ≡ free_in p k) [
    | inl yes_named ↦ rw yes_named (took was_free is_taken yes_named)
    | inr other ↦ rw other (let same = unnamed other in omega arith)
  ]
