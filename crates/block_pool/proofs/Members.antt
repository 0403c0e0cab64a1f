-- How many slots are of a class.
use Rattle.std.proofs.Common.{◌≡◌, ◌≢◌, ℕ, zero, suc, ◌+◌, ◌-◌, ◌<◌, ◌≤◌, inl, inr, true, false, Bool, List, [], ◌∷◌, ◌++◌, length, get_or, replicate, refl, ◌∙◌, arith, eq-eqb, ne_eqb}
use Rattle.std.specs.Prelude.{◌==◌, ◌&&◌}
use Rattle.std.proofs.lemmas.Bool.{cases_eq}
use Rattle.block_pool.specs.declared.state.State.{State}
use Rattle.block_pool.specs.declared.state.State.TheVariants.{Free}
use Rattle.block_pool.specs.Memory.{free_slots, one_if, is_free}
use Rattle.block_pool.specs.Occupied.{members}
use Rattle.block_pool.specs.Opened.{classes_from}

-- a test beside one that holds
and_true : (b : Bool) → (b && true) ≡ b
and_true true = refl
and_true false = refl

-- at first all slots of a class are free
pub free_slots-replicate : (g : ℕ) (cs : List ℕ) → free_slots g cs (replicate (length cs) Free) ≡ members g cs
free_slots-replicate g [] = refl
free_slots-replicate g (c ∷ cs) = rw (and_true (c == g), free_slots-replicate g cs) refl

-- as many at most as pass a stronger test
one_if-and : (b c : Bool) → one_if (b && c) ≤ one_if b
one_if-and true true = omega arith
one_if-and true false = omega arith
one_if-and false c = omega arith

-- no more slots of a class are free than there are
pub free_slots-members : (g : ℕ) (cs : List ℕ) (ss : List State) → free_slots g cs ss ≤ members g cs
free_slots-members g [] ss = omega arith
free_slots-members g (c ∷ cs) [] = omega arith
free_slots-members g (c ∷ cs) (s ∷ ss) = omega (arith, free_slots-members g cs ss, one_if-and (c == g) (is_free s))

-- two runs
pub members-append : (g : ℕ) (xs ys : List ℕ) → members g (xs ++ ys) ≡ members g xs + members g ys
members-append g [] ys = omega arith
members-append g (x ∷ xs) ys = omega (arith, members-append g xs ys)

-- a run of the class
pub members-replicate_same : (g n : ℕ) → members g (replicate n g) ≡ n
members-replicate_same g zero = refl
members-replicate_same g (suc n) = rw (eq-eqb g g refl, members-replicate_same g n) (omega arith)

-- a run of another class
pub members-replicate_other : (g c n : ℕ) → c ≢ g → members g (replicate n c) ≡ 0
members-replicate_other g c zero ne = refl
members-replicate_other g c (suc n) ne = rw (ne_eqb c g ne, members-replicate_other g c n ne) refl

-- none, where all slots are of lower classes
pub members-none : (g : ℕ) (cs : List ℕ) → ((slot : ℕ) → slot < length cs → get_or cs slot 0 < g) → members g cs ≡ 0
members-none g [] below = refl
members-none g (c ∷ cs) below =
    let rest : members g cs ≡ 0 = members-none g cs (λ slot h. below (suc slot) (omega arith)) in
    let low : c < g = below 0 (omega arith) in
    rw (ne_eqb c g (λ e. absurd (omega arith)), rest) refl

-- none of a lower class
members-before : (c g : ℕ) (ns : List ℕ) → g < c → members g (classes_from c ns) ≡ 0
members-before c g [] h = refl
members-before c g (n ∷ ns) h =
    members-append g (replicate n c) (classes_from (c + 1) ns)
    ∙ rw (members-replicate_other g c n (λ e. absurd (omega arith)), members-before (c + 1) g ns (omega arith)) refl

-- as many as were asked for
pub members-classes_from : (c g : ℕ) (ns : List ℕ) → c ≤ g → members g (classes_from c ns) ≡ get_or ns (g - c) 0
members-classes_from c g [] h = refl
members-classes_from c g (n ∷ ns) h =
    members-append g (replicate n c) (classes_from (c + 1) ns)
    ∙ elim (cases_eq c g) as (λ _. members g (replicate n c) + members g (classes_from (c + 1) ns) ≡ get_or (n ∷ ns) (g - c) 0) [
      | inl e ↦ (
          let none : members g (classes_from (c + 1) ns) ≡ 0 = members-before (c + 1) g ns (omega arith) in
          let here : members g (replicate n c) ≡ n = rw e (members-replicate_same g n) in
          let at : g - c ≡ 0 = omega arith in
          rw (none, here, at) (omega arith)
          )
      | inr ne ↦ (
          let none : members g (replicate n c) ≡ 0 = members-replicate_other g c n ne in
          let rest : members g (classes_from (c + 1) ns) ≡ get_or ns (g - (c + 1)) 0 = members-classes_from (c + 1) g ns (omega arith) in
          let at : g - c ≡ suc (g - (c + 1)) = omega arith in
          rw (none, rest, at) (omega arith)
          )
    ]
