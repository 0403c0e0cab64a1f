-- How many slots of a class are free.
use Rattle.std.proofs.Common.{◌≡◌, ℕ, zero, suc, ◌+◌, ◌<◌, false, List, [], ◌∷◌, length, get_or, set, arith, refl}
use Rattle.std.specs.Prelude.{◌==◌}
use Rattle.block_pool.specs.declared.state.State.{State}
use Rattle.block_pool.specs.declared.state.State.TheVariants.{Free}
use Rattle.block_pool.specs.Memory.{free_slots, serves, one_if}
use Rattle.std.proofs.lemmas.Bool.Decides.{nat_tests}

-- after one slot has another state
pub free_slots-set : (k : ℕ) (cs : List ℕ) (ss : List State) (t : ℕ) (s : State) → t < length cs → t < length ss
    → free_slots k cs (set ss t s) + one_if (serves (get_or ss t Free) (get_or cs t 0) k) ≡ free_slots k cs ss + one_if (serves s (get_or cs t 0) k)
free_slots-set k [] ss t s h l = absurd (omega arith)
free_slots-set k (c ∷ cs) [] t s h l = absurd (omega arith)
free_slots-set k (c ∷ cs) (x ∷ ss) zero s h l = omega arith
free_slots-set k (c ∷ cs) (x ∷ ss) (suc t) s h l = omega (arith, free_slots-set k cs ss t s (omega arith) (omega arith))

-- a lower class is another one
unequal : (c k : ℕ) → c < k → (c == k) ≡ false
unequal c k h = grind (arith, nat_tests)

-- none, where no slot is of that class
pub free_slots-none : (k : ℕ) (cs : List ℕ) (ss : List State) → ((slot : ℕ) → slot < length cs → get_or cs slot 0 < k) → free_slots k cs ss ≡ 0
free_slots-none k [] ss below = refl
free_slots-none k (c ∷ cs) [] below = refl
free_slots-none k (c ∷ cs) (s ∷ ss) below =
    let rest : free_slots k cs ss ≡ 0 = free_slots-none k cs ss (λ slot h. below (suc slot) (omega arith)) in
    let low : c < k = below 0 (omega arith) in
    rw (unequal c k low, rest) refl
