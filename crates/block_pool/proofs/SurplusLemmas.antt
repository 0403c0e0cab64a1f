-- A slab with no room left has no vacant key.
use Rattle.std.proofs.Common.{◌≡◌, ℕ, suc, ◌<◌, ◌≤◌, true, List, [], ◌∷◌, zero, length, get_or, count_by, refl, arith, Option, Some, None, is_some, cond}
use Rattle.std.proofs.lemmas.List.Sums.{count_by-le-length, sum_by-cons}
use Rattle.slab.specs.Slab.{Slab, slab_len}
use Rattle.block_pool.specs.Surplus.{IsVacantBelow}

-- where as many places have a value as there are, each has one
each_some : (xs : List (Option (Unit {0}))) (k : ℕ) → length xs ≤ count_by is_some xs → k < length xs → is_some (get_or xs k None) ≡ true
each_some [] k full low = absurd (omega arith)
each_some (None ∷ xs) k full low = absurd (omega (arith, count_by-le-length is_some xs, sum_by-cons (λ o. cond (is_some o) 1 0) None xs))
each_some (Some x ∷ xs) zero full low = refl
each_some (Some x ∷ xs) (suc k) full low = each_some xs k (omega (arith, sum_by-cons (λ o. cond (is_some o) 1 0) (Some x) xs)) (omega arith)

-- as many keys are taken as there are, so each is
pub full_taken : (t : Slab (Unit {0})) → t.capacity ≤ slab_len t → slab_len t ≤ t.capacity → length t.slots ≤ t.capacity → IsVacantBelow t 0
full_taken t full most short = record {
  vacant = λ k low. absurd (omega arith);
  surplus = λ k past low. each_some t.slots k (omega arith) (let e = count_by-le-length is_some t.slots in omega arith);
  len = omega arith;
}
