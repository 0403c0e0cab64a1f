-- What a write at an index keeps of the elements before and behind it.
use Rattle.std.proofs.Common.{◌≡◌, ◌≢◌, ℕ, ◌+◌, ◌<◌, ◌≤◌, List, length, get_or, set, below_more, get_or-set_same, get_or-set_other, arith, subst, sym, ◌∙◌}

-- what holds of each element before `i`, and of the one written there, holds before `i + 1`
pub front_step : {A : Type 0} (P : ℕ → A → Type 0) (xs : List A) (d v : A) (i : ℕ) → i < length xs
    → ((k : ℕ) → k < i → P k (get_or xs k d)) → P i v → (k : ℕ) → k < i + 1 → P k (get_or (set xs i v) k d)
front_step P xs d v i inside front here =
    below_more (λ k. P k (get_or (set xs i v) k d)) i
    (λ k h. let ne : k ≢ i = omega arith in subst (P k) (sym (get_or-set_other xs i k v d ne)) (front k h))
    (subst (P i) (sym (get_or-set_same xs i v d inside)) here)

-- the elements behind stay
pub back_step : {A : Type 0} (xs ys : List A) (d v : A) (i : ℕ)
    → ((k : ℕ) → i ≤ k → get_or xs k d ≡ get_or ys k d) → (k : ℕ) → i + 1 ≤ k → get_or (set xs i v) k d ≡ get_or ys k d
back_step xs ys d v i back k h =
    let ne : k ≢ i = omega arith in
    let le : i ≤ k = omega arith in
    get_or-set_other xs i k v d ne ∙ back k le
