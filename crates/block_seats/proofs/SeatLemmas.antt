-- Blocks at other places than that of the slot that changes.
use Rattle.std.proofs.Common.{◌≡◌, ◌≢◌, ℕ, ◌≤◌, List, length, take, refl, ap, ◌∙◌, Option, Some, None}
use Rattle.std.specs.Option.{option_map}
use Rattle.block_pool.specs.declared.state.State.{State}
use Rattle.block_pool.specs.Memory.{Memory, words_at}
use Rattle.block_pool.specs.Changes.{Changes}
use Rattle.block_pool.specs.Standing.{Holds, lease_at}
use Rattle.block_pool.proofs.OneChange.{words_other}

module _ {p p1 : Memory} {t : ℕ} {s1 : State} {w : List ℕ} (ch : Changes p p1 t s1 w) where
  -- a slot that isn't the changed one
  pub read-other : (o : Option ℕ) (n m : ℕ) → n ≡ m → ((x : ℕ) → o ≡ Some x → x ≢ t) → option_map (λ slot. take n (words_at p1.words slot)) o ≡ option_map (λ slot. take m (words_at p.words slot)) o
  read-other None n m same away = refl
  read-other (Some x) n m same away = rw (same, words_other ch x (away x refl)) refl

  -- how long it is
  pub long-other : (xs : List (Option ℕ)) (n x i : ℕ) → lease_at xs i ≡ Some x → x ≢ t → n ≤ length (words_at p.words x) → n ≤ length (words_at p1.words x)
  long-other xs n x i here ne fits = rw (words_other ch x ne) fits

-- the slot at another place of the list isn't the one that is there
pub away-from : {p : Memory} {s : State} (xs : List (Option ℕ)) (i t j : ℕ) → Holds p s xs → lease_at xs i ≡ Some t → j ≢ i → (x : ℕ) → lease_at xs j ≡ Some x → x ≢ t
away-from xs i t j h here ne x there = λ z. ne (h.apart j i t (there ∙ ap Some z) here)
