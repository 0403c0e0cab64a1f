-- What is left to others of a pool, where one slot of a holder changes.
use Rattle.std.proofs.Common.{◌≡◌, ℕ, zero, suc, ◌+◌, ◌<◌, ◌≤◌, List, [], ◌∷◌, length, set, inl, inr, refl, sym, ◌∙◌, length-set, arith, Option, Some, None}
use Rattle.std.proofs.lemmas.Bool.{cases_eq}
use Rattle.block_pool.specs.declared.state.State.{State}
use Rattle.block_pool.specs.declared.state.State.TheVariants.{Free, Owned}
use Rattle.block_pool.specs.Memory.{Memory, words_at, names, one_if}
use Rattle.block_pool.specs.Changes.{Changes, Stands, IsMemory}
use Rattle.block_pool.specs.Standing.{lease_at, named_count}
use Rattle.block_pool.proofs.OneChange.{words_same, words_other}
use Rattle.block_pool.proofs.Leases.{others}
use Rattle.block_pool.proofs.Frames.{frames_own, frames_placed, frames_cleared, frames_then, frames_refl}
use Rattle.block_pool.proofs.Counting.{moved, took_any, gave_back_any}
use Rattle.block_seats.specs.Seated.{IsWide}
use Rattle.block_seats.specs.Leaving.{Leaves}

-- a count of leases depends on classes alone
pub count-same : {p p1 : Memory} {t : ℕ} {s1 : State} {w : List ℕ} → Changes p p1 t s1 w → (class : ℕ) (xs : List (Option ℕ)) → named_count p1 class xs ≡ named_count p class xs
count-same ch class [] = refl
count-same ch class (None ∷ xs) = count-same ch class xs
count-same {p} {p1} ch class (Some x ∷ xs) =
    let here : names p1 class x ≡ names p class x = rw (ch.classes, ch.groups) refl in
    rw (here, count-same ch class xs) refl

-- one lease more, at an empty place
count-placed : (p : Memory) (class : ℕ) (xs : List (Option ℕ)) (i t : ℕ) → i < length xs → lease_at xs i ≡ None
    → named_count p class (set xs i (Some t)) ≡ named_count p class xs + one_if (names p class t)
count-placed p class [] i t within none = absurd (omega arith)
count-placed p class (None ∷ xs) zero t within none = omega arith
count-placed p class (Some x ∷ xs) zero t within none = absurd (cc)
count-placed p class (None ∷ xs) (suc i) t within none = count-placed p class xs i t (omega arith) none
count-placed p class (Some x ∷ xs) (suc i) t within none = omega (arith, count-placed p class xs i t (omega arith) none)

-- one lease less
count-cleared : (p : Memory) (class : ℕ) (xs : List (Option ℕ)) (i t : ℕ) → lease_at xs i ≡ Some t
    → named_count p class (set xs i None) + one_if (names p class t) ≡ named_count p class xs
count-cleared p class [] i t is = absurd (cc)
count-cleared p class (None ∷ xs) zero t is = absurd (cc)
count-cleared p class (Some x ∷ xs) zero t is =
    let same : x ≡ t = cc in
    rw same (omega arith)
count-cleared p class (None ∷ xs) (suc i) t is = count-cleared p class xs i t is
count-cleared p class (Some x ∷ xs) (suc i) t is = omega (arith, count-cleared p class xs i t is)

module _ {p p1 : Memory} {t : ℕ} {s1 : State} {w : List ℕ} (ch : Changes p p1 t s1 w) (down : p1.is_lifted ≡ p.is_lifted) (sound : IsMemory p) where
  -- slots stay as wide as they were
  pub wide-after : {s0 : State} → Stands p s0 t → (len : ℕ) → IsWide p len → IsWide p1 len
  wide-after {s0} st len wide slot within =
      let was : len ≤ length (words_at p.words slot) = wide slot (rw (← length-set p.words t w, ← ch.words) within) in
      elim (cases_eq slot t) as (λ _. len ≤ length (words_at p1.words slot)) [
        | inl e ↦ rw (e, words_same ch st, ch.width, ← e) was
        | inr ne ↦ rw (words_other ch slot ne) was
      ]

  -- a slot of the holder was written
  pub leaves-written : (xs : List (Option ℕ)) (i : ℕ) → lease_at xs i ≡ Some t → Stands p Owned t → s1 ≡ Owned → Leaves p p1 xs xs
  leaves-written xs i here st to_owned = record {
    owned = frames_own ch xs i here;
    others = λ s zs ws taken other k. others ch st (λ e. other (sym e)) k;
    wide = wide-after st;
    free = λ class.
        let same = moved ch sound st class refl (rw to_owned refl) in
        let count = count-same ch class xs in
        omega (arith, same, count);
    lifted = down;
    widest = ch.widest;
    most = ch.most;
  }

  -- a free slot came to an empty place
  pub leaves-taken : (xs : List (Option ℕ)) (i : ℕ) → i < length xs → lease_at xs i ≡ None → Stands p Free t → s1 ≡ Owned → Leaves p p1 xs (set xs i (Some t))
  leaves-taken xs i within none st to_owned = record {
    owned = frames_placed ch st xs i within;
    others = λ s zs ws taken other k. others ch st (λ e. taken (sym e)) k;
    wide = wide-after st;
    free = λ class.
        let fewer = took_any ch sound st class refl (rw to_owned refl) in
        let count = count-same ch class (set xs i (Some t)) in
        let more = count-placed p class xs i t within none in
        omega (arith, fewer, count, more);
    lifted = down;
    widest = ch.widest;
    most = ch.most;
  }

  -- a slot of the holder was given back
  pub leaves-cleared : (xs : List (Option ℕ)) (i : ℕ) → lease_at xs i ≡ Some t → Stands p Owned t → s1 ≡ Free → Leaves p p1 xs (set xs i None)
  leaves-cleared xs i here st to_free = record {
    owned = frames_cleared ch xs i here;
    others = λ s zs ws taken other k. others ch st (λ e. other (sym e)) k;
    wide = wide-after st;
    free = λ class.
        let more = gave_back_any ch sound st class to_free refl in
        let count = count-same ch class (set xs i None) in
        let fewer = count-cleared p class xs i t here in
        omega (arith, more, count, fewer);
    lifted = down;
    widest = ch.widest;
    most = ch.most;
  }

-- nothing was done
pub leaves-refl : {p : Memory} (xs : List (Option ℕ)) → Leaves p p xs xs
leaves-refl xs = record {
  owned = frames_refl xs;
  others = λ s zs ws taken other k. k;
  wide = λ len wide. wide;
  free = λ class. refl;
  lifted = refl;
  widest = refl;
  most = refl;
}

-- one change after another
pub leaves-then : {p p1 p2 : Memory} {xs ys zs : List (Option ℕ)} → Leaves p p1 xs ys → Leaves p1 p2 ys zs → Leaves p p2 xs zs
leaves-then a b = record {
  owned = frames_then a.owned b.owned;
  others = λ s zs ws taken other k. b.others s zs ws taken other (a.others s zs ws taken other k);
  wide = λ len wide. b.wide len (a.wide len wide);
  free = λ class. b.free class ∙ a.free class;
  lifted = b.lifted ∙ a.lifted;
  widest = b.widest ∙ a.widest;
  most = b.most ∙ a.most;
}
