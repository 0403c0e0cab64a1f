-- What others hold, where one slot of a pool changes.
use Rattle.std.proofs.Common.{◌≡◌, ◌≢◌, ℕ, ◌+◌, ◌<◌, List, [], ◌∷◌, ◌++◌, length, set, inl, inr, refl, ap, sym, ◌∙◌, arith, Option, Some, None}
use Rattle.std.proofs.lemmas.List.{get_or_push, get_or_append_left, get_or-set_same, get_or-set_other}
use Rattle.std.proofs.lemmas.Bool.{cases_eq}
use Rattle.block_pool.specs.declared.state.State.{State}
use Rattle.block_pool.specs.declared.state.State.TheVariants.{Free, Owned, Awaiting, Cached, Sending, Lifted}
use Rattle.block_pool.specs.Memory.{Memory, words_at, state_at, names, one_if}
use Rattle.block_pool.specs.Changes.{Changes, Stands}
use Rattle.block_pool.specs.Standing.{Holds, Keeps, StandsIn, NoShared, Frames, FramesAll, lease_at, named_count}
use Rattle.block_pool.proofs.OneChange.{stands_other, words_other}
use Rattle.block_pool.proofs.Leases.{holds_along, same_reading, others, lease_within, keep_refl}

-- a slot of another kind, or of an owned list, changes
module _ {p p1 : Memory} {t : ℕ} {s1 : State} {w : List ℕ} (ch : Changes p p1 t s1 w) (xs : List (Option ℕ)) where
  -- a slot of another kind
  pub frames_other : {s0 : State} → Stands p s0 t → s0 ≢ Owned → Frames p p1 xs xs
  frames_other st ne = record { others_stay = λ zs ws apart k. (others ch st ne k, apart) }

  -- a slot of the list itself
  pub frames_own : (i : ℕ) → lease_at xs i ≡ Some t → Frames p p1 xs xs
  frames_own i here = record {
    others_stay = λ zs ws apart k.
        let away : (j x : ℕ) → lease_at zs j ≡ Some x → x ≢ t = λ j x e z. apart.differ i j t here (e ∙ ap Some z) in (
          record {
            holds = holds_along zs zs (λ j. j) (λ j l e. e) (λ j x e. (e, λ q. stands_other ch q (away j x e))) k.holds;
            words_are = same_reading (words_at p1.words) (words_at p.words) zs (λ j x e. words_other ch x (away j x e)) ∙ k.words_are;
          },
          apart,
        );
  }

-- nothing was done
pub frames_refl : {p : Memory} (xs : List (Option ℕ)) → Frames p p xs xs
frames_refl xs = record { others_stay = λ zs ws apart k. (k, apart) }

-- one call after another
pub frames_then : {p p1 p2 : Memory} {xs ys vs : List (Option ℕ)} → Frames p p1 xs ys → Frames p1 p2 ys vs → Frames p p2 xs vs
frames_then a b = record { others_stay = λ zs ws apart k. let r = a.others_stay zs ws apart k in b.others_stay zs ws r.1 r.0 }

-- a lease of the front
front_lease : (front : List (Option ℕ)) (o : Option ℕ) (j x : ℕ) → lease_at front j ≡ Some x → lease_at (front ++ o ∷ []) j ≡ Some x
front_lease front o j x e = get_or_append_left front (o ∷ []) None j (lease_within front j x e) ∙ e

-- the last lease
pub last_lease : (front : List (Option ℕ)) (o : Option ℕ) → lease_at (front ++ o ∷ []) (length front) ≡ o
last_lease front o = get_or_push front o None (length front) refl

-- the front shares nothing more
front_apart : (front : List (Option ℕ)) (o : Option ℕ) (zs : List (Option ℕ)) → NoShared (front ++ o ∷ []) zs → NoShared front zs
front_apart front o zs n = record { differ = λ i j slot a b. n.differ i j slot (front_lease front o i slot a) b }

-- the last place goes, with no lease in it
pub pop_none_holds : {p : Memory} {s : State} (front : List (Option ℕ)) → Holds p s (front ++ None ∷ []) → Holds p s front
pop_none_holds front h = holds_along (front ++ None ∷ []) front (λ j. j) (λ j k e. e) (λ j x e. (front_lease front None j x e, λ q. q)) h

-- and shares nothing more
pub pop_none_frames : {p : Memory} (front : List (Option ℕ)) → Frames p p (front ++ None ∷ []) front
pop_none_frames front = record { others_stay = λ zs ws apart k. (k, front_apart front None zs apart) }

-- the last lease goes
pub pop_holds : {p p1 : Memory} {t : ℕ} {s s1 : State} {w : List ℕ} → Changes p p1 t s1 w → (front : List (Option ℕ)) → Holds p s (front ++ Some t ∷ []) → Holds p1 s front
pop_holds {p} {p1} {t} {s} {s1} {w} ch front h =
    holds_along (front ++ Some t ∷ []) front (λ j. j) (λ j k e. e)
    (λ j x e. (front_lease front (Some t) j x e, λ q. stands_other ch q (λ z. absurd (last_place j x e z)))) h
  where
    last_place : (j x : ℕ) → lease_at front j ≡ Some x → x ≡ t → ⊥
    last_place j x e z =
        let same : j ≡ length front = h.apart j (length front) x (front_lease front (Some t) j x e) (last_lease front (Some t) ∙ ap Some (sym z)) in
        let within : j < length front = lease_within front j x e in
        omega arith

-- and others keep what they hold
pub pop_frames : {p p1 : Memory} {t : ℕ} {s1 : State} {w : List ℕ} → Changes p p1 t s1 w → (front : List (Option ℕ)) → Frames p p1 (front ++ Some t ∷ []) front
pop_frames {p} {p1} {t} {s1} {w} ch front = record {
  others_stay = λ zs ws apart k.
      let r = (frames_own ch (front ++ Some t ∷ []) (length front) (last_lease front (Some t))).others_stay zs ws apart k in
      (r.0, front_apart front (Some t) zs apart);
}

-- one lease more
pub named_count-push : (p : Memory) (class : ℕ) (front : List (Option ℕ)) (t : ℕ) → named_count p class (front ++ Some t ∷ []) ≡ named_count p class front + one_if (names p class t)
named_count-push p class [] t = omega arith
named_count-push p class (None ∷ xs) t = named_count-push p class xs t
named_count-push p class (Some x ∷ xs) t = omega (arith, named_count-push p class xs t)

-- one empty place more
pub named_count-push_none : (p : Memory) (class : ℕ) (front : List (Option ℕ)) → named_count p class (front ++ None ∷ []) ≡ named_count p class front
named_count-push_none p class [] = refl
named_count-push_none p class (None ∷ xs) = named_count-push_none p class xs
named_count-push_none p class (Some x ∷ xs) = ap (λ n. one_if (names p class x) + n) (named_count-push_none p class xs)

-- a slot of an owned list was written or given back
pub frames_all : {p p1 : Memory} {t : ℕ} {s1 : State} {w : List ℕ} → Changes p p1 t s1 w → (xs : List (Option ℕ)) (i : ℕ) → lease_at xs i ≡ Some t → Stands p Owned t → FramesAll p p1 xs
frames_all {p} {p1} {t} {s1} {w} ch xs i here st = record { all_stay = λ s zs ws taken apart k. by_state s zs ws taken apart k }
  where
    by_state : (s : State) (zs : List (Option ℕ)) (ws : List (Option (List ℕ))) → s ≢ Free → (s ≡ Owned → NoShared xs zs) → Keeps p s zs ws → Keeps p1 s zs ws
    by_state Free zs ws taken apart k = absurd (taken refl)
    by_state Owned zs ws taken apart k = ((frames_own ch xs i here).others_stay zs ws (apart refl) k).0
    by_state Awaiting zs ws taken apart k = others ch st (λ e. absurd cc) k
    by_state Cached zs ws taken apart k = others ch st (λ e. absurd cc) k
    by_state Sending zs ws taken apart k = others ch st (λ e. absurd cc) k
    by_state Lifted zs ws taken apart k = others ch st (λ e. absurd cc) k

-- a free slot was taken: nobody held it
pub frames_all_free : {p p1 : Memory} {t : ℕ} {s1 : State} {w : List ℕ} → Changes p p1 t s1 w → (xs : List (Option ℕ)) → Stands p Free t → FramesAll p p1 xs
frames_all_free ch xs st = record { all_stay = λ s zs ws taken apart k. others ch st (λ e. taken (sym e)) k }

-- nothing was done
pub frames_all_refl : {p : Memory} (xs : List (Option ℕ)) → FramesAll p p xs
frames_all_refl xs = record { all_stay = λ s zs ws taken apart k. k }

-- one call after another
pub frames_all_then : {p p1 p2 : Memory} {xs : List (Option ℕ)} → FramesAll p p1 xs → FramesAll p1 p2 xs → FramesAll p p2 xs
frames_all_then a b = record { all_stay = λ s zs ws taken apart k. b.all_stay s zs ws taken apart (a.all_stay s zs ws taken apart k) }

-- a free slot came to a place of an owned list
pub frames_placed : {p p1 : Memory} {t : ℕ} {s1 : State} {w : List ℕ} → Changes p p1 t s1 w → Stands p Free t → (xs : List (Option ℕ)) (i : ℕ) → i < length xs → Frames p p1 xs (set xs i (Some t))
frames_placed {p} {p1} {t} ch st xs i within = record {
  others_stay = λ zs ws apart k. (
    others ch st (λ e. absurd cc) k,
    record {
      differ = λ j l slot a b. elim (cases_eq j i) as (λ _. ⊥) [
        | inl z ↦ (
            let same : slot ≡ t = cc (ap (lease_at (set xs i (Some t))) z, get_or-set_same xs i (Some t) None within, a) in
            let taken : Owned ≡ Free = sym (k.holds.stands l slot b).state ∙ (ap (state_at p.states) same ∙ st.state) in
            absurd (cc)
            )
        | inr ne ↦ apart.differ j l slot (sym (get_or-set_other xs i j (Some t) None ne) ∙ a) b
      ];
    },
  );
}

-- a slot of an owned list left its place
pub frames_cleared : {p p1 : Memory} {t : ℕ} {s1 : State} {w : List ℕ} → Changes p p1 t s1 w → (xs : List (Option ℕ)) (i : ℕ) → lease_at xs i ≡ Some t → Frames p p1 xs (set xs i None)
frames_cleared {p} {p1} {t} ch xs i here = record {
  others_stay = λ zs ws apart k. (
    ((frames_own ch xs i here).others_stay zs ws apart k).0,
    record {
      differ = λ j l slot a b. elim (cases_eq j i) as (λ _. ⊥) [
        | inl z ↦ absurd (cc (ap (lease_at (set xs i None)) z, get_or-set_same xs i None None (lease_within xs i t here), a))
        | inr ne ↦ apart.differ j l slot (sym (get_or-set_other xs i j None None ne) ∙ a) b
      ];
    },
  );
}

-- a value still stands in the pool, after a call that wrote its owned slots alone
pub stands_in_after : {p p1 : Memory} {own ys await keep send : List (Option ℕ)} → FramesAll p p1 own → Holds p1 Owned ys → StandsIn p own await keep send → StandsIn p1 ys await keep send
stands_in_after {p} {p1} {own} {ys} {await} {keep} {send} f h st = record {
  owned = h;
  awaited = (f.all_stay Awaiting _ _ (λ e. absurd cc) (λ e. absurd cc) (keep_refl await st.awaited)).holds;
  cached = (f.all_stay Cached _ _ (λ e. absurd cc) (λ e. absurd cc) (keep_refl keep st.cached)).holds;
  sending = (f.all_stay Sending _ _ (λ e. absurd cc) (λ e. absurd cc) (keep_refl send st.sending)).holds;
}
