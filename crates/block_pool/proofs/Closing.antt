-- One lease less.
use Rattle.std.proofs.Common.{◌≡◌, ◌≢◌, ℕ, List, [], ◌∷◌, ◌++◌, refl, ◌∙◌, arith, Option, Some, None}
use Rattle.std.specs.Prelude.{IfNone}
use Rattle.std.specs.Option.{ForSome}
use Rattle.block_pool.specs.declared.state.State.TheVariants.{Free, Owned}
use Rattle.block_pool.specs.declared.state.State.{State}
use Rattle.block_pool.specs.Memory.{Memory, words_at, names}
use Rattle.block_pool.specs.Changes.{Stands, Writes}
use Rattle.block_pool.specs.Standing.{Holds, Frames, Closing}
use Rattle.block_pool.proofs.Frames.{frames_other, frames_refl, pop_holds, pop_frames, pop_none_holds, pop_none_frames, frames_then, last_lease, named_count-push, named_count-push_none}
use Rattle.block_pool.proofs.Leases.{others, keep_refl}
use Rattle.block_pool.proofs.Counting.{memory_after, gave_back_any}

-- one of the leases is given back
pub closing_step : (old p p1 : Memory) (all xs front : List (Option ℕ)) (o : Option ℕ) → Closing old p all xs → xs ≡ front ++ o ∷ []
    → ForSome o (λ slot. Writes p p1 slot Free (words_at p.words slot)) → IfNone o (p1 ≡ p) → Closing old p1 all front
closing_step old p p1 all xs front (Some t) k is gave none =
    let k1 : Closing old p all (front ++ Some t ∷ []) = rw is at k in
    let ch = (gave t refl).changes in
    let st = k1.stands.stands _ t (last_lease front (Some t)) in
    record {
      sound = memory_after ch k1.sound;
      stands = pop_holds ch front k1.stands;
      frame = frames_then k1.frame (pop_frames ch front);
      classes = ch.classes ∙ k1.classes;
      groups = ch.groups ∙ k1.groups;
      free = λ class.
          let count = gave_back_any ch k1.sound st class refl refl in
          let same : names p class t ≡ names old class t = rw (k1.classes, k1.groups) refl in
          let count1 = rw same at count in
          omega (arith, k1.free class, count1, named_count-push old class front t);
    }
closing_step old p p1 all xs front None k is gave none =
    let k1 : Closing old p all (front ++ None ∷ []) = rw is at k in
    rw none (record {
      sound = k1.sound;
      stands = pop_none_holds front k1.stands;
      frame = frames_then k1.frame (pop_none_frames front);
      classes = k1.classes;
      groups = k1.groups;
      free = λ class. rw (← named_count-push_none old class front) (k1.free class);
    })

-- what a lease that may not be there holds, given back
module _ (p p1 : Memory) (s0 : State) where
  -- leases of another kind
  pub kept_beside : (o : Option ℕ) → ForSome o (λ slot. Writes p p1 slot Free (words_at p.words slot)) → IfNone o (p1 ≡ p) → ForSome o (Stands p s0)
      → {s : State} → s0 ≢ s → (xs : List (Option ℕ)) → Holds p s xs → Holds p1 s xs
  kept_beside (Some t) gave none st ne xs h = (others (gave t refl).changes (st t refl) ne (keep_refl xs h)).holds
  kept_beside None gave none st ne xs h = rw none h

  -- owned leases of others, where another kind was given back
  pub frames_beside : (o : Option ℕ) → ForSome o (λ slot. Writes p p1 slot Free (words_at p.words slot)) → IfNone o (p1 ≡ p) → ForSome o (Stands p s0)
      → s0 ≢ Owned → (xs : List (Option ℕ)) → Frames p p1 xs xs
  frames_beside (Some t) gave none st ne xs = frames_other (gave t refl).changes xs (st t refl) ne
  frames_beside None gave none st ne xs = rw none (frames_refl xs)

  -- the last of the leases
  pub holds_popped : (o : Option ℕ) → ForSome o (λ slot. Writes p p1 slot Free (words_at p.words slot)) → IfNone o (p1 ≡ p)
      → (front : List (Option ℕ)) → Holds p s0 (front ++ o ∷ []) → Holds p1 s0 front
  holds_popped (Some t) gave none front h = pop_holds (gave t refl).changes front h
  holds_popped None gave none front h = rw none (pop_none_holds front h)

  -- others keep what they hold
  pub frames_popped : (o : Option ℕ) → ForSome o (λ slot. Writes p p1 slot Free (words_at p.words slot)) → IfNone o (p1 ≡ p)
      → (front : List (Option ℕ)) → Frames p p1 (front ++ o ∷ []) front
  frames_popped (Some t) gave none front = pop_frames (gave t refl).changes front
  frames_popped None gave none front = rw none (pop_none_frames front)
