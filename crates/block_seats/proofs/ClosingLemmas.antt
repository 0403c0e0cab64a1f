-- Slots given back one by one.
use Rattle.std.proofs.Common.{◌≡◌, ℕ, List, [], ◌∷◌, ◌++◌, refl, sym, arith, Option, Some, None}
use Rattle.std.specs.Prelude.{IfNone}
use Rattle.std.specs.Option.{ForSome}
use Rattle.block_pool.specs.declared.state.State.TheVariants.{Free, Owned}
use Rattle.block_pool.specs.Memory.{Memory, words_at}
use Rattle.block_pool.specs.Changes.{Stands, Writes, IsMemory}
use Rattle.block_pool.specs.Standing.{Holds}
use Rattle.block_pool.proofs.Leases.{others}
use Rattle.block_pool.proofs.Frames.{pop_holds, pop_frames, pop_none_holds, pop_none_frames, last_lease, named_count-push, named_count-push_none}
use Rattle.block_pool.proofs.Counting.{memory_after, gave_back_any}
use Rattle.block_seats.specs.Leaving.{Leaves}
use Rattle.block_seats.proofs.LeavingLemmas.{leaves-then, wide-after, count-same}

-- what is held while slots are given back
pub record Giving (old now : Memory) (all rest : List (Option ℕ)) : Type 0 where
  pub sound : IsMemory now
  pub holds : Holds now Owned rest
  pub leaves : Leaves old now all rest

-- the last slot is given back
leaves-popped : {p p1 : Memory} {t : ℕ} (front : List (Option ℕ)) → IsMemory p → Stands p Owned t → Writes p p1 t Free (words_at p.words t) → Leaves p p1 (front ++ Some t ∷ []) front
leaves-popped {p} {p1} {t} front sound st gave =
    let ch = gave.changes in
    record {
      owned = pop_frames ch front;
      others = λ s zs ws taken other k. others ch st (λ e. other (sym e)) k;
      wide = wide-after ch gave.is_lifted sound st;
      free = λ class.
          let more = gave_back_any ch sound st class refl refl in
          let count = count-same ch class front in
          let fewer = named_count-push p class front t in
          omega (arith, more, count, fewer);
      lifted = gave.is_lifted;
      widest = ch.widest;
      most = ch.most;
    }

-- a place without one goes
leaves-popped_none : {p : Memory} (front : List (Option ℕ)) → Leaves p p (front ++ None ∷ []) front
leaves-popped_none {p} front = record {
  owned = pop_none_frames front;
  others = λ s zs ws taken other k. k;
  wide = λ len wide. wide;
  free = λ class. let same = named_count-push_none p class front in omega (arith, same);
  lifted = refl;
  widest = refl;
  most = refl;
}

-- one place less
pub giving-step : (old p p1 : Memory) (all xs front : List (Option ℕ)) (o : Option ℕ) → Giving old p all xs → xs ≡ front ++ o ∷ []
    → ForSome o (λ slot. Writes p p1 slot Free (words_at p.words slot)) → IfNone o (p1 ≡ p) → Giving old p1 all front
giving-step old p p1 all xs front (Some t) k is gave none =
    let k1 : Giving old p all (front ++ Some t ∷ []) = rw is at k in
    let wrote = gave t refl in
    let st = k1.holds.stands _ t (last_lease front (Some t)) in
    record {
      sound = memory_after wrote.changes k1.sound;
      holds = pop_holds wrote.changes front k1.holds;
      leaves = leaves-then k1.leaves (leaves-popped front k1.sound st wrote);
    }
giving-step old p p1 all xs front None k is gave none =
    let k1 : Giving old p all (front ++ None ∷ []) = rw is at k in
    rw none (record {
      sound = k1.sound;
      holds = pop_none_holds front k1.holds;
      leaves = leaves-then k1.leaves (leaves-popped_none front);
    })
