-- Blocks taken away one after another, and what is left of a state.
use Rattle.std.proofs.Common.{◌≡◌, ◌≢◌, ℕ, ◌+◌, ◌<◌, List, true, false, nat_lt, inl, inr, refl, sym, ap, ◌∙◌, subst, arith, Option, None}
use Rattle.std.proofs.lemmas.Bool.{cases_eq}
use Rattle.std.proofs.lemmas.Bool.Decides.{nat_tests}
use Rattle.sial_syntax.specs.declared.array.ArrayKind.TheVariants.{Local}
use Rattle.sial_meaning.specs.Setting.{Setting, array_kind, block_count, side_of}
use Rattle.sial_meaning.proofs.Granted.Runs.{within-class, apart-in-class}
use Rattle.block_pool.specs.Memory.{Memory}
use Rattle.block_seats.specs.Seated.{Seated, SeatsStand, block_at}
use Rattle.block_seats.specs.Putting.{Puts}
use Rattle.block_seats.proofs.LeavingLemmas.{leaves-refl, leaves-then}
use Rattle.exec_blocks.specs.Clearing.{Clears, Forgets, left_of, left_if}
use Rattle.exec_blocks.specs.Kept.{Kept, place_by}
use Rattle.exec_blocks.specs.Standing.{IsLaidOut}

-- nothing was done
pub clears-none : (p : Memory) (s : Seated) (from : ℕ) → SeatsStand p s → Clears p p s s from 0
clears-none p s from stands = record {
  stands = stands;
  places = refl;
  leaves = leaves-refl s.slots;
  gone = λ k under. absurd (omega (arith, under));
  front = λ place low. refl;
  behind = λ place high. refl;
}

-- one place more
pub clears-more : {p p1 p2 : Memory} {s mid after : Seated} (from k : ℕ) → Clears p p1 s mid from k → Puts p1 p2 mid after (from + k) None → Clears p p2 s after from (k + 1)
clears-more {p} {p1} {p2} {s} {mid} {after} from k done puts = record {
  stands = puts.stands;
  places = puts.places ∙ done.places;
  leaves = leaves-then done.leaves puts.leaves;
  gone = λ j under. elim (cases_eq (from + j) (from + k)) as (λ _. block_at p2 after (from + j) ≡ None) [
    | inl e ↦ ap (block_at p2 after) e ∙ puts.here
    | inr ne ↦ puts.others (from + j) ne ∙ done.gone j (by j under ne)
  ];
  front = λ place low. puts.others place (λ e. absurd (omega (arith, e, low))) ∙ done.front place low;
  behind = λ place high. puts.others place (λ e. absurd (omega (arith, e, high))) ∙ done.behind place (omega (arith, high));
}
  where
    by : (j : ℕ) → j < k + 1 → (from + j) ≢ (from + k) → j < k
    by j under ne = omega (arith, under, ne)

-- the same under other names
pub clears-at : {p p1 : Memory} {s s1 after : Seated} {f f1 k k1 : ℕ} → s ≡ s1 → f ≡ f1 → k ≡ k1 → Clears p p1 s after f k → Clears p p1 s1 after f1 k1
clears-at a b d clears = rw (← a, ← b, ← d) clears

-- no array was looked at
pub forgets-none : (g : Setting) (b : Kept) (p : Memory) (s : Seated) → SeatsStand p s → Forgets g b p p s s 0
forgets-none g b p s stands = record {
  stands = stands;
  places = refl;
  leaves = leaves-refl s.slots;
  statics = λ place low. refl;
  locals = λ array number is under.
      let none : nat_lt array 0 ≡ false = grind (arith, nat_tests) in
      ap (λ t. left_if t (side_of g array) (block_at p s (place_by g b array number Local))) (sym none);
  temps = λ place high. refl;
}

-- whether an array is among so many and one more
below-more : (c k : ℕ) → c ≢ k → nat_lt c (k + 1) ≡ nat_lt c k
below-more c k ne = grind (arith, nat_tests)

below-last : (k : ℕ) → nat_lt k (k + 1) ≡ true
below-last k = grind (arith, nat_tests)

not-below : (k : ℕ) → nat_lt k k ≡ false
not-below k = grind (arith, nat_tests)

-- an array that loses them
pub forgets-more : {p p1 p2 : Memory} {s mid after : Seated} (g : Setting) (b : Kept) (a : ℕ) → IsLaidOut g b → array_kind g a ≡ Local → ((block : Option (List ℕ)) → left_of (side_of g a) block ≡ None)
    → Forgets g b p p1 s mid a → Clears p1 p2 mid after (place_by g b a 0 Local) (block_count g a) → Forgets g b p p2 s after (a + 1)
forgets-more {p} {p1} {p2} {s} {mid} {after} g b a laid is-a loses done clears = record {
  stands = clears.stands;
  places = clears.places ∙ done.places;
  leaves = leaves-then done.leaves clears.leaves;
  statics = λ place low. clears.front place (omega (arith, low)) ∙ done.statics place low;
  locals = λ c n is under. elim (cases_eq c a) as (λ _. block_at p2 after (place_by g b c n Local) ≡ left_if (nat_lt c (a + 1)) (side_of g c) (block_at p s (place_by g b c n Local))) [
    | inl e ↦ (
        let now : nat_lt c (a + 1) ≡ true = ap (λ x. nat_lt x (a + 1)) e ∙ below-last a in
        let inside : n < block_count g a = subst (λ (x : ℕ). n < block_count g x) e under in
        let place : place_by g b c n Local ≡ place_by g b a 0 Local + n = ap (λ x. place_by g b x n Local) e ∙ omega arith in
        ap (block_at p2 after) place ∙ (clears.gone n inside
        ∙ sym (ap (λ t. left_if t (side_of g c) (block_at p s (place_by g b c n Local))) now ∙ (ap (λ x. left_of (side_of g x) (block_at p s (place_by g b c n Local))) e ∙ loses (block_at p s (place_by g b c n Local)))))
        )
    | inr ne ↦ (
        elim (apart-in-class g c a n Local is is-a refl under ne) as (λ _. block_at p2 after (place_by g b c n Local) ≡ left_if (nat_lt c (a + 1)) (side_of g c) (block_at p s (place_by g b c n Local))) [
          | inl low ↦ clears.front (place_by g b c n Local) (omega (arith, low)) ∙ (done.locals c n is under ∙ ap (λ t. left_if t (side_of g c) (block_at p s (place_by g b c n Local))) (sym (below-more c a ne)))
          | inr high ↦ clears.behind (place_by g b c n Local) (omega (arith, high)) ∙ (done.locals c n is under ∙ ap (λ t. left_if t (side_of g c) (block_at p s (place_by g b c n Local))) (sym (below-more c a ne)))
        ]
        )
  ];
  temps = λ place high. clears.behind place (let inside = within-class g a Local is-a refl in omega (arith, high, inside, laid.temps_at)) ∙ done.temps place high;
}
