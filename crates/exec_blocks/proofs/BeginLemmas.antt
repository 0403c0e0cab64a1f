-- Static blocks put down as zeros, one after another.
use Rattle.std.proofs.Common.{◌≡◌, ℕ, ◌+◌, ◌<◌, ◌≤◌, List, [], length, Some, None, inl, inr, refl, sym, ap, ◌∙◌, subst, arith}
use Rattle.std.proofs.lemmas.Bool.{cases_eq}
use Rattle.sial_syntax.specs.declared.array.ArrayKind.TheVariants.{Static}
use Rattle.sial_meaning.specs.Setting.{Setting, array_kind, block_count, zeros}
use Rattle.sial_meaning.proofs.Granted.Runs.{within-class}
use Rattle.block_pool.specs.Changes.{IsMemory}
use Rattle.block_pool.specs.Memory.{Memory, free_in, last_class}
use Rattle.block_seats.specs.Counted.{HasRunRoom}
use Rattle.block_seats.specs.Leaving.{Leaves}
use Rattle.block_seats.specs.Putting.{Puts}
use Rattle.block_pool.specs.Standing.{lease_at}
use Rattle.block_seats.specs.Seated.{IsWide, Seated, SeatsStand, block_at, empty}
use Rattle.block_seats.proofs.CountLemmas.{empty-most}
use Rattle.block_seats.proofs.EmptyLemmas.{empty-block, empty-stands, leaves-empty}
use Rattle.block_seats.proofs.RoomLemmas.{room-after, room-here}
use Rattle.block_seats.proofs.LeavingLemmas.{leaves-then}
use Rattle.exec_blocks.specs.Beginning.{static_blocks}
use Rattle.exec_blocks.specs.Starting.{AreZeros, BeginAsZeros, Opens, static_at}
use Rattle.exec_blocks.proofs.PlaceLemmas.{places-differ}

-- the places of static blocks are the first ones
pub static-within : (g : Setting) (a n : ℕ) → array_kind g a ≡ Static → n < block_count g a → static_at g a n < 0 + static_blocks g
static-within g a n is below = let inside = within-class g a Static is refl in omega (arith, inside, below)

-- there is room for static blocks where no block is
pub room-none : (g : Setting) (p : Memory) (s : Seated) → IsMemory p → s ≡ empty (length s.slots) → static_blocks g ≤ length s.slots → static_blocks g ≤ free_in p last_class → HasRunRoom p s 0 (static_blocks g)
room-none g p s sound is within free = record {
  stands = subst (λ (x : Seated). SeatsStand p x) (sym is) (empty-stands p (length s.slots) sound);
  within = omega (arith, within);
  free = (let most = empty-most s.slots 0 (static_blocks g) in omega (arith, most, free));
}

-- nothing was put down
pub opens-none : (g : Setting) (p : Memory) (s : Seated) → s ≡ empty (length s.slots) → HasRunRoom p s 0 (static_blocks g) → Opens g p p (length s.slots) s
opens-none g p s is room = record {
  places = refl;
  leaves = subst (λ (x : Seated). Leaves p p [] x.slots) (sym is) (leaves-empty p (length s.slots));
  room = room;
  rest = λ place high. ap (λ (x : Seated). block_at p x place) is ∙ empty-block p (length s.slots) place;
}

module _ {p p1 : Memory} (g : Setting) (s s1 : Seated) (a n : ℕ) (w : List ℕ) (is : array_kind g a ≡ Static) (below : n < block_count g a) (puts : Puts p p1 s s1 (static_at g a n) (Some w)) where
  -- one static block was
  pub opens-put : (old : Memory) (places : ℕ) → Opens g old p places s → Opens g old p1 places s1
  opens-put old places opens = record {
    places = puts.places ∙ opens.places;
    leaves = leaves-then opens.leaves puts.leaves;
    room = room-after 0 (static_blocks g) (static_at g a n) w opens.room (omega arith) (static-within g a n is below) puts;
    rest = λ place high. puts.others place (λ e. let under = static-within g a n is below in absurd (omega (arith, e, high, under))) ∙ opens.rest place high;
  }

  -- those of arrays before are still zeros
  pub zeros-put : AreZeros g p s a → AreZeros g p1 s1 a
  zeros-put zeroed = λ c m kind under low. puts.others (static_at g c m) (places-differ g Static a n c m refl is kind below under (λ e. absurd (omega (arith, low, e)))) ∙ zeroed c m kind under low

  -- and one block more of the array is
  pub begin-put : w ≡ zeros g a n → BeginAsZeros g p s a n → BeginAsZeros g p1 s1 a (n + 1)
  begin-put same begins = λ m under. elim (cases_eq m n) as (λ _. block_at p1 s1 (static_at g a m) ≡ Some (zeros g a m)) [
    | inl e ↦ ap (λ x. block_at p1 s1 (static_at g a x)) e ∙ (puts.here ∙ (ap Some same ∙ ap (λ x. Some (zeros g a x)) (sym e)))
    | inr ne ↦ puts.others (static_at g a m) (λ e. ne (omega (arith, e))) ∙ begins m (omega (arith, under, ne))
  ]

-- all blocks of an array
pub zeros-more : (g : Setting) (p : Memory) (s : Seated) (a : ℕ) → AreZeros g p s a → BeginAsZeros g p s a (block_count g a) → AreZeros g p s (a + 1)
zeros-more g p s a zeroed begins = λ c m kind under low. elim (cases_eq c a) as (λ _. block_at p s (static_at g c m) ≡ Some (zeros g c m)) [
  | inl e ↦ ap (λ x. block_at p s (static_at g x m)) e ∙ (begins m (subst (λ x. m < block_count g x) e under) ∙ ap (λ x. Some (zeros g x m)) (sym e))
  | inr ne ↦ zeroed c m kind under (omega (arith, low, ne))
]

-- an array of another kind
pub zeros-skip : (g : Setting) (p : Memory) (s : Seated) (a : ℕ) → (array_kind g a ≡ Static → ⊥) → AreZeros g p s a → AreZeros g p s (a + 1)
zeros-skip g p s a other zeroed = λ c m kind under low. elim (cases_eq c a) as (λ _. block_at p s (static_at g c m) ≡ Some (zeros g c m)) [
  | inl e ↦ absurd (other (ap (array_kind g) (sym e) ∙ kind))
  | inr ne ↦ zeroed c m kind under (omega (arith, low, ne))
]

-- the place of a static block is one of the places, and takes a slot only where one is free
pub place-in : (g : Setting) (p : Memory) (s : Seated) (a n place : ℕ) → array_kind g a ≡ Static → n < block_count g a → place ≡ static_at g a n → HasRunRoom p s 0 (static_blocks g) → place < length s.slots
place-in g p s a n place is below at room = let under = static-within g a n is below in omega (arith, under, at, room.within)

pub place-room : (g : Setting) (p : Memory) (s : Seated) (a n place : ℕ) → array_kind g a ≡ Static → n < block_count g a → place ≡ static_at g a n → HasRunRoom p s 0 (static_blocks g)
    → lease_at s.slots place ≡ None → 0 < free_in p last_class
place-room g p s a n place is below at room none = let under = static-within g a n is below in room-here p s 0 (static_blocks g) place room (omega arith) (omega (arith, under, at)) none

-- blocks of a static array are being made zeros one after another
pub record Zeroing (g : Setting) (p0 : Memory) (s0 : Seated) (p : Memory) (s : Seated) (a n : ℕ) : Type 0 where
  pub room : HasRunRoom p s 0 (static_blocks g)
  pub wide : (len : ℕ) → IsWide p0 len → IsWide p len
  pub opens : (old : Memory) (count : ℕ) → Opens g old p0 count s0 → Opens g old p count s
  pub zeros : AreZeros g p0 s0 a → AreZeros g p s a
  pub begins : BeginAsZeros g p s a n

-- none was
pub zeroing-none : (g : Setting) (p : Memory) (s : Seated) (a : ℕ) → HasRunRoom p s 0 (static_blocks g) → Zeroing g p s p s a 0
zeroing-none g p s a room = record {
  room = room;
  wide = λ len wide. wide;
  opens = λ old count opens. opens;
  zeros = λ zeroed. zeroed;
  begins = λ n under. absurd (omega (arith, under));
}

-- one more
pub zeroing-one : {p p1 : Memory} (g : Setting) (p0 : Memory) (s0 s s1 : Seated) (a n place : ℕ) → array_kind g a ≡ Static → n < block_count g a → place ≡ static_at g a n → Zeroing g p0 s0 p s a n
    → Puts p p1 s s1 place (Some (zeros g a n)) → Zeroing g p0 s0 p1 s1 a (n + 1)
zeroing-one {p} {p1} g p0 s0 s s1 a n place is below at was put =
    let puts : Puts p p1 s s1 (static_at g a n) (Some (zeros g a n)) = subst (λ (x : ℕ). Puts p p1 s s1 x (Some (zeros g a n))) at put in
    record {
      room = room-after 0 (static_blocks g) (static_at g a n) (zeros g a n) was.room (omega arith) (static-within g a n is below) puts;
      wide = λ len wide. puts.leaves.wide len (was.wide len wide);
      opens = λ old count opens. opens-put g s s1 a n (zeros g a n) is below puts old count (was.opens old count opens);
      zeros = λ zeroed. zeros-put g s s1 a n (zeros g a n) is below puts (was.zeros zeroed);
      begins = begin-put g s s1 a n (zeros g a n) is below puts refl was.begins;
    }

-- all
pub zeroing-all : {p : Memory} (g : Setting) (p0 : Memory) (s0 s : Seated) (a n : ℕ) → block_count g a ≤ n → Zeroing g p0 s0 p s a n → AreZeros g p0 s0 a → AreZeros g p s (a + 1)
zeroing-all {p} g p0 s0 s a n all was zeroed = zeros-more g p s a (was.zeros zeroed) (λ m under. was.begins m (omega (arith, under, all)))
