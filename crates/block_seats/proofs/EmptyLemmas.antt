-- Places at which no block was put down yet.
use Rattle.std.proofs.Common.{◌≡◌, ℕ, zero, suc, [], length, refl, ap, arith, None}
use Rattle.std.specs.Option.{option_map}
use Rattle.block_pool.specs.Memory.{Memory}
use Rattle.block_pool.specs.Changes.{IsMemory}
use Rattle.block_pool.specs.Standing.{lease_at, named_count}
use Rattle.block_seats.specs.Leaving.{Leaves}
use Rattle.block_seats.specs.Seated.{SeatsStand, block_at, empty}

-- none of them has a slot
none-there : (places i : ℕ) → lease_at (empty places).slots i ≡ None
none-there zero i = refl
none-there (suc n) zero = refl
none-there (suc n) (suc i) = none-there n i

-- nor a block
pub empty-block : (p : Memory) (places i : ℕ) → block_at p (empty places) i ≡ None
empty-block p places i = ap (option_map (λ slot. _)) (none-there places i)

-- a class names no slot of them
none-named : (p : Memory) (class places : ℕ) → named_count p class (empty places).slots ≡ 0
none-named p class zero = refl
none-named p class (suc n) = none-named p class n

-- they stand in each pool
pub empty-stands : (p : Memory) (places : ℕ) → IsMemory p → SeatsStand p (empty places)
empty-stands p places sound = record {
  sound = sound;
  holds = record {
    stands = λ i slot here. absurd (cc (none-there places i, here));
    apart = λ i j slot here there. absurd (cc (none-there places i, here));
  };
  named = record { named = λ i slot here. absurd (cc (none-there places i, here)) };
  fits = λ place slot here. absurd (cc (none-there places place, here));
  listed = long places;
}
  where
    long : (n : ℕ) → length (empty n).lens ≡ length (empty n).slots
    long zero = refl
    long (suc n) = omega (arith, long n)

-- and leave it as it is
pub leaves-empty : (p : Memory) (places : ℕ) → Leaves p p [] (empty places).slots
leaves-empty p places = record {
  owned = record { others_stay = λ zs ws apart k. (k, record { differ = λ i j slot here there. absurd (cc (none-there places i, here)) }) };
  others = λ s zs ws taken other k. k;
  wide = λ len wide. wide;
  free = λ class. let none = none-named p class places in omega (arith, none);
  lifted = refl;
  widest = refl;
  most = refl;
}
