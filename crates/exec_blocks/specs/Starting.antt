-- Static blocks that are put down where a program begins.
use Rattle.std.specs.Prelude.{◌≡◌, ℕ, ◌+◌, ◌<◌, ◌≤◌, List, [], length, Bool, true, false, ◌==◌, ◌&&◌, Some, None, find}
use Rattle.std.specs.List.{list_all}
use Rattle.sial_syntax.specs.declared.array.ArrayKind.TheVariants.{Static}
use Rattle.sial_meaning.specs.Own.{given_or, start_block}
use Rattle.sial_meaning.specs.Setting.{Setting, Given, array_kind, block_count, first_of_class, zeros}
use Rattle.sial_meaning.specs.Sound.{given_twice, is_start}
use Rattle.block_pool.specs.Memory.{Memory}
use Rattle.block_seats.specs.Counted.{HasRunRoom}
use Rattle.block_seats.specs.Leaving.{Leaves}
use Rattle.block_seats.specs.Seated.{Seated, block_at}
use Rattle.exec_blocks.specs.Beginning.{static_blocks}

-- the place of a static block
abbrev pub static_at : Setting → (array number : ℕ) → ℕ
static_at g array number = first_of_class g array + number

-- so many places, where no block but static ones may be; others of the pool are as they were
pub record Opens (g : Setting) (old new : Memory) (count : ℕ) (after : Seated) : Type 0 where
  pub places : length after.slots ≡ count
  pub leaves : Leaves old new [] after.slots
  pub room : HasRunRoom new after 0 (static_blocks g)
  pub rest : (place : ℕ) → static_blocks g ≤ place → block_at new after place ≡ None

-- the static blocks of the first so many arrays are zeros
abbrev pub AreZeros : Setting → Memory → Seated → (arrays : ℕ) → Type 0
AreZeros g p s arrays =
    (array number : ℕ) → array_kind g array ≡ Static → number < block_count g array → array < arrays → block_at p s (static_at g array number) ≡ Some (zeros g array number)

-- the first so many blocks of a static array are zeros
abbrev pub BeginAsZeros : Setting → Memory → Seated → (array numbers : ℕ) → Type 0
BeginAsZeros g p s array numbers = (number : ℕ) → number < numbers → block_at p s (static_at g array number) ≡ Some (zeros g array number)

-- whether a given block has this array and number
abbrev pub is_at : (array number : ℕ) → Given → Bool
is_at array number b = (b.array == array) && (b.number == number)

-- static blocks are those of the start once the given blocks that are left are put down
abbrev pub AreStartBut : Setting → Memory → Seated → (left : List Given) → Type 0
AreStartBut g p s left =
    (array number : ℕ) → array_kind g array ≡ Static → number < block_count g array
    → (words : List ℕ) × (block_at p s (static_at g array number) ≡ Some words) × (given_or (find (is_at array number) left) words ≡ start_block g array number)

-- given blocks that fit their arrays, no two of them for one block
pub record AreGiven (g : Setting) (left : List Given) : Type 0 where
  pub all : list_all (is_start g) left ≡ true
  pub once : given_twice left ≡ false
