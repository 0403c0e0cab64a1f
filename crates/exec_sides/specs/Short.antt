-- What of the blocks of a statement the definitions don't say by themselves: how many numbers the shared ones have, and that none has too many.
use Rattle.std.specs.Prelude.{◌≡◌, ℕ, ◌^◌, ◌<◌, List, [], ◌∷◌, drop, length, map}
use Rattle.sial_syntax.specs.declared.operand.BlockRef.{BlockRef}
use Rattle.sial_syntax.specs.Boxes.{volume}
use Rattle.sial_syntax.specs.Spaces.{Spaces, extent}
use Rattle.sial_meaning.specs.LocalStep.{first_value}
use Rattle.sial_meaning.specs.Right.{Term, Plain, Shown, Side, Alone, Joined}
use Rattle.sial_meaning.specs.Sight.{lengths}

-- how many positions a block with these indices has, where the indices have these numbers
abbrev pub volume_now : Spaces → (values at : List ℕ) → ℕ
volume_now spaces values at = volume (lengths (map (extent spaces values) at))

-- the values of shared operands, in order, have a number for each position
abbrev pub AreLong : Spaces → (values : List ℕ) → List BlockRef → List (List ℕ) → Type 0
AreLong spaces values [] words = Unit {0}
AreLong spaces values (b ∷ bs) words = (length (first_value words) ≡ volume_now spaces values b.at) × AreLong spaces values bs (drop 1 words)

-- an operand has fewer than 2^32 numbers
abbrev pub IsShortTerm : Term → Type 0
IsShortTerm (Plain n) = Unit {0}
IsShortTerm (Shown block) = length block.words < 2 ^ 32

-- so has each operand of a right side
abbrev pub IsShort : Side → Type 0
IsShort (Alone a) = IsShortTerm a
IsShort (Joined a bin b) = IsShortTerm a × IsShortTerm b
