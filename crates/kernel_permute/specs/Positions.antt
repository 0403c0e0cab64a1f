-- Positions in a block, which are tuples with one number for each dimension, and their places in the block's list.
use Rattle.std.specs.Prelude.{ℕ, ◌+◌, ◌*◌, ◌<◌, List, [], ◌∷◌, map}
use Rattle.std.specs.List.{flat_map, range_with_len}

-- how many positions a block with these dimensions has
abbrev pub product : List ℕ → ℕ
product [] = 1
product (d ∷ ds) = d * product ds

-- for each dimension, how far apart two neighbours in it lie: the product of the later dimensions
abbrev pub strides_of : List ℕ → List ℕ
strides_of [] = []
strides_of (d ∷ ds) = product ds ∷ strides_of ds

-- how far along the strides a position lies
abbrev pub along : List ℕ → List ℕ → ℕ
along [] ys = 0
along (s ∷ ss) [] = 0
along (s ∷ ss) (y ∷ ys) = y * s + along ss ys

-- the place of a position in the list of a block with these dimensions
abbrev pub place : List ℕ → List ℕ → ℕ
place dims position = along (strides_of dims) position

-- the position has one number for each dimension, and each is below its dimension
abbrev pub IsPosition : List ℕ → List ℕ → Type 0
IsPosition [] [] = Unit {0}
IsPosition [] (y ∷ ys) = ⊥
IsPosition (d ∷ ds) [] = ⊥
IsPosition (d ∷ ds) (y ∷ ys) = (y < d) × IsPosition ds ys

-- all positions of a block, in the order of their places: the last dimension runs fastest
abbrev pub positions : List ℕ → List (List ℕ)
positions [] = [] ∷ []
positions (d ∷ ds) = flat_map (λ y. map (λ ys. y ∷ ys) (positions ds)) (range_with_len 0 d)

-- f of the position and the number at each place
abbrev pub zipped : (List ℕ → ℕ → ℕ) → List (List ℕ) → List ℕ → List ℕ
zipped f [] xs = []
zipped f (p ∷ ps) [] = []
zipped f (p ∷ ps) (x ∷ xs) = f p x ∷ zipped f ps xs

-- the block in which each number has become f of its position and itself
abbrev pub each_number : (List ℕ → ℕ → ℕ) → List ℕ → List ℕ → List ℕ
each_number f dims numbers = zipped f (positions dims) numbers
