-- Boxes of tuples: each member counted from 0 and below its length, the last member fastest.
use Rattle.std.specs.Prelude.{ℕ, zero, suc, ◌+◌, ◌*◌, ◌/◌, ◌%◌, ◌<◌, List, [], ◌∷◌, map, flat_map}

-- the numbers from `first` on, so many
abbrev pub numbers_from : ℕ → ℕ → List ℕ
numbers_from first zero = []
numbers_from first (suc n) = first ∷ numbers_from (first + 1) n

-- how many tuples a box has
abbrev pub volume : List ℕ → ℕ
volume [] = 1
volume (n ∷ ns) = n * volume ns

-- the tuples of a box in order
abbrev pub tuples : List ℕ → List (List ℕ)
tuples [] = [] ∷ []
tuples (n ∷ ns) = flat_map (λ k. map (λ t. k ∷ t) (tuples ns)) (numbers_from 0 n)

-- the place of a tuple in its box
abbrev pub place_of : List ℕ → List ℕ → ℕ
place_of [] tuple = 0
place_of (n ∷ ns) [] = 0
place_of (n ∷ ns) (k ∷ ks) = k * volume ns + place_of ns ks

-- the tuple at a place of a box
abbrev pub tuple_at : List ℕ → ℕ → List ℕ
tuple_at [] place = []
tuple_at (n ∷ ns) place = place / volume ns ∷ tuple_at ns (place % volume ns)

-- each member is below its length, and there are as many members as lengths
abbrev pub IsTupleOf : List ℕ → List ℕ → Type 0
IsTupleOf [] [] = Unit {0}
IsTupleOf [] (k ∷ ks) = ⊥
IsTupleOf (n ∷ ns) [] = ⊥
IsTupleOf (n ∷ ns) (k ∷ ks) = (k < n) × IsTupleOf ns ks
