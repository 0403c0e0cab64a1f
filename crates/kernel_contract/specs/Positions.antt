-- Positions of a list of axes, and the offsets that strides give them.
use Rattle.std.specs.Prelude.{ℕ, ◌+◌, ◌*◌, ◌<◌, List, [], ◌∷◌, ◌++◌, replicate}
use Rattle.kernel_contract.specs.Sum.{sum_to}
use Rattle.kernel_contract.specs.declared.axis.Axis.{Axis}

-- a position has one number for each axis, below the axis's length
abbrev pub IsPosition : List Axis → List ℕ → Type 0
IsPosition [] [] = Unit {0}
IsPosition [] (n ∷ ns) = ⊥
IsPosition (x ∷ xs) [] = ⊥
IsPosition (x ∷ xs) (n ∷ ns) = (n < x.len) × IsPosition xs ns

-- the sum of a position's numbers, each times the stride of its axis
abbrev pub offset : (Axis → ℕ) → List Axis → List ℕ → ℕ
offset stride [] position = 0
offset stride (x ∷ xs) [] = 0
offset stride (x ∷ xs) (n ∷ ns) = n * stride x + offset stride xs ns

-- an axis with one number
abbrev pub one : Axis
one = record { len = 1; a = 0; b = 0; to = 0 }

-- a list with so many of them in front
abbrev pub filled_up : ℕ → List Axis → List Axis
filled_up n axes = replicate n one ++ axes

-- the offset of a position in the first source
abbrev pub offset_a : List Axis → List ℕ → ℕ
offset_a = offset (λ x. x.a)

-- in the second source
abbrev pub offset_b : List Axis → List ℕ → ℕ
offset_b = offset (λ x. x.b)

-- in the target
abbrev pub offset_to : List Axis → List ℕ → ℕ
offset_to = offset (λ x. x.to)

-- the sum of a term over all positions
abbrev pub sum_over : List Axis → (List ℕ → ℕ) → ℕ
sum_over [] term = term []
sum_over (x ∷ xs) term = sum_to x.len (λ n. sum_over xs (λ position. term (n ∷ position)))
