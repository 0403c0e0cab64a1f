-- What becomes of lists of numbers, element by element.
use Rattle.std.specs.Prelude.{ℕ, ◌+◌, ◌-◌, ◌*◌, ◌%◌, ◌^◌, max, List, [], ◌∷◌, map, sum}

-- f of the two elements at each place, as far as both lists go
abbrev pub paired : (ℕ → ℕ → ℕ) → List ℕ → List ℕ → List ℕ
paired f [] ys = []
paired f (x ∷ xs) [] = []
paired f (x ∷ xs) (y ∷ ys) = f x y ∷ paired f xs ys

-- the sum at each place, modulo 2^64
abbrev pub sums : List ℕ → List ℕ → List ℕ
sums = paired (λ x y. (x + y) % 2 ^ 64)

-- the first number less the second at each place, modulo 2^64
abbrev pub differences : List ℕ → List ℕ → List ℕ
differences = paired (λ x y. (x + (2 ^ 64 - y)) % 2 ^ 64)

-- the greater number at each place
abbrev pub greater : List ℕ → List ℕ → List ℕ
greater = paired max

-- each number times the factor, modulo 2^64
abbrev pub scaled : ℕ → List ℕ → List ℕ
scaled factor = map (λ x. x * factor % 2 ^ 64)

-- the sum of the products at all places, modulo 2^64
abbrev pub dot_of : List ℕ → List ℕ → ℕ
dot_of xs ys = sum (paired (λ x y. x * y) xs ys) % 2 ^ 64
