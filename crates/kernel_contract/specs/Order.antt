-- Targets that lie by rows.
use Rattle.std.specs.Prelude.{ℕ, ◌+◌, ◌-◌, ◌*◌, List, [], ◌∷◌, Bool, true, ◌&&◌, ◌||◌, nat_lt, if◌then◌else◌}
use Rattle.kernel_contract.specs.declared.axis.Axis.{Axis}
use Rattle.kernel_contract.specs.declared.order.Side.{Side}
use Rattle.kernel_contract.specs.declared.order.Side.TheVariants.{A, B, To}

-- an axis's stride in one of the three lists
abbrev pub stride_in : Side → Axis → ℕ
stride_in A x = x.a
stride_in B x = x.b
stride_in To x = x.to

-- the greatest offset of a position
abbrev pub greatest : (Axis → ℕ) → List Axis → ℕ
greatest stride [] = 0
greatest stride (x ∷ xs) = (x.len - 1) * stride x + greatest stride xs

-- whether an axis keeps its positions apart in the target, wherever the other axes stand: it has one position, or its stride is longer than what they reach
abbrev pub keeps_apart : Axis → List Axis → List Axis → Bool
keeps_apart x first second = nat_lt x.len 2 || nat_lt (greatest (stride_in To) first + greatest (stride_in To) second) x.to

-- whether each axis of a list keeps its positions apart, wherever the axes after it stand
abbrev pub nested_alone : List Axis → Bool
nested_alone [] = true
nested_alone (x ∷ xs) = keeps_apart x [] xs && nested_alone xs

-- the same of `x`, `xs` and a second list, whose axes with no shorter strides come before `x`; `go` says it of `xs`
abbrev pub nested_beside : Axis → List Axis → (List Axis → Bool) → List Axis → Bool
nested_beside x xs go [] = keeps_apart x xs [] && go []
nested_beside x xs go (y ∷ ys) =
    if nat_lt y.to x.to then keeps_apart x xs (y ∷ ys) && go (y ∷ ys) else keeps_apart y (x ∷ xs) ys && nested_beside x xs go ys

-- whether, the axes of both lists taken by falling stride, each keeps its positions apart, wherever the axes after it stand
abbrev pub nested : List Axis → List Axis → Bool
nested [] second = nested_alone second
nested (x ∷ xs) second = nested_beside x xs (nested xs) second

-- whether all positions lie in lists of these lengths, and the target lies by rows
abbrev pub by_rows : ℕ → ℕ → ℕ → List Axis → List Axis → List Axis → Bool
by_rows a b to free_a free_b shared =
    nat_lt (greatest (stride_in A) free_a + greatest (stride_in A) shared) a
    && nat_lt (greatest (stride_in B) free_b + greatest (stride_in B) shared) b
    && nat_lt (greatest (stride_in To) free_a + greatest (stride_in To) free_b) to
    && nested free_a free_b
