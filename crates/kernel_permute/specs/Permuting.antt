-- A block whose dimensions are taken in another order.
use Rattle.std.specs.Prelude.{ℕ, ◌<◌, List, [], ◌∷◌, length, map, replicate, slice_index, slice_set, nat_eq}
use Rattle.std.specs.List.{All, IsDistinct}
use Rattle.kernel_permute.specs.declared.how.How.{How}
use Rattle.kernel_permute.specs.How.{combined}
use Rattle.kernel_permute.specs.Positions.{place, each_number}

-- the order names each of its dimensions once
pub record IsOrder (order : List ℕ) : Type 0 where
  pub within : All (λ k. k < length order) order
  pub once : IsDistinct nat_eq order

-- the members that the order names, in its order
abbrev pub picked : List ℕ → List ℕ → List ℕ
picked order xs = map (λ k. slice_index xs k) order

-- the tuple x of so many members with x[order[k]] = y[k] for each k
abbrev pub unpicked : ℕ → List ℕ → List ℕ → List ℕ
unpicked n [] ys = replicate n 0
unpicked n (k ∷ ks) [] = replicate n 0
unpicked n (k ∷ ks) (y ∷ ys) = slice_set (unpicked n ks ys) k y

-- the target, in which the number at y has met the source's at the tuple x with x[order[k]] = y[k]
abbrev pub permuted : How → List ℕ → List ℕ → List ℕ → List ℕ → List ℕ
permuted how dims order from old =
    each_number (λ y number. combined how number (slice_index from (place dims (unpicked (length order) order y)))) (picked order dims) old
