-- Two blocks contracted by the names of their indices.
use Rattle.std.specs.Prelude.{◌≡◌, ℕ, ◌*◌, ◌%◌, ◌^◌, List, [], ◌∷◌, ◌++◌, map, sum_by, true, ◌==◌, if◌then◌else◌}
use Rattle.kernel_contract.specs.declared.axis.Axis.{Axis}
use Rattle.sial_syntax.specs.Agreeing.{in_one, same_set}
use Rattle.sial_syntax.specs.Boxes.{tuples, volume}
use Rattle.sial_meaning.specs.JoinLaws.{shared_indices, word_under}
use Rattle.sial_meaning.specs.Sight.{Sight, lengths}
use Rattle.exec_sides.specs.Named.{AgreeInLength, IsLaid, length_under}

-- the sum, over all positions of the indices that two blocks share, of the product of their numbers, modulo 2^64; the other indices have a tuple's members
abbrev pub summed : (names tuple : List ℕ) → (left right : Sight) → ℕ
summed names tuple left right =
    sum_by
    (λ s. word_under (names ++ shared_indices left.at right.at) (tuple ++ s) left * word_under (names ++ shared_indices left.at right.at) (tuple ++ s) right)
    (tuples (map (length_under left) (shared_indices left.at right.at)))
    % 2 ^ 64

-- how far apart two neighbours along an index lie in a block with these lengths, 0 where the block doesn't have the index
abbrev pub stride_under : (indices dims : List ℕ) → ℕ → ℕ
stride_under [] dims index = 0
stride_under (i ∷ is) [] index = 0
stride_under (i ∷ is) (d ∷ ds) index = if i == index then volume ds else stride_under is ds index

-- the stride of an index in a block
abbrev pub stride_in : Sight → ℕ → ℕ
stride_in block index = stride_under block.at (lengths block.extents) index

-- the axis of an index, which is as long as in one of the blocks
abbrev pub axis_of : (own to left right : Sight) → ℕ → Axis
axis_of own to left right index = record { len = length_under own index; a = stride_in left index; b = stride_in right index; to = stride_in to index }

-- a target has the indices that stand in one of two blocks alone, and each index has one length in all three
pub record IsContraction (to left right : Sight) : Type 0 where
  pub target : IsLaid to
  pub first : IsLaid left
  pub second : IsLaid right
  pub alone : same_set to.at (in_one left.at right.at) ≡ true
  pub alike : AgreeInLength left right
  pub left_free : AgreeInLength to left
  pub right_free : AgreeInLength to right
