-- How many elements the blocks of an array have together.
use Rattle.std.specs.Prelude.{ℕ, List, sum_by}
use Rattle.sial_syntax.specs.Boxes.{numbers_from, volume}
use Rattle.sial_syntax.specs.Spaces.{Spaces, box_of, count_of, first_of, kind_of, numbers_at, segment, words_in}

-- the words of all blocks over some indices
abbrev pub elements_over : Spaces → List ℕ → ℕ
elements_over spaces dims = sum_by (λ n. words_in spaces dims (numbers_at spaces dims n)) (numbers_from 0 (volume (box_of spaces dims)))

-- how many positions an index has in all segments of its range
abbrev pub positions_of : Spaces → ℕ → ℕ
positions_of spaces index = sum_by (λ k. (segment spaces (kind_of spaces index) k).len) (numbers_from (first_of spaces index) (count_of spaces index))
