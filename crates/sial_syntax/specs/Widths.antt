-- How wide the blocks of an array can be.
use Rattle.std.specs.Prelude.{ℕ, ◌*◌, min, max, List, [], ◌∷◌, map, fold}
use Rattle.sial_syntax.specs.Boxes.{numbers_from}
use Rattle.sial_syntax.specs.Spaces.{Spaces, Span, Segments, Pieces, span_of, first_of, count_of, kind_of, segment, cut_of}

-- the most of some numbers
abbrev pub most_of : List ℕ → ℕ
most_of numbers = fold max 0 numbers

-- the widest segment of an index's range, or its widest piece
abbrev pub width_of_span : Spaces → ℕ → Span → ℕ
width_of_span spaces index (Segments kind first count) = most_of (map (λ k. (segment spaces kind k).len) (numbers_from first count))
width_of_span spaces index (Pieces super) =
    most_of (map (λ k. min (cut_of spaces (kind_of spaces index)).piece (segment spaces (kind_of spaces index) k).len) (numbers_from (first_of spaces super) (count_of spaces super)))

-- the product of the widths of an array's dimensions
abbrev pub widest_block : Spaces → List ℕ → ℕ
widest_block spaces [] = 1
widest_block spaces (i ∷ is) = width_of_span spaces i (span_of spaces i) * widest_block spaces is
