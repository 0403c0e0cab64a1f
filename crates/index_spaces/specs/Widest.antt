-- The widest of a row of segments.
use Rattle.std.specs.Prelude.{ℕ, min, map}
use Rattle.sial_syntax.specs.declared.index.Kind.{Kind}
use Rattle.sial_syntax.specs.Boxes.{numbers_from}
use Rattle.sial_syntax.specs.Spaces.{Spaces, cut_of, segment}
use Rattle.sial_syntax.specs.Widths.{most_of}

-- the greatest length of so many segments of a kind
abbrev pub widest_segment : Spaces → Kind → (first count : ℕ) → ℕ
widest_segment spaces kind first count = most_of (map (λ k. (segment spaces kind k).len) (numbers_from first count))

-- the greatest length of their pieces
abbrev pub widest_piece : Spaces → Kind → (first count : ℕ) → ℕ
widest_piece spaces kind first count = most_of (map (λ k. min (cut_of spaces kind).piece (segment spaces kind k).len) (numbers_from first count))
