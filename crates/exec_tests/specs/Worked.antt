-- The spaces that the tests assign in: three ao segments of 2, 3 and 4 positions, cut into pieces of 2; indices m, n and l over them, and mm in m.
use Rattle.std.specs.Prelude.{ℕ, List, [], ◌∷◌}
use Rattle.sial_syntax.specs.declared.index.Kind.TheVariants.{Ao}
use Rattle.sial_syntax.specs.Spaces.{Spaces, Segments, Pieces}

abbrev pub worked : Spaces
worked = record {
  ao = record { segments = 2 ∷ 3 ∷ 4 ∷ []; piece = 2 };
  mo = record { segments = []; piece = 0 };
  moa = record { segments = []; piece = 0 };
  mob = record { segments = []; piece = 0 };
  spans = Segments Ao 1 3 ∷ Segments Ao 1 3 ∷ Segments Ao 1 3 ∷ Pieces 0 ∷ [];
}

-- m has segment 3, positions 6 to 9; n has segment 1, positions 1 and 2; l has segment 2, positions 3 to 5; mm has the second piece, positions 8 and 9
abbrev pub numbers : List ℕ
numbers = 3 ∷ 1 ∷ 2 ∷ 2 ∷ []
