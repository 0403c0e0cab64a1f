-- Blocks of which one is a part of the other, position by position.
use Rattle.std.specs.Prelude.{◌≡◌, ℕ, ◌+◌, ◌-◌, ◌<◌, ◌≤◌, List, [], ◌∷◌, length, Bool, true, false, ◌&&◌, ◌||◌, nat_le}
use Rattle.kernel_permute.specs.How.{combined}
use Rattle.kernel_permute.specs.declared.how.How.{How}
use Rattle.sial_syntax.specs.Boxes.{volume, IsTupleOf}
use Rattle.sial_syntax.specs.Spaces.{Extent}
use Rattle.sial_meaning.specs.LocalStep.{whole_positions}
use Rattle.sial_meaning.specs.ReadBackLaws.{word_of}
use Rattle.sial_meaning.specs.Sight.{Sight, all_lie, lengths}
use Rattle.exec_sides.specs.Named.{number_at}

-- whether an extent lies within another
abbrev pub lies_in : Extent → Extent → Bool
lies_in part whole = nat_le whole.start part.start && nat_le (part.start + part.len) (whole.start + whole.len)

-- whether each extent lies within the other at its place
abbrev pub lie_in : List Extent → List Extent → Bool
lie_in [] [] = true
lie_in [] (w ∷ ws) = false
lie_in (p ∷ ps) [] = false
lie_in (p ∷ ps) (w ∷ ws) = lies_in p w && lie_in ps ws

-- where each extent begins in the other at its place
abbrev pub starts_in : List Extent → List Extent → List ℕ
starts_in [] wholes = []
starts_in (p ∷ ps) [] = []
starts_in (p ∷ ps) (w ∷ ws) = (p.start - w.start) ∷ starts_in ps ws

-- each block has one to six extents and a number for each position; where both have any, one is a part of the other
pub record IsPartCopy (to from : Sight) : Type 0 where
  pub some : 1 ≤ length to.extents
  pub most : length to.extents ≤ 6
  pub same : length to.extents ≡ length from.extents
  pub target : length to.words ≡ volume (lengths to.extents)
  pub source : length from.words ≡ volume (lengths from.extents)
  pub part : 0 < length to.words → 0 < length from.words → (lie_in to.extents from.extents || lie_in from.extents to.extents) ≡ true

-- each number of the target has met the source's at the same whole positions, and stays where the source has none
pub record MetInPart (how : How) (to from : Sight) (new : List ℕ) : Type 0 where
  pub inside : (tuple : List ℕ) → IsTupleOf (lengths to.extents) tuple → all_lie from.extents (whole_positions to.extents tuple) ≡ true
      → number_at (lengths to.extents) new tuple
      ≡ combined how (number_at (lengths to.extents) to.words tuple) (word_of from (whole_positions to.extents tuple))
  pub outside : (tuple : List ℕ) → IsTupleOf (lengths to.extents) tuple → all_lie from.extents (whole_positions to.extents tuple) ≡ false
      → number_at (lengths to.extents) new tuple ≡ number_at (lengths to.extents) to.words tuple
  pub len : length new ≡ length to.words
