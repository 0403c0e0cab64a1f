-- Blocks whose indices have names: where their numbers lie, and what two of them have in common.
use Rattle.std.specs.Prelude.{◌≡◌, ℕ, suc, ◌^◌, ◌<◌, ◌≤◌, List, [], ◌∷◌, length, false, true, ◌==◌, if◌then◌else◌, slice_index}
use Rattle.sial_syntax.specs.Agreeing.{contains, has_twice, same_set}
use Rattle.sial_syntax.specs.Boxes.{volume, place_of}
use Rattle.sial_meaning.specs.ReadBackLaws.{under}
use Rattle.sial_meaning.specs.Sight.{Sight, lengths}

-- the number of a block with these lengths at a tuple
abbrev pub number_at : (dims words tuple : List ℕ) → ℕ
number_at dims words tuple = slice_index words (place_of dims tuple)

-- the place of an index among others, their count where it isn't there
abbrev pub place_among : List ℕ → ℕ → ℕ
place_among [] index = 0
place_among (i ∷ is) index = if i == index then 0 else suc (place_among is index)

-- a block has at most six indices, each once, an extent for each, and a number for each position
pub record IsLaid (block : Sight) : Type 0 where
  pub once : has_twice block.at ≡ false
  pub most : length block.at ≤ 6
  pub extents : length block.extents ≡ length block.at
  pub words : length block.words ≡ volume (lengths block.extents)
  pub few : length block.words < 2 ^ 32

-- how many positions an index of a block has
abbrev pub length_under : Sight → ℕ → ℕ
length_under block index = under block.at (lengths block.extents) index

-- an index that two blocks name has the same length in both
abbrev pub AgreeInLength : Sight → Sight → Type 0
AgreeInLength a b = (index : ℕ) → contains a.at index ≡ true → contains b.at index ≡ true → length_under a index ≡ length_under b index

-- two blocks have the same indices, in any order, as long in one as in the other
pub record IsCopy (to from : Sight) : Type 0 where
  pub target : IsLaid to
  pub source : IsLaid from
  pub some : 1 ≤ length to.at
  pub same : same_set to.at from.at ≡ true
  pub alike : AgreeInLength to from
