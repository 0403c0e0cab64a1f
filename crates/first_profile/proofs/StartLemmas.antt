-- The numbers of a run as it begins have the shape of their program.
use Rattle.std.proofs.Common.{◌≡◌, ℕ, ◌+◌, ◌<◌, List, [], length, slice_index_or, sym, ap, ◌∙◌, subst}
use Rattle.std.specs.List.{All}
use Rattle.std.proofs.lemmas.List.{length-replicate, length-map}
use Rattle.std.proofs.lemmas.List.Elements.{All-weaker}
use Rattle.sial_syntax.proofs.BoxLemmas.{numbers-length}
use Rattle.sial_syntax.specs.Boxes.{numbers_from}
use Rattle.sial_syntax.specs.Spaces.{count_of, first_of}
use Rattle.sial_syntax.specs.declared.array.ArrayKind.TheVariants.{Static}
use Rattle.sial_meaning.specs.Own.{for_each}
use Rattle.sial_meaning.specs.Setting.{Setting, Given, no_array, dims_of, block_count, block_words}
use Rattle.first_profile.specs.Fits.{Fits, HasBlock, index_of}
use Rattle.first_profile.specs.Ready.{IsFirstSetting, IsStart}
use Rattle.first_profile.specs.Running.{start_numbers, zero_numbers, only_index, segment_len}
use Rattle.first_profile.proofs.GivenLemmas.{begun, read-each, words-given}
use Rattle.first_profile.proofs.Sequential.{read-any}
use Rattle.first_profile.proofs.StartLaws.{array-one, begun-are, count-one, words-one, zeros-are}

-- so many things, one for each number
many : {X : Type 0} (n : ℕ) (f : ℕ → X) → length (for_each n f) ≡ n
many n f = length-map (numbers_from 0 n) f ∙ numbers-length 0 n

-- the index of an array that is there
index-is : (g : Setting) (array : ℕ) → array < length g.program.arrays → only_index (dims_of g array) ≡ index_of g array
index-is g array within =
    ap (λ a. only_index a.dims) (read-any g.program.arrays array no_array (record { name = []; line = 0; kind = Static; dims = [] }) within)

-- the blocks of an array with which a run begins
at_array : (g : Setting) (array : ℕ) → IsFirstSetting g → array < length g.program.arrays → slice_index_or (start_numbers g).statics array [] ≡ begun g g.blocks array
at_array g array is within =
    ap (λ (s : List (List (List ℕ))). slice_index_or s array []) (begun-are g is) ∙ read-each (begun g g.blocks) (length g.program.arrays) array [] within

-- how many blocks an array has
count-is : (g : Setting) (array : ℕ) → IsFirstSetting g → array < length g.program.arrays → block_count g array ≡ count_of g.spaces (index_of g array)
count-is g array is within =
    count-one g array (only_index (dims_of g array)) (array-one g array is within).1 ∙ ap (count_of g.spaces) (index-is g array within)

-- the numbers as a run begins fit
pub fits_start : (g : Setting) → IsFirstSetting g → Fits g (start_numbers g)
fits_start g is = record {
  values = length-replicate (length g.program.indices) 0;
  scalars = is.ready.numbers;
  arrays = ap length (begun-are g is) ∙ many (length g.program.arrays) (begun g g.blocks);
  blocks = λ array within. ap length (at_array g array is within) ∙ (many (block_count g array) _ ∙ count-is g array is within);
  words = λ array number within below.
      ap (λ (blocks : List (List ℕ)). length (slice_index_or blocks number [])) (at_array g array is within)
      ∙ (ap length (read-each _ (block_count g array) number [] (subst (λ n. number < n) (sym (count-is g array is within)) below))
      ∙ (words-given g g.blocks array number is.ready.blocks (length-replicate (block_words g array number) 0)
      ∙ (words-one g array (only_index (dims_of g array)) number (array-one g array is within).1
      ∙ ap (λ i. segment_len g i (first_of g.spaces i + number)) (index-is g array within))));
}

-- a given block is there
has-one : (g : Setting) → IsFirstSetting g → (b : Given) → IsStart g b → HasBlock (zero_numbers g) b
has-one g is b start =
    let all : length (zero_numbers g).statics ≡ length g.program.arrays = ap length (zeros-are g is) ∙ many (length g.program.arrays) (begun g []) in
    let own : slice_index_or (zero_numbers g).statics b.array [] ≡ begun g [] b.array =
    ap (λ (s : List (List (List ℕ))). slice_index_or s b.array []) (zeros-are g is) ∙ read-each (begun g []) (length g.program.arrays) b.array [] start.array in (
      subst (λ n. b.array < n) (sym all) start.array,
      subst (λ n. b.number < n) (sym (ap length own ∙ many (block_count g b.array) _)) start.number,
    )

-- and so are all
pub has-given : (g : Setting) → IsFirstSetting g → All (HasBlock (zero_numbers g)) g.blocks
has-given g is = All-weaker (IsStart g) (HasBlock (zero_numbers g)) (λ b start. has-one g is b start) g.blocks is.ready.blocks
