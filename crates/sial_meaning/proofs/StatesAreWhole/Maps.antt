-- In each state that steps reach, the lists of blocks are the array's map.
use Rattle.std.proofs.Common.{◌≡◌, ℕ, ◌+◌, ◌<◌, List, [], map, length, slice_index_or, true, Some, refl, ap, ◌∙◌, arith}
use Rattle.std.specs.FinMap as finite
use Rattle.sial_syntax.specs.declared.access.Class.TheVariants as class
use Rattle.sial_syntax.specs.declared.array.ArrayKind.{ArrayKind}
use Rattle.sial_syntax.specs.declared.array.ArrayKind.TheVariants.{Static, Temp, Local, Distributed, Served}
use Rattle.sial_meaning.specs.Own.{for_each, local_block}
use Rattle.sial_meaning.specs.Setting.{Setting, array_kind, block_count, block_words, first_of_class}
use Rattle.sial_meaning.specs.Sound.{IsSound}
use Rattle.sial_meaning.specs.State.{State, shared_block}
use Rattle.sial_meaning.specs.Whole.{block_positions, whole_array}
use Rattle.sial_meaning.specs.WholeStates.{IsWhole, words_if, words_or_none, blocks_in, has_blocks, BlocksOfStatesAreTheMap, LocalsOfStatesAreTheMap, AbsentLocalsAreNotThere, TempsOfStatesAreTheMap}
use Rattle.sial_meaning.proofs.AcceptedInOtherWords.Pairs.{never}
use Rattle.sial_meaning.proofs.StatesAreWhole.Created.{each-read}
use Rattle.sial_meaning.proofs.StatesAreWhole.Blocks.{blocks-are-the-map, absent-blocks-are-not-there, held-blocks-are-the-map}
use Rattle.sial_meaning.proofs.StatesAreWhole.Steps.{reached-states-are-whole}
use Rattle.sial_meaning.proofs.PardosKeepTheControl.Changes.{each-long}

-- as many blocks as the array has, each as long as it should be
by-row : (g : Setting) (array number : ℕ) (f : ℕ → List ℕ) → IsSound g → number < block_count g array → length (f number) ≡ block_words g array number
    → map (finite.get (whole_array g array (for_each (block_count g array) f))) (block_positions g array number) ≡ map Some (slice_index_or (for_each (block_count g array) f) number [])
by-row g array number f sound below long =
    let many = each-long (block_count g array) f in
    blocks-are-the-map g array number (for_each (block_count g array) f) sound many (omega (arith, below, many)) (ap length (each-read (block_count g array) f number [] below) ∙ long)

by-kind : (g : Setting) (s : State) (array number : ℕ) (kind : ArrayKind) → IsSound g → IsWhole g s → array_kind g array ≡ kind → has_blocks s array kind ≡ true → number < block_count g array
    → map (finite.get (whole_array g array (blocks_in g s array kind))) (block_positions g array number) ≡ map Some (slice_index_or (blocks_in g s array kind) number [])
by-kind g s array number Static sound whole is has below =
    let many = whole.own.count array is in
    blocks-are-the-map g array number (slice_index_or s.own.statics array []) sound many (omega (arith, below, many)) (whole.own.statics array number is below)
by-kind g s array number Temp sound whole is has below = absurd (never has)
by-kind g s array number Local sound whole is has below = absurd (never has)
by-kind g s array number Distributed sound whole is has below =
    by-row g array number (λ n. shared_block s.shared class.Distributed (first_of_class g array + n)) sound below
    (whole.distributed.words array number is below ∙ ap (λ b. words_if b (block_words g array number)) has)
by-kind g s array number Served sound whole is has below =
    by-row g array number (λ n. shared_block s.shared class.Served (first_of_class g array + n)) sound below (whole.served.words array number is below)

-- in each state that steps reach
pub blocks-of-states-are-the-map : BlocksOfStatesAreTheMap
blocks-of-states-are-the-map g s array number sound reached has below = by-kind g s array number (array_kind g array) sound (reached-states-are-whole g s sound reached) refl has below

-- each allocated block of a local array
pub locals-of-states-are-the-map : LocalsOfStatesAreTheMap
locals-of-states-are-the-map g s array number words sound reached is below held =
    let f : ℕ → List ℕ = λ n. words_or_none (local_block s.own array n) in
    let here : f number ≡ words = ap words_or_none held in
    by-row g array number f sound below (ap length here ∙ (reached-states-are-whole g s sound reached).own.locals array number words held)
    ∙ ap (map Some) (each-read (block_count g array) f number [] below ∙ here)

-- and one that isn't allocated
pub absent-locals-are-not-there : AbsentLocalsAreNotThere
absent-locals-are-not-there g s array number sound reached is below none =
    let f : ℕ → List ℕ = λ n. words_or_none (local_block s.own array n) in
    let many = each-long (block_count g array) f in
    absent-blocks-are-not-there g array number (for_each (block_count g array) f) sound many (omega (arith, below, many)) (each-read (block_count g array) f number [] below ∙ ap words_or_none none)

-- the same of temps
pub temps-of-states-are-the-map : TempsOfStatesAreTheMap
temps-of-states-are-the-map g s array held sound reached is = held-blocks-are-the-map g array held ((reached-states-are-whole g s sound reached).own.temps array held is)
