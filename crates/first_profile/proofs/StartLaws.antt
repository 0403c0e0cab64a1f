-- A run of the first profile begins as the sequential meaning does.
use Rattle.std.proofs.Common.{◌≡◌, ℕ, ◌+◌, ◌*◌, ◌/◌, ◌<◌, List, [], ◌∷◌, Option, Some, map, length, replicate, slice_index_or, refl, sym, ap, ◌∙◌, arith}
use Rattle.std.specs.List.{All}
use Rattle.std.proofs.lemmas.List.Elements.{All-get_or, All-weaker}
use Rattle.std.proofs.lemmas.Simd.{map-map}
use Rattle.sial_syntax.specs.Boxes.{numbers_from, volume}
use Rattle.sial_syntax.specs.Spaces.{first_of, count_of, box_of, numbers_at, words_in}
use Rattle.sial_syntax.specs.declared.array.ArrayKind.{ArrayKind}
use Rattle.sial_syntax.specs.declared.array.ArrayKind.TheVariants.{Static}
use Rattle.sial_syntax.specs.declared.classes.ScalarClass.{ScalarClass}
use Rattle.sial_meaning.specs.Meaning.{block_meaning, calls, call_depth}
use Rattle.sial_meaning.specs.Own.{start_own, start_scalar, start_statics, for_each}
use Rattle.sial_meaning.specs.Setting.{Setting, Given, no_array, array_kind, dims_of, block_count, block_words, scalar_class, zeros}
use Rattle.sial_meaning.specs.State.{State, start_state}
use Rattle.sial_meaning.specs.Statement.{Present}
use Rattle.sial_syntax.proofs.BoxLemmas.{map-from, numbers-shift}
use Rattle.sip_setting.specs.Printing.{lines_of, printed_text, text_of}
use Rattle.first_profile.specs.FirstTree.{IsArray, OneBelow}
use Rattle.first_profile.specs.Ready.{IsFirstSetting, IsStart}
use Rattle.first_profile.specs.Running.{Numbers, start_numbers, zero_numbers, zero_blocks, segment_len, only_index, state_of, body_prints, with_all_given}
use Rattle.first_profile.proofs.ClassLemmas.{class-is}
use Rattle.first_profile.proofs.GivenLemmas.{begun, all-given, others-stay, scalars-stay}
use Rattle.first_profile.proofs.Places.{map-read}

-- all scalars begin with their numbers
pub scalars-start : (g : Setting) → IsFirstSetting g
    → for_each (length g.program.scalars) (λ s. start_scalar (scalar_class g s) (slice_index_or g.numbers s 0)) ≡ map Some g.numbers
scalars-start g is =
    ap (λ n. for_each n (λ s. start_scalar (scalar_class g s) (slice_index_or g.numbers s 0))) (sym is.ready.numbers)
    ∙ (map-from
    (λ (s : ℕ). start_scalar (scalar_class g s) (slice_index_or g.numbers s 0))
    (λ (s : ℕ). Some (slice_index_or g.numbers s 0))
    0
    (length g.numbers)
    (λ s from below. ap (λ (c : ScalarClass). start_scalar c (slice_index_or g.numbers s 0)) (class-is g is s))
    ∙ map-read Some 0 g.numbers)

-- a list of one index is that index
pub one_is : (n : ℕ) (dims : List ℕ) → OneBelow n dims → dims ≡ only_index dims ∷ []
one_is n [] below = absurd below
one_is n (x ∷ []) below = refl
one_is n (x ∷ (y ∷ ys)) below = absurd below

-- the words of a block over one index
pub words-one : (g : Setting) (array index k : ℕ) → dims_of g array ≡ index ∷ [] → block_words g array k ≡ segment_len g index (first_of g.spaces index + k)
words-one g array index k dims =
    let whole : k / 1 ≡ k = omega arith in
    let one : (n : ℕ) → n * 1 ≡ n = λ n. omega arith in
    ap (λ (ds : List ℕ). words_in g.spaces ds (numbers_at g.spaces ds k)) dims
    ∙ (one (segment_len g index (first_of g.spaces index + k / 1)) ∙ ap (λ n. segment_len g index (first_of g.spaces index + n)) whole)

-- how many blocks an array over one index has
pub count-one : (g : Setting) (array index : ℕ) → dims_of g array ≡ index ∷ [] → block_count g array ≡ count_of g.spaces index
count-one g array index dims = ap (λ (ds : List ℕ). volume (box_of g.spaces ds)) dims ∙ omega arith

-- an array of the first profile: it is static, and has one index
pub array-one : (g : Setting) (array : ℕ) → IsFirstSetting g → array < length g.program.arrays → (array_kind g array ≡ Static) × (dims_of g array ≡ only_index (dims_of g array) ∷ [])
array-one g array is within =
    let array_is = All-get_or (IsArray (length g.program.indices)) g.program.arrays array no_array within is.tree.arrays in
    (array_is.0, one_is (length g.program.indices) (dims_of g array) array_is.1)

-- the blocks of a static array over one index, in zeros
zeros-one : (g : Setting) (array : ℕ) → IsFirstSetting g → array < length g.program.arrays → begun g [] array ≡ zero_blocks g (slice_index_or g.program.arrays array no_array)
zeros-one g array is within =
    let index = only_index (dims_of g array) in
    let dims = (array-one g array is within).1 in
    ap (λ n. for_each n (zeros g array)) (count-one g array index dims)
    ∙ (map-from
    (zeros g array)
    (λ (k : ℕ). replicate (segment_len g index (first_of g.spaces index + k)) 0)
    0
    (count_of g.spaces index)
    (λ k from below. ap (λ n. replicate n 0) (words-one g array index k dims))
    ∙ (sym (map-map (λ (k : ℕ). replicate (segment_len g index k) 0) (λ (k : ℕ). first_of g.spaces index + k) (numbers_from 0 (count_of g.spaces index)))
    ∙ ap (map (λ (k : ℕ). replicate (segment_len g index k) 0)) (numbers-shift (first_of g.spaces index) (count_of g.spaces index))))

-- all blocks in zeros
pub zeros-are : (g : Setting) → IsFirstSetting g → (zero_numbers g).statics ≡ for_each (length g.program.arrays) (begun g [])
zeros-are g is =
    sym
    (map-from
    (begun g [])
    (λ (a : ℕ). zero_blocks g (slice_index_or g.program.arrays a no_array))
    0
    (length g.program.arrays)
    (λ a from below. zeros-one g a is (omega (arith, below)))
    ∙ map-read (zero_blocks g) no_array g.program.arrays)

-- the blocks with which the meaning begins
pub begun-are : (g : Setting) → IsFirstSetting g → (start_numbers g).statics ≡ for_each (length g.program.arrays) (begun g g.blocks)
begun-are g is =
    map-from
    (λ (a : ℕ). start_statics g a (array_kind g a))
    (begun g g.blocks)
    0
    (length g.program.arrays)
    (λ a from below. ap (λ (k : ArrayKind). start_statics g a k) (array-one g a is (omega (arith, below))).0)

-- given blocks set over zeros are these
pub start-are : (g : Setting) → IsFirstSetting g → with_all_given g.blocks (zero_numbers g) ≡ start_numbers g
start-are g is =
    let of : List ℕ → List ℕ → List (List (List ℕ)) → Numbers = λ values scalars statics. record { values = values; scalars = scalars; statics = statics } in
    let m = with_all_given g.blocks (zero_numbers g) in
    let within : All (λ (b : Given). b.array < length g.program.arrays) g.blocks = All-weaker (IsStart g) (λ (b : Given). b.array < length g.program.arrays) (λ b start. start.array) g.blocks is.ready.blocks in
    ap (λ values. of values m.scalars m.statics) (others-stay g.blocks (zero_numbers g))
    ∙ (ap (λ scalars. of (zero_numbers g).values scalars m.statics) (scalars-stay g.blocks (zero_numbers g))
    ∙ ap (of (zero_numbers g).values g.numbers) (all-given g (zero_numbers g) g.blocks (length g.program.arrays) within (zeros-are g is) ∙ sym (begun-are g is)))

-- a run begins as the meaning does
pub start-is : (g : Setting) → IsFirstSetting g → start_state g ≡ state_of g (start_numbers g) []
start-is g is =
    ap (λ (scalars : List (Option ℕ)). record (start_state g) { own = record (start_own g) { scalars = scalars } }) (scalars-start g is)

-- the text that a run prints is that of the sequential meaning
pub printed : (g : Setting) → IsFirstSetting g → printed_text g ≡ text_of (body_prints g g.program.body (start_numbers g))
unfolding body_prints
printed g is =
    ap (λ (s : State). text_of (lines_of (block_meaning Present g (calls Present g call_depth) g.program.body s))) (start-is g is)
