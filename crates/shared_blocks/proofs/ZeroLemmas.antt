-- The blocks of an array made zeros one after another.
use Rattle.std.proofs.Common.{◌≡◌, ℕ, ◌+◌, ◌-◌, ◌<◌, ◌≤◌, List, [], map, length, slice_index_or, slice_set, replicate, refl, sym, ap, ◌∙◌, subst, arith}
use Rattle.std.proofs.lemmas.List.{length-replicate}
use Rattle.sial_syntax.specs.declared.array.ArrayKind.TheVariants.{Distributed}
use Rattle.sial_syntax.specs.Boxes.{numbers_from}
use Rattle.sial_meaning.specs.Own.{for_each}
use Rattle.sial_meaning.specs.Setting.{Setting, array_kind, block_count, block_words, first_of_class, zeros}
use Rattle.sial_meaning.specs.State.{with_run}
use Rattle.shared_blocks.specs.Standing.{AreWhole}
use Rattle.shared_blocks.proofs.FlatLemmas.{next-entry}
use Rattle.shared_blocks.proofs.SetLemmas.{whole-set, within}

-- so many blocks of an array are zeros: what the rest makes of them now is what is wanted
pub record Zeroing (g : Setting) (array : ℕ) (begun now : List (List ℕ)) (number : ℕ) : Type 0 where
  pub whole : AreWhole g Distributed now
  pub rest : with_run (first_of_class g array + number) (map (zeros g array) (numbers_from number (block_count g array - number))) now ≡ with_run (first_of_class g array) (for_each (block_count g array) (zeros g array)) begun

-- none is
pub zeroing-none : (g : Setting) (array : ℕ) (blocks : List (List ℕ)) → AreWhole g Distributed blocks → Zeroing g array blocks blocks 0
zeroing-none g array blocks whole = record {
  whole = whole;
  rest = (let first : first_of_class g array + 0 ≡ first_of_class g array = omega arith in
      let all : block_count g array - 0 ≡ block_count g array = omega arith in
      ap (λ k. with_run k (map (zeros g array) (numbers_from 0 (block_count g array - 0))) blocks) first ∙ ap (λ k. with_run (first_of_class g array) (map (zeros g array) (numbers_from 0 k)) blocks) all);
}

-- one more
pub zeroing-one : (g : Setting) (array : ℕ) (begun now : List (List ℕ)) (number place : ℕ) (held words : List ℕ) → array_kind g array ≡ Distributed → number < block_count g array → place ≡ first_of_class g array + number
    → held ≡ slice_index_or now place [] → words ≡ replicate (length held) 0 → Zeroing g array begun now number → Zeroing g array begun (slice_set now place words) (number + 1)
zeroing-one g array begun now number place held words is below at was-held zeroed was =
    let inside : place < length now = subst (λ k. k < length now) (sym at) (within g Distributed now array number refl is below was.whole) in
    let long : length held ≡ block_words g array number = ap length was-held ∙ (ap (λ k. length (slice_index_or now k [])) at ∙ was.whole.words array number is below) in
    let zero : words ≡ zeros g array number = zeroed ∙ ap (λ n. replicate n 0) long in
    let on : first_of_class g array + (number + 1) ≡ (first_of_class g array + number) + 1 = omega arith in
    record {
      whole = whole-set g Distributed now place words inside (ap length zeroed ∙ (length-replicate (length held) 0 ∙ ap length was-held)) was.whole;
      rest =
          ap (λ k. with_run k (map (zeros g array) (numbers_from (number + 1) (block_count g array - (number + 1)))) (slice_set now place words)) on
          ∙ (ap (λ k. with_run ((first_of_class g array + number) + 1) (map (zeros g array) (numbers_from (number + 1) (block_count g array - (number + 1)))) (slice_set now k words)) at
          ∙ (ap (λ w. with_run ((first_of_class g array + number) + 1) (map (zeros g array) (numbers_from (number + 1) (block_count g array - (number + 1)))) (slice_set now (first_of_class g array + number) w)) zero
          ∙ (ap (λ zs. with_run (first_of_class g array + number) zs now) (sym (next-entry (zeros g array) number (block_count g array) below)) ∙ was.rest)));
    }

-- all are
pub zeroing-all : (g : Setting) (array : ℕ) (begun now : List (List ℕ)) (number : ℕ) → block_count g array ≤ number → Zeroing g array begun now number → now ≡ with_run (first_of_class g array) (for_each (block_count g array) (zeros g array)) begun
zeroing-all g array begun now number all was =
    let none : block_count g array - number ≡ 0 = omega (arith, all) in
    ap (λ k. with_run (first_of_class g array + number) (map (zeros g array) (numbers_from number k)) now) (sym none) ∙ was.rest
