-- Blocks of a kind after one or several were replaced.
use Rattle.std.proofs.Common.{◌≡◌, ℕ, ◌+◌, ◌<◌, List, [], length, slice_index_or, slice_set, inl, inr, false, refl, sym, ap, ◌∙◌, arith}
use Rattle.std.proofs.lemmas.Bool.{cases_eq}
use Rattle.std.proofs.lemmas.List.{get_or-set_other, get_or-set_same, length-set}
use Rattle.sial_syntax.specs.declared.access.Class.{Class}
use Rattle.sial_syntax.specs.declared.access.Class.TheVariants as class
use Rattle.sial_syntax.specs.declared.array.ArrayKind.{ArrayKind}
use Rattle.sial_syntax.specs.declared.array.ArrayKind.TheVariants.{Temp}
use Rattle.sial_syntax.specs.Spaces.{same_kind}
use Rattle.sial_meaning.specs.Setting.{Setting, array_kind, block_count, block_words, first_of_class}
use Rattle.sial_meaning.specs.State.{Shared, blocks_of_class, with_class}
use Rattle.sial_meaning.proofs.Granted.Runs.{within-class}
use Rattle.shared_blocks.specs.Standing.{AreWhole, kind_of_class}

-- the kind of a class isn't temp
pub counted : (c : Class) → same_kind (kind_of_class c) Temp ≡ false
counted class.Distributed = refl
counted class.Served = refl

-- each block of an array is one of those of its kind
pub within : (g : Setting) (kind : ArrayKind) (blocks : List (List ℕ)) (a n : ℕ) → same_kind kind Temp ≡ false → array_kind g a ≡ kind → n < block_count g a → AreWhole g kind blocks → first_of_class g a + n < length blocks
within g kind blocks a n other is below whole = let inside = within-class g a kind is other in let count = whole.count in omega (arith, inside, below, count)

-- a block was replaced by one as long
pub whole-set : (g : Setting) (kind : ArrayKind) (blocks : List (List ℕ)) (place : ℕ) (words : List ℕ) → place < length blocks → length words ≡ length (slice_index_or blocks place []) → AreWhole g kind blocks → AreWhole g kind (slice_set blocks place words)
whole-set g kind blocks place words inside same whole = record {
  count = length-set blocks place words ∙ whole.count;
  words = λ a n is below. elim (cases_eq (first_of_class g a + n) place) as (λ _. length (slice_index_or (slice_set blocks place words) (first_of_class g a + n) []) ≡ block_words g a n) [
    | inl e ↦
        ap (λ k. length (slice_index_or (slice_set blocks place words) k [])) e
        ∙ (ap length (get_or-set_same blocks place words [] inside) ∙ (same ∙ (ap (λ k. length (slice_index_or blocks k [])) (sym e) ∙ whole.words a n is below)))
    | inr ne ↦ ap length (get_or-set_other blocks place (first_of_class g a + n) words [] ne) ∙ whole.words a n is below
  ];
}

-- the blocks of one class are others
pub class-same : (shared : Shared) (c : Class) (blocks : List (List ℕ)) → blocks_of_class (with_class shared c blocks) c ≡ blocks
class-same shared class.Distributed blocks = refl
class-same shared class.Served blocks = refl
