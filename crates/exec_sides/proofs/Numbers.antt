-- One number that meets all of a block, and blocks multiplied by a number.
use Rattle.std.proofs.Common.{◌≡◌, ℕ, ◌+◌, ◌*◌, ◌%◌, ◌^◌, ◌<◌, List, [], ◌∷◌, length, sym, ap, ◌∙◌, arith}
use Rattle.std.specs.Prelude.{replicate, slice_index}
use Rattle.std.proofs.lemmas.List.{get_or-map, get_or-replicate, length-map, length-replicate}
use Rattle.block_math.specs.Elements.{scaled}
use Rattle.kernel_contract.specs.Contraction.{Contracted, target, value}
use Rattle.kernel_contract.specs.declared.axis.Axis.{Axis}
use Rattle.kernel_permute.specs.How.{combined}
use Rattle.kernel_permute.specs.declared.how.How.{How}
use Rattle.kernel_permute.specs.declared.how.How.TheVariants.{Set}
use Rattle.sial_syntax.specs.Boxes.{volume, place_of, IsTupleOf}
use Rattle.sial_syntax.proofs.BoxLemmas.{place-within}
use Rattle.exec_sides.specs.Met.{Met}
use Rattle.exec_sides.specs.Named.{number_at}

-- a block filled
pub fill-meets : (dims : List ℕ) (n : ℕ) (old new : List ℕ) → length old ≡ volume dims → new ≡ replicate (length old) n → Met Set dims (λ t. n) old new
fill-meets dims n old new long is = record {
  each = λ tuple are.
      let within : place_of dims tuple < volume dims = place-within dims tuple are in
      ap (λ xs. slice_index xs (place_of dims tuple)) is ∙ get_or-replicate (length old) (place_of dims tuple) n 0 (omega (arith, within, long));
  len = ap length is ∙ length-replicate (length old) n;
}

-- one axis along all of a block
abbrev all_along : ℕ → List Axis
all_along len = record { len = len; a = 0; b = 0; to = 1 } ∷ []

-- a number times 1, at each place
pub number-meets : (how : How) (dims : List ℕ) (n len : ℕ) (old new : List ℕ) → n < 2 ^ 64 → len ≡ volume dims → Contracted (n ∷ []) (1 ∷ []) old new (all_along len) [] [] how → Met how dims (λ t. n) old new
number-meets how dims n len old new small long done = record {
  each = λ tuple are.
      let p = place_of dims tuple in
      let within : p < volume dims = place-within dims tuple are in
      let at : target (all_along len) [] (p ∷ []) [] ≡ p = at-place p in
      let is : value (n ∷ []) (1 ∷ []) (all_along len) [] [] (p ∷ []) [] ≡ n = value-is p in
      ap (slice_index new) (sym at)
      ∙ (done.named (p ∷ []) [] (omega (arith, within, long), tt) tt
      ∙ (ap (λ q. combined how (slice_index old q) (value (n ∷ []) (1 ∷ []) (all_along len) [] [] (p ∷ []) [])) at
      ∙ ap (combined how (slice_index old p)) is));
  len = done.len;
}
  where
    at-place : (p : ℕ) → target (all_along len) [] (p ∷ []) [] ≡ p
    at-place p = omega arith

    value-is : (p : ℕ) → value (n ∷ []) (1 ∷ []) (all_along len) [] [] (p ∷ []) [] ≡ n
    value-is p =
        let none : ((p * 0 + 0) + 0) ≡ 0 = omega arith in
        ap (λ q. (slice_index (n ∷ []) q * 1) % 2 ^ 64) none ∙ once
      where
        once : (n * 1) % 2 ^ 64 ≡ n
        once = omega (arith, small)

-- a block multiplied by a number
pub scaled-at : (dims : List ℕ) (n : ℕ) (old tuple : List ℕ) → length old ≡ volume dims → IsTupleOf dims tuple → number_at dims (scaled n old) tuple ≡ (number_at dims old tuple * n) % 2 ^ 64
scaled-at dims n old tuple long are =
    let within : place_of dims tuple < volume dims = place-within dims tuple are in
    get_or-map (λ x. x * n % 2 ^ 64) old (place_of dims tuple) 0 0 (omega (arith, within, long))

pub scaled-long : (n : ℕ) (old : List ℕ) → length (scaled n old) ≡ length old
scaled-long n old = length-map old (λ x. x * n % 2 ^ 64)
