-- Blocks of integrals, filled place by place.
use Rattle.std.proofs.Common.{◌≡◌, ℕ, ◌+◌, ◌%◌, ◌^◌, ◌≤◌, List, [], ◌∷◌, ◌++◌, map, take, length, sym, ap, ◌∙◌, arith}
use Rattle.std.proofs.lemmas.List.{map-append, take_all}
use Rattle.std.proofs.lemmas.Simd.{map-map}
use Rattle.sial_syntax.specs.Boxes.{numbers_from, tuple_at, tuples, volume}
use Rattle.sial_syntax.specs.Spaces.{Extent}
use Rattle.sial_syntax.proofs.BoxLemmas.{numbers-split, tuples-are}
use Rattle.sial_meaning.specs.LocalStep.{integral, whole_positions}
use Rattle.sial_meaning.specs.Sight.{lengths}

-- the integral at a place
abbrev pub integral_of : List Extent → ℕ → ℕ
integral_of es k = integral 1 (whole_positions es (tuple_at (lengths es) k)) % 2 ^ 64

-- one more place
pub integrals_more : (f : ℕ → ℕ) (k : ℕ) → map f (numbers_from 0 (k + 1)) ≡ map f (numbers_from 0 k) ++ f k ∷ []
integrals_more f k =
    let none : 0 + k ≡ k = omega arith in
    ap (map f) (numbers-split 0 k 1) ∙ (map-append f (numbers_from 0 k) (numbers_from (0 + k) 1) ∙ ap (λ n. map f (numbers_from 0 k) ++ f n ∷ []) none)

-- all places
pub integrals_all : (es : List Extent) (into : List ℕ) (k : ℕ) → length into ≤ k → k ≤ volume (lengths es) → length into ≡ volume (lengths es) → take k into ≡ map (integral_of es) (numbers_from 0 k)
    → into ≡ map (λ t. integral 1 (whole_positions es t) % 2 ^ 64) (tuples (lengths es))
integrals_all es into k low high long done =
    let all : k ≡ volume (lengths es) = omega (arith, low, high, long) in
    sym (take_all k into low)
    ∙ (done
    ∙ (ap (λ n. map (integral_of es) (numbers_from 0 n)) all
    ∙ (sym (map-map (λ t. integral 1 (whole_positions es t) % 2 ^ 64) (tuple_at (lengths es)) (numbers_from 0 (volume (lengths es))))
    ∙ ap (map (λ t. integral 1 (whole_positions es t) % 2 ^ 64)) (sym (tuples-are (lengths es))))))
