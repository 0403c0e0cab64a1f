-- The pieces of a segment are no more than the most of its range.
use Rattle.std.proofs.Common.{◌≡◌, ℕ, zero, suc, ◌+◌, ◌<◌, ◌≤◌, max, List, [], ◌∷◌, map, true, false, ◌==◌, refl, ap, ◌∙◌, eqb-true, arith}
use Rattle.std.proofs.lemmas.Bool.Decides.{nat_tests}
use Rattle.std.proofs.lemmas.Bool.{eq-eqb}
use Rattle.std.specs.List.{fold}
use Rattle.sial_syntax.specs.Boxes.{numbers_from}
use Rattle.sial_syntax.specs.Spaces.{Span, Segments, Pieces, span_of, span_first, span_count, first_of, count_of, pieces_of}
use Rattle.sial_meaning.specs.Costs.{most_pieces}
use Rattle.sial_meaning.specs.Setting.{Setting}
use Rattle.sial_meaning.specs.Sight.{cuts, is_pieces_of}
use Rattle.sial_meaning.specs.Sound.{IsSound}
use Rattle.sial_meaning.proofs.Granted.Ranges.{InSpan}
use Rattle.sial_meaning.proofs.Granted.Rules.{no-part-of-part}

-- what the greatest begins with is no greater
most_from : (first : ℕ) (xs : List ℕ) → first ≤ fold max first xs
most_from first [] = omega arith
most_from first (x ∷ xs) = let rest = most_from (max first x) xs in omega (arith, rest)

-- nor is what stands in a row
most_in : (f : ℕ → ℕ) (least from count n : ℕ) → from ≤ n → n < from + count → f n ≤ fold max least (map f (numbers_from from count))
most_in f least from zero n low high = absurd (omega (arith, low, high))
most_in f least from (suc count) n low high =
    elim (from == n) as (λ q. (from == n) ≡ q → f n ≤ fold max (max least (f from)) (map f (numbers_from (from + 1) count))) [
      | true ↦ λ e.
          let here : f from ≡ f n = ap f (eqb-true from n e) in
          let rest = most_from (max least (f from)) (map f (numbers_from (from + 1) count)) in
          omega (arith, here, rest)
      | false ↦ λ e.
          let apart : from < n = grind (arith, nat_tests) in
          most_in f (max least (f from)) (from + 1) count n (omega (arith, apart)) (omega (arith, high))
    ] refl

-- the number of an index that is cut nowhere
whole_in : (s : Span) (v : ℕ) → InSpan s v → ((super : ℕ) → s ≡ Pieces super → ⊥) → (span_first s ≤ v) × (v < span_first s + span_count s)
whole_in (Segments kind first count) v in-span whole = in-span
whole_in (Pieces super) v in-span whole = absurd (whole super refl)

-- the pieces of the segment that an index has
pub pieces_few : (g : Setting) (sub index v : ℕ) → IsSound g → cuts g.spaces sub index ≡ true → InSpan (span_of g.spaces index) v → pieces_of g.spaces sub v ≤ most_pieces g sub index
pieces_few g sub index v sound cut in-span =
    let bounds = whole_in (span_of g.spaces index) v in-span (λ super is. no-part-of-part g sound sub index super cut (ap (λ s. is_pieces_of s super) is ∙ eq-eqb super super refl)) in
    most_in (pieces_of g.spaces sub) 0 (first_of g.spaces index) (count_of g.spaces index) v bounds.0 bounds.1
