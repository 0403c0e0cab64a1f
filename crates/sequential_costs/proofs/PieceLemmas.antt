-- Segments that aren't there have no pieces, but those of plain numbers.
use Rattle.std.proofs.Common.{◌≡◌, ℕ, zero, suc, ◌+◌, ◌-◌, ◌/◌, ◌<◌, min, List, length, refl, ap, ◌∙◌, arith}
use Rattle.std.proofs.Math.Nat.{div-zero, div-eq_of_lt}
use Rattle.std.proofs.lemmas.List.{get_or_past}
use Rattle.sial_syntax.specs.declared.index.Kind.{Kind}
use Rattle.sial_syntax.specs.declared.index.Kind.TheVariants.{Ao, Mo, Moa, Mob, Index}
use Rattle.sial_syntax.specs.Spaces.{Spaces, Extent, cut_of, kind_of, length_among, pieces_in, pieces_of, segment, segments_of}
use Rattle.sequential_costs.specs.Cuttings.{pieces_past}

-- nothing is cut into no pieces
empty : (whole : Extent) (piece : ℕ) → whole.len ≡ 0 → pieces_in whole piece ≡ 0
empty whole zero none = div-zero (whole.len + (zero - 1))
empty whole (suc p) none = ap (λ n. (n + (suc p - 1)) / suc p) none ∙ div-eq_of_lt (omega arith)

-- pieces of no length are none
pub uncut : (spaces : Spaces) (sub number : ℕ) → (cut_of spaces (kind_of spaces sub)).piece ≡ 0 → pieces_of spaces sub number ≡ 0
uncut spaces sub number none =
    ap (λ piece. pieces_in (segment spaces (kind_of spaces sub) number) piece) none ∙ div-zero ((segment spaces (kind_of spaces sub) number).len + (0 - 1))

-- number 0 has no length
no_length : (spaces : Spaces) (kind : Kind) → (segment spaces kind 0).len ≡ 0
no_length spaces Ao = refl
no_length spaces Mo = refl
no_length spaces Moa = refl
no_length spaces Mob = refl
no_length spaces Index = refl

pub before_first : (spaces : Spaces) (sub : ℕ) → pieces_of spaces sub 0 ≡ 0
before_first spaces sub = empty (segment spaces (kind_of spaces sub) 0) (cut_of spaces (kind_of spaces sub)).piece (no_length spaces (kind_of spaces sub))

-- nor has one past the last
past_among : (lengths : List ℕ) (number : ℕ) → length lengths < number → length_among lengths number ≡ 0
past_among lengths zero past = absurd (omega (arith, past))
past_among lengths (suc n) past = get_or_past lengths n 0 (omega (arith, past))

past_kind : (spaces : Spaces) (kind : Kind) (number : ℕ) → segments_of spaces kind < number → pieces_in (segment spaces kind number) (cut_of spaces kind).piece ≡ pieces_past kind
past_kind spaces Ao number past = empty (segment spaces Ao number) spaces.ao.piece (past_among spaces.ao.segments number past)
past_kind spaces Mo number past = empty (segment spaces Mo number) spaces.mo.piece (past_among spaces.mo.segments number past)
past_kind spaces Moa number past = empty (segment spaces Moa number) spaces.moa.piece (past_among spaces.moa.segments number past)
past_kind spaces Mob number past = empty (segment spaces Mob number) spaces.mob.piece (past_among spaces.mob.segments number past)
past_kind spaces Index zero past = absurd (omega (arith, past))
past_kind spaces Index (suc n) past = let one : min 1 (suc n) ≡ 1 = omega arith in ap (λ k. (k + (1 - 1)) / 1) one

pub past_last : (spaces : Spaces) (sub number : ℕ) → segments_of spaces (kind_of spaces sub) < number → pieces_of spaces sub number ≡ pieces_past (kind_of spaces sub)
past_last spaces sub number past = past_kind spaces (kind_of spaces sub) number past
