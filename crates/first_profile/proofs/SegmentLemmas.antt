-- The segments that an index of a program runs over are its kind's.
use Rattle.std.proofs.Common.{◌≡◌, ℕ, zero, suc, ◌+◌, ◌-◌, ◌<◌, ◌≤◌, List, [], ◌∷◌, map, slice_index_or, true, false, nat_lt, ◌&&◌, Option, Some, None, sym, subst, arith}
use Rattle.std.proofs.lemmas.Bool.{and_parts, leb-true}
use Rattle.std.specs.Prelude.{if◌then◌else◌}
use Rattle.std.specs.List.{list_all}
use Rattle.sial_syntax.specs.declared.index.IndexDecl.{IndexDecl}
use Rattle.sial_syntax.specs.declared.index.Kind.{Kind}
use Rattle.sial_syntax.specs.declared.index.Kind.TheVariants.{Index}
use Rattle.sial_syntax.specs.declared.index.Range.{Range}
use Rattle.sial_syntax.specs.declared.index.Range.TheVariants as range
use Rattle.sial_syntax.specs.Resolved.{Constants, bound_number, segments_between, span_between, span_of_range, has_segments, is_at_least, is_at_most, AreSpacesOf}
use Rattle.sial_syntax.specs.Spaces.{Spaces, Span, Segments, Pieces, span_kind, span_first, span_count, first_of, count_of, kind_of, segments_of}
use Rattle.sial_syntax.specs.Tree.{Tree}

-- a number among the segments of a span is one of its kind's
abbrev IsThere : Spaces → Span → Type 0
IsThere spaces s =
    (n : ℕ) → span_first s ≤ n → n < (span_first s + span_count s) → (0 < n) × (n ≤ segments_of spaces (span_kind spaces s))

-- things that are there are one
one-there : {X : Type 0} (a b : X) → Some a ≡ Some b → a ≡ b
one-there a b e = cc

-- the segments from one number to another
between-there : (spaces : Spaces) (kind : Kind) (lo hi : ℕ) → 1 ≤ lo → hi ≤ segments_of spaces kind → IsThere spaces (segments_between kind lo hi)
between-there spaces kind lo hi some most =
    elim (nat_lt hi lo) as (λ b. IsThere spaces (if b then Segments kind 1 0 else Segments kind lo ((hi + 1) - lo))) [
      | true ↦ λ n from below. absurd (omega (arith, from, below))
      | false ↦ λ n from below. (omega (arith, some, from), omega (arith, most, from, below))
    ]

-- the segments between two bounds
bounds-there : (spaces : Spaces) (kind : Kind) (lo hi : Option ℕ) (s : Span) → Some s ≡ span_between kind lo hi
    → is_at_least 1 lo ≡ true → is_at_most (segments_of spaces kind) hi ≡ true → IsThere spaces s
bounds-there spaces kind None hi s same some most = absurd cc
bounds-there spaces kind (Some lo) None s same some most = absurd cc
bounds-there spaces kind (Some lo) (Some hi) s same some most =
    subst (λ (x : Span). IsThere spaces x) (sym (one-there s (segments_between kind lo hi) same))
    (between-there spaces kind lo hi (leb-true 1 lo some) (leb-true hi (segments_of spaces kind) most))

-- the span of a range
range-there : (constants : Constants) (spaces : Spaces) (r : Range) (s : Span) → Some s ≡ span_of_range constants r
    → has_segments constants spaces r ≡ true → IsThere spaces s
range-there constants spaces (range.Segments kind lo hi) s same has =
    let low = is_at_least 1 (bound_number constants lo) in
    let high = is_at_most (segments_of spaces kind) (bound_number constants hi) in
    let both = and_parts low high (and_parts (nat_lt 0 (segments_of spaces kind)) (low && high) has).1 in
    bounds-there spaces kind (bound_number constants lo) (bound_number constants hi) s same both.0 both.1
range-there constants spaces (range.Sub super) s same has =
    subst (λ (x : Span). IsThere spaces x) (sym (one-there s (Pieces super) same)) (λ n from below. absurd (omega (arith, from, below)))

-- the first of two lists that are one
heads : {X : Type 0} (a b : X) (as' bs : List X) → a ∷ as' ≡ b ∷ bs → a ≡ b
heads a b as' bs e = cc

-- and what is behind it
tails : {X : Type 0} (a b : X) (as' bs : List X) → a ∷ as' ≡ b ∷ bs → as' ≡ bs
tails a b as' bs e = cc

-- the span of an index among some
spans-there : (constants : Constants) (spaces : Spaces) (spans : List Span) (indices : List IndexDecl) (i : ℕ)
    → map Some spans ≡ map (λ (d : IndexDecl). span_of_range constants d.range) indices
    → list_all (λ (d : IndexDecl). has_segments constants spaces d.range) indices ≡ true → IsThere spaces (slice_index_or spans i (Segments Index 1 0))
spans-there constants spaces [] indices i same has = λ n from below. absurd (omega (arith, from, below))
spans-there constants spaces (s ∷ ss) [] i same has = absurd cc
spans-there constants spaces (s ∷ ss) (d ∷ ds) zero same has =
    range-there constants spaces d.range s
    (heads (Some s) (span_of_range constants d.range) (map Some ss) (map (λ (e : IndexDecl). span_of_range constants e.range) ds) same)
    (and_parts (has_segments constants spaces d.range) (list_all (λ (e : IndexDecl). has_segments constants spaces e.range) ds) has).0
spans-there constants spaces (s ∷ ss) (d ∷ ds) (suc i) same has =
    spans-there constants spaces ss ds i
    (tails (Some s) (span_of_range constants d.range) (map Some ss) (map (λ (e : IndexDecl). span_of_range constants e.range) ds) same)
    (and_parts (has_segments constants spaces d.range) (list_all (λ (e : IndexDecl). has_segments constants spaces e.range) ds) has).1

-- a segment of an index is one of its kind's
pub segment-there : (p : Tree) (spaces : Spaces) (index n : ℕ) → AreSpacesOf p spaces → first_of spaces index ≤ n
    → n < (first_of spaces index + count_of spaces index) → (0 < n) × (n ≤ segments_of spaces (kind_of spaces index))
segment-there p spaces index n are from below = spans-there are.0 spaces spaces.spans p.indices index are.1.spans are.1.segments n from below
