-- How many numbers a named block has at most, where its indices have numbers in their ranges.
use Rattle.std.proofs.Common.{◌≡◌, ℕ, zero, suc, ◌+◌, ◌<◌, ◌≤◌, ◌⊎◌, inl, inr, List, [], ◌∷◌, map, min, max, length, slice_index_or, true, false, ◌==◌, ◌&&◌, nat_le, eqb-true, refl, sym, ap, ◌∙◌, subst, arith}
use Rattle.std.specs.Prelude.{fold}
use Rattle.std.specs.List.{list_all}
use Rattle.std.proofs.Math.Nat.{mul-le-mul}
use Rattle.std.proofs.lemmas.Bool.{eq-eqb, leb-true}
use Rattle.std.proofs.lemmas.Bool.Decides.{nat_tests}
use Rattle.sial_syntax.specs.declared.array.ArrayDecl.{ArrayDecl}
use Rattle.sial_syntax.specs.declared.array.ArrayKind.TheVariants.{Temp}
use Rattle.sial_syntax.specs.declared.operand.BlockRef.{BlockRef}
use Rattle.sial_syntax.specs.declared.index.Kind.{Kind}
use Rattle.sial_syntax.specs.declared.index.Kind.TheVariants.{Ao, Mo, Moa, Mob, Index}
use Rattle.sial_syntax.specs.Agreeing.{all_in, contains, fits_dims, may_stand_for}
use Rattle.sial_syntax.specs.Boxes.{numbers_from, volume}
use Rattle.sial_syntax.specs.Limits.{most_words}
use Rattle.sial_syntax.specs.Resolved.{indices_within, is_narrow, itself_or_super, lies_in, range_within, whole_index}
use Rattle.sial_syntax.specs.Spaces.{Extent, Pieces, Segments, Spaces, Span, count_of, cut_of, extent, first_of, kind_of, piece_at, same_kind, segment, span_count, span_extent, span_first, span_kind, span_of}
use Rattle.sial_syntax.specs.Widths.{most_of, widest_block, width_of_span}
use Rattle.sial_meaning.specs.Setting.{Setting, array_kind, dims_of, no_array}
use Rattle.sial_meaning.specs.Own.{Own}
use Rattle.sial_meaning.specs.Sight.{is_pieces_of, lengths}
use Rattle.sial_meaning.specs.Sound.{IsSound}
use Rattle.sial_meaning.proofs.AcceptedInOtherWords.Pairs.{first-holds, never, second-holds}
use Rattle.sial_meaning.proofs.AssignmentsReadBack.Places.{either-holds}
use Rattle.sial_meaning.proofs.Granted.Declared.{Stands, is_pieces, stands-for}
use Rattle.sial_meaning.proofs.Granted.Ranges.{AllWhole, InRange, InSpan, array-whole}
use Rattle.sial_meaning.proofs.Granted.Rules.{no-part-of-part}
use Rattle.sial_meaning.proofs.PardosKeepTheControl.Fold.{OnlyBound}
use Rattle.sial_meaning.proofs.WritesFitTheirBlocks.Blocks.{Fit}

-- the most of some numbers is none of them, or more
most-from : (first : ℕ) (xs : List ℕ) → first ≤ fold max first xs
most-from first [] = omega arith
most-from first (x ∷ xs) = let rest = most-from (max first x) xs in omega (arith, rest)

most-in : (f : ℕ → ℕ) (least from count n : ℕ) → from ≤ n → n < from + count → f n ≤ fold max least (map f (numbers_from from count))
most-in f least from zero n low high = absurd (omega (arith, low, high))
most-in f least from (suc count) n low high =
    elim (from == n) as (λ q. (from == n) ≡ q → f n ≤ fold max (max least (f from)) (map f (numbers_from (from + 1) count))) [
      | true ↦ λ e.
          let here : f from ≡ f n = ap f (eqb-true from n e) in
          let rest = most-from (max least (f from)) (map f (numbers_from (from + 1) count)) in
          omega (arith, here, rest)
      | false ↦ λ e.
          let apart : from < n = grind (arith, nat_tests) in
          most-in f (max least (f from)) (from + 1) count n (omega (arith, apart)) (omega (arith, high))
    ] refl

-- a number of the range within which another lies
in-lying : (first count within many v : ℕ) → lies_in first count within many ≡ true → first ≤ v → v < first + count → (within ≤ v) × (v < within + many)
in-lying first count within many v lies low high =
    elim (either-holds (count == 0) (nat_le within first && nat_le (first + count) (within + many)) lies) as (λ q. (within ≤ v) × (v < within + many)) [
      | inl none ↦ let is = eqb-true count 0 none in absurd (omega (arith, is, low, high))
      | inr both ↦
          let c = leb-true within first (first-holds (nat_le within first) (nat_le (first + count) (within + many)) both) in
          let d = leb-true (first + count) (within + many) (second-holds (nat_le within first) (nat_le (first + count) (within + many)) both) in
          (omega (arith, c, low), omega (arith, d, high))
    ]

-- the index whose segment a subindex cuts has a segment of its range, or none
abbrev pub SuperIn : Setting → (values : List ℕ) → Span → Type 0
SuperIn g values (Segments kind first count) = Unit {0}
SuperIn g values (Pieces super) =
    (slice_index_or values super 0 ≡ 0)
    ⊎ ((first_of g.spaces super ≤ slice_index_or values super 0) × (slice_index_or values super 0 < first_of g.spaces super + count_of g.spaces super))

-- so it is for each of some indices
abbrev pub SupersIn : Setting → (values : List ℕ) → List ℕ → Type 0
SupersIn g values [] = Unit {0}
SupersIn g values (u ∷ us) = SuperIn g values (span_of g.spaces u) × SupersIn g values us

-- the ranges of two indices, of which one lies within the other
rows-lie : (g : Setting) (u d : ℕ) (su sd : Span) → su ≡ span_of g.spaces u → sd ≡ span_of g.spaces d → range_within g.spaces u d ≡ true
    → lies_in (first_of g.spaces (itself_or_super u su)) (count_of g.spaces (itself_or_super u su)) (first_of g.spaces (itself_or_super d sd)) (count_of g.spaces (itself_or_super d sd)) ≡ true
rows-lie g u d su sd is-u is-d within =
    ap (λ s. lies_in (first_of g.spaces (itself_or_super u s)) (count_of g.spaces (itself_or_super u s)) (first_of g.spaces (itself_or_super d sd)) (count_of g.spaces (itself_or_super d sd))) is-u
    ∙ (ap (λ s. lies_in (first_of g.spaces (whole_index g.spaces u)) (count_of g.spaces (whole_index g.spaces u)) (first_of g.spaces (itself_or_super d s)) (count_of g.spaces (itself_or_super d s))) is-d ∙ within)

-- a piece is no longer than pieces are, nor than its segment
piece-short : (whole : Extent) (piece number : ℕ) → (piece_at whole piece number).len ≤ min piece whole.len
piece-short whole piece zero = omega arith
piece-short whole piece (suc before) = omega arith

-- what stands for a segment of number 0 has no length
none-long : (spaces : Spaces) (kind : Kind) → (segment spaces kind 0).len ≡ 0
none-long spaces Ao = refl
none-long spaces Mo = refl
none-long spaces Moa = refl
none-long spaces Mob = refl
none-long spaces Index = omega arith

-- an index in place of another lies on no more positions than the widest segment or piece of the other
index-narrow : (g : Setting) (values : List ℕ) (u d : ℕ) (su sd : Span) → su ≡ span_of g.spaces u → sd ≡ span_of g.spaces d → Stands g u d → range_within g.spaces u d ≡ true
    → InSpan su (slice_index_or values u 0) → SuperIn g values su → (span_extent g.spaces values u su).len ≤ width_of_span g.spaces d sd
index-narrow g values u d (Segments kind first count) (Segments declared from many) is-u is-d stands within in-span super =
    let v = slice_index_or values u 0 in
    let kinds : kind ≡ declared = ap (span_kind g.spaces) is-u ∙ (stands.kind ∙ sym (ap (span_kind g.spaces) is-d)) in
    let rows = rows-lie g u d (Segments kind first count) (Segments declared from many) is-u is-d within in
    let lies : lies_in first count from many ≡ true =
    ap (λ s. lies_in (span_first s) (span_count s) from many) is-u ∙ (ap (λ s. lies_in (first_of g.spaces u) (count_of g.spaces u) (span_first s) (span_count s)) is-d ∙ rows) in
    let both = in-lying first count from many v lies in-span.0 in-span.1 in
    subst (λ k. (segment g.spaces kind v).len ≤ most_of (map (λ (n : ℕ). (segment g.spaces k n).len) (numbers_from from many))) kinds
    (most-in (λ (n : ℕ). (segment g.spaces kind n).len) 0 from many v both.0 both.1)
index-narrow g values u d (Segments kind first count) (Pieces other) is-u is-d stands within in-span super =
    absurd (never (ap is_pieces is-u ∙ (stands.cut ∙ sym (ap is_pieces is-d))))
index-narrow g values u d (Pieces super) (Segments declared from many) is-u is-d stands within in-span has =
    absurd (never (sym (ap is_pieces is-u ∙ (stands.cut ∙ sym (ap is_pieces is-d)))))
index-narrow g values u d (Pieces super) (Pieces other) is-u is-d stands within in-span (inl none) =
    let k = kind_of g.spaces u in
    let short = piece-short (segment g.spaces k (slice_index_or values super 0)) (cut_of g.spaces k).piece (slice_index_or values u 0) in
    let empty : (segment g.spaces k (slice_index_or values super 0)).len ≡ 0 = ap (λ (n : ℕ). (segment g.spaces k n).len) none ∙ none-long g.spaces k in
    omega (arith, short, empty)
index-narrow g values u d (Pieces super) (Pieces other) is-u is-d stands within in-span (inr has) =
    let v = slice_index_or values super 0 in
    let lies = rows-lie g u d (Pieces super) (Pieces other) is-u is-d within in
    let both = in-lying (first_of g.spaces super) (count_of g.spaces super) (first_of g.spaces other) (count_of g.spaces other) v lies has.0 has.1 in
    let short = piece-short (segment g.spaces (kind_of g.spaces u) v) (cut_of g.spaces (kind_of g.spaces u)).piece (slice_index_or values u 0) in
    let most : min (cut_of g.spaces (kind_of g.spaces u)).piece (segment g.spaces (kind_of g.spaces u) v).len ≤ width_of_span g.spaces d (Pieces other) =
    subst (λ k. min (cut_of g.spaces k).piece (segment g.spaces k v).len ≤ width_of_span g.spaces d (Pieces other)) (sym stands.kind)
    (most-in (λ (n : ℕ). min (cut_of g.spaces (kind_of g.spaces d)).piece (segment g.spaces (kind_of g.spaces d) n).len) 0 (first_of g.spaces other) (count_of g.spaces other) v both.0 both.1) in
    omega (arith, short, most)

-- the indices of a block have no more positions together than the widest block of such dimensions
indices-narrow : (g : Setting) → IsSound g → (bound values us ds : List ℕ) → InRange g bound values → all_in us bound ≡ true → length us ≡ length ds → fits_dims g.program us ds ≡ true → indices_within g.spaces us ds ≡ true → SupersIn g values us
    → volume (lengths (map (extent g.spaces values) us)) ≤ widest_block g.spaces ds
indices-narrow g sound bound values [] [] in-range used long fits within supers = omega arith
indices-narrow g sound bound values [] (d ∷ ds) in-range used long fits within supers = absurd (omega (arith, long))
indices-narrow g sound bound values (u ∷ us) [] in-range used long fits within supers = absurd (omega (arith, long))
indices-narrow g sound bound values (u ∷ us) (d ∷ ds) in-range used long fits within supers =
    let stands = stands-for g sound u d (first-holds (may_stand_for g.program u d) (fits_dims g.program us ds) fits) in
    let here = index-narrow g values u d (span_of g.spaces u) (span_of g.spaces d) refl refl stands (first-holds (range_within g.spaces u d) (indices_within g.spaces us ds) within)
    (in-range u (first-holds (contains bound u) (all_in us bound) used)) supers.0 in
    let rest = indices-narrow g sound bound values us ds in-range (second-holds (contains bound u) (all_in us bound) used) (omega (arith, long))
    (second-holds (may_stand_for g.program u d) (fits_dims g.program us ds) fits) (second-holds (range_within g.spaces u d) (indices_within g.spaces us ds) within) supers.1 in
    mul-le-mul here rest

-- the blocks of each array are narrow
arrays-narrow : (spaces : Spaces) (arrays : List ArrayDecl) (a : ℕ) → list_all (is_narrow spaces) arrays ≡ true → widest_block spaces (slice_index_or arrays a no_array).dims ≤ most_words
arrays-narrow spaces [] a narrow = omega arith
arrays-narrow spaces (x ∷ xs) zero narrow = leb-true (widest_block spaces x.dims) most_words (first-holds (is_narrow spaces x) (list_all (is_narrow spaces) xs) narrow)
arrays-narrow spaces (x ∷ xs) (suc a) narrow = arrays-narrow spaces xs a (second-holds (is_narrow spaces x) (list_all (is_narrow spaces) xs) narrow)

-- where only bound indices have numbers, and these are in their ranges, so are those of super indices
super-in : (g : Setting) → IsSound g → (bound : List ℕ) (own : Own) → InRange g bound own.values → OnlyBound bound own → (u : ℕ) (s : Span) → s ≡ span_of g.spaces u → SuperIn g own.values s
super-in g sound bound own in-range only u (Segments kind first count) is = tt
super-in g sound bound own in-range only u (Pieces super) is =
    elim (contains bound super) as (λ q. contains bound super ≡ q → SuperIn g own.values (Pieces super)) [
      | true ↦ λ e. inr (ranged (span_of g.spaces super) refl (in-range super e))
      | false ↦ λ e. inl (only super e)
    ] refl
  where
    ranged : (s : Span) → s ≡ span_of g.spaces super → InSpan (span_of g.spaces super) (slice_index_or own.values super 0)
        → (first_of g.spaces super ≤ slice_index_or own.values super 0) × (slice_index_or own.values super 0 < first_of g.spaces super + count_of g.spaces super)
    ranged (Segments kind first count) at within =
        let both : InSpan (Segments kind first count) (slice_index_or own.values super 0) = subst (λ (q : Span). InSpan q (slice_index_or own.values super 0)) (sym at) within in
        subst (λ (q : Span). (span_first q ≤ slice_index_or own.values super 0) × (slice_index_or own.values super 0 < span_first q + span_count q)) at both
    ranged (Pieces other) at within =
        absurd (no-part-of-part g sound u super other
        (ap (λ q. is_pieces_of q super) (sym is) ∙ eq-eqb super super refl)
        (ap (λ q. is_pieces_of q other) (sym at) ∙ eq-eqb other other refl))

supers-in : (g : Setting) → IsSound g → (bound : List ℕ) (own : Own) → InRange g bound own.values → OnlyBound bound own → (us : List ℕ) → SupersIn g own.values us
supers-in g sound bound own in-range only [] = tt
supers-in g sound bound own in-range only (u ∷ us) = (super-in g sound bound own in-range only u (span_of g.spaces u) refl, supers-in g sound bound own in-range only us)

-- a block whose super indices are in their ranges has at most 65,536 numbers
block-narrow : (g : Setting) (bound values : List ℕ) (b : BlockRef) → IsSound g → InRange g bound values → Fit g bound b → SupersIn g values b.at → volume (lengths (map (extent g.spaces values) b.at)) ≤ most_words
block-narrow g bound values b sound in-range fit supers =
    let most = indices-narrow g sound bound values b.at (dims_of g b.array) in-range fit.used fit.long fit.fits fit.within supers in
    let narrow = arrays-narrow g.spaces g.program.arrays b.array sound.spaces.1.narrow in
    omega (arith, most, narrow)

-- a named block has at most 65,536 numbers, where only bound indices have numbers
pub named-narrow : (g : Setting) (bound : List ℕ) (own : Own) (b : BlockRef) → IsSound g → InRange g bound own.values → OnlyBound bound own → Fit g bound b
    → volume (lengths (map (extent g.spaces own.values) b.at)) ≤ most_words
named-narrow g bound own b sound in-range only fit = block-narrow g bound own.values b sound in-range fit (supers-in g sound bound own in-range only b.at)

-- indices that stand where none is cut have no super indices
none-super : (g : Setting) (values : List ℕ) (s : Span) → is_pieces s ≡ false → SuperIn g values s
none-super g values (Segments kind first count) whole = tt
none-super g values (Pieces super) whole = absurd (never (sym whole))

whole-supers : (g : Setting) → IsSound g → (values us ds : List ℕ) → length us ≡ length ds → fits_dims g.program us ds ≡ true → AllWhole g ds → SupersIn g values us
whole-supers g sound values [] ds long fits whole = tt
whole-supers g sound values (u ∷ us) [] long fits whole = absurd (omega (arith, long))
whole-supers g sound values (u ∷ us) (d ∷ ds) long fits whole =
    let stands = stands-for g sound u d (first-holds (may_stand_for g.program u d) (fits_dims g.program us ds) fits) in
    (none-super g values (span_of g.spaces u) (stands.cut ∙ whole.0), whole-supers g sound values us ds (omega (arith, long)) (second-holds (may_stand_for g.program u d) (fits_dims g.program us ds) fits) whole.1)

-- a block of an array that isn't temp has as few in any case
pub placed-narrow : (g : Setting) (bound values : List ℕ) (b : BlockRef) → IsSound g → InRange g bound values → Fit g bound b → same_kind (array_kind g b.array) Temp ≡ false
    → volume (lengths (map (extent g.spaces values) b.at)) ≤ most_words
placed-narrow g bound values b sound in-range fit other =
    block-narrow g bound values b sound in-range fit (whole-supers g sound values b.at (dims_of g b.array) fit.long fit.fits (array-whole g sound b.array other))
