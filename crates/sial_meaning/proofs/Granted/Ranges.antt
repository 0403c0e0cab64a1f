-- Named blocks whose indices are bound within their ranges: which block of the array each is, and where it lies.
use Rattle.std.proofs.Common.{◌≡◌, ℕ, zero, suc, ◌+◌, ◌<◌, ◌≤◌, ◌⊎◌, inl, inr, List, [], ◌∷◌, map, filter, length, slice_index_or, Bool, true, false, ◌==◌, ◌&&◌, not, nat_le, refl, sym, ap, ◌∙◌, eqb-true, arith}
use Rattle.std.proofs.lemmas.Bool.Decides.{nat_tests}
use Rattle.std.specs.List.{list_any}
use Rattle.sial_syntax.specs.declared.array.ArrayDecl.{ArrayDecl}
use Rattle.sial_syntax.specs.declared.array.ArrayKind.TheVariants.{Temp}
use Rattle.sial_syntax.specs.Agreeing.{contains, all_in, is_sub, may_stand_for, fits_dims}
use Rattle.sial_syntax.specs.BoxLaws.{AreSegments}
use Rattle.sial_syntax.specs.Resolved.{lies_in, whole_index, itself_or_super, range_within, indices_within}
use Rattle.sial_syntax.specs.Shapes.{array_breaks_kind}
use Rattle.sial_syntax.specs.Spaces.{Spaces, Span, Segments, Pieces, span_of, span_first, span_count, first_of, count_of, span_kind, kind_of, segment, piece_at, cut_of, extent, span_extent, same_kind}
use Rattle.sial_syntax.specs.Tree.{Tree}
use Rattle.sial_meaning.specs.Own.{Own, member_of}
use Rattle.sial_meaning.specs.Setting.{Setting, array_kind, dims_of}
use Rattle.sial_meaning.specs.Sound.{IsSound}
use Rattle.sial_meaning.specs.Whole.{extents_of, member_extent, held_extents}
use Rattle.sial_meaning.proofs.Granted.Shapes.{shapes-hold}
use Rattle.sial_meaning.proofs.AcceptedInOtherWords.Pairs.{never, first-holds, second-holds}
use Rattle.sial_meaning.proofs.AssignmentsReadBack.Places.{either-holds}
use Rattle.sial_meaning.proofs.StepsReachTheFold.Rules.{neither, kept_none}
use Rattle.sial_meaning.proofs.Granted.Declared.{is_pieces, sub-is, Stands, stands-for}

-- a number that an index may have: of a segment of its range; pieces are not asked
abbrev pub InSpan : Span → ℕ → Type 0
InSpan (Segments kind first count) v = (first ≤ v) × (v < first + count)
InSpan (Pieces super) v = Unit {0}

-- each of these indices has a number within its range
abbrev pub InRange : Setting → (bound values : List ℕ) → Type 0
InRange g indices values = (i : ℕ) → contains indices i ≡ true → InSpan (span_of g.spaces i) (slice_index_or values i 0)

-- a row of segments with a number lies within another
lies-within : (first count within many v : ℕ) → lies_in first count within many ≡ true → first ≤ v → v < first + count → (within ≤ v) × (v < within + many)
lies-within first count within many v lies low high =
    elim (either-holds (count == 0) (nat_le within first && nat_le (first + count) (within + many)) lies) as (λ q. (within ≤ v) × (v < within + many)) [
      | inl none ↦ let is = eqb-true count 0 none in absurd (omega (arith, is, low, high))
      | inr both ↦
          let a : nat_le within first ≡ true = first-holds (nat_le within first) (nat_le (first + count) (within + many)) both in
          let b : nat_le (first + count) (within + many) ≡ true = second-holds (nat_le within first) (nat_le (first + count) (within + many)) both in
          let c : within ≤ first = grind (arith, nat_tests) in
          let d : (first + count) ≤ (within + many) = grind (arith, nat_tests) in
          (omega (arith, c, low), omega (arith, d, high))
    ]

-- none of these indices is cut
abbrev pub AllWhole : Setting → List ℕ → Type 0
AllWhole g [] = Unit {0}
AllWhole g (d ∷ ds) = (is_pieces (span_of g.spaces d) ≡ false) × AllWhole g ds

-- what an uncut span gives
whole-bounds : (s : Span) (v : ℕ) → is_pieces s ≡ false → InSpan s v → (span_first s ≤ v) × (v < span_first s + span_count s)
whole-bounds (Segments kind first count) v whole in-span = in-span
whole-bounds (Pieces super) v whole in-span = absurd (never (sym whole))

whole-extent : (spaces : Spaces) (values : List ℕ) (u : ℕ) (s : Span) → is_pieces s ≡ false → span_extent spaces values u s ≡ segment spaces (span_kind spaces s) (slice_index_or values u 0)
whole-extent spaces values u (Segments kind first count) whole = refl
whole-extent spaces values u (Pieces super) whole = absurd (never (sym whole))

itself : (index : ℕ) (s : Span) → is_pieces s ≡ false → itself_or_super index s ≡ index
itself index (Segments kind first count) whole = refl
itself index (Pieces super) whole = absurd (never (sym whole))

-- an index that isn't cut: its number is one of the declared index's segments, and it lies on that segment
segment-named : (g : Setting) (values : List ℕ) (u d : ℕ) → is_pieces (span_of g.spaces d) ≡ false → Stands g u d → range_within g.spaces u d ≡ true → InSpan (span_of g.spaces u) (slice_index_or values u 0)
    → (first_of g.spaces d ≤ slice_index_or values u 0) × (slice_index_or values u 0 < first_of g.spaces d + count_of g.spaces d) × (extent g.spaces values u ≡ segment g.spaces (kind_of g.spaces d) (slice_index_or values u 0))
segment-named g values u d whole stands within in-span =
    let v = slice_index_or values u 0 in
    let whole-u : is_pieces (span_of g.spaces u) ≡ false = stands.cut ∙ whole in
    let one = itself u (span_of g.spaces u) whole-u in
    let other = itself d (span_of g.spaces d) whole in
    let lies : lies_in (first_of g.spaces u) (count_of g.spaces u) (first_of g.spaces d) (count_of g.spaces d) ≡ true =
    ap (λ x. lies_in (first_of g.spaces u) (count_of g.spaces u) (first_of g.spaces x) (count_of g.spaces x)) (sym other)
    ∙ (ap (λ x. lies_in (first_of g.spaces x) (count_of g.spaces x) (first_of g.spaces (whole_index g.spaces d)) (count_of g.spaces (whole_index g.spaces d))) (sym one) ∙ within) in
    let bounds = whole-bounds (span_of g.spaces u) v whole-u in-span in
    let both = lies-within (first_of g.spaces u) (count_of g.spaces u) (first_of g.spaces d) (count_of g.spaces d) v lies bounds.0 bounds.1 in
    (both.0, both.1, whole-extent g.spaces values u (span_of g.spaces u) whole-u ∙ ap (λ k. segment g.spaces k v) stands.kind)

-- an index of a temp's block lies where its member says
member-named : (g : Setting) (own : Own) (u d : ℕ) (su sd : Span) → Stands g u d → is_pieces su ≡ is_pieces sd → (su ≡ span_of g.spaces u) → (sd ≡ span_of g.spaces d)
    → span_extent g.spaces own.values u su ≡ member_extent g.spaces d sd (member_of own u su)
member-named g own u d (Segments kind first count) (Segments declared from many) stands cut is-u is-d =
    ap (λ k. segment g.spaces k (slice_index_or own.values u 0)) (ap (span_kind g.spaces) is-u ∙ (stands.kind ∙ sym (ap (span_kind g.spaces) is-d)))
member-named g own u d (Segments kind first count) (Pieces super) stands cut is-u is-d = absurd (never cut)
member-named g own u d (Pieces super) (Segments declared from many) stands cut is-u is-d = absurd (never (sym cut))
member-named g own u d (Pieces super) (Pieces other) stands cut is-u is-d =
    ap (λ k. piece_at (segment g.spaces k (slice_index_or own.values super 0)) (cut_of g.spaces k).piece (slice_index_or own.values u 0)) stands.kind

-- the blocks of an array of this kind are cut nowhere
whole-dims : (p : Tree) (arrays : List ArrayDecl) (a : ℕ) → filter (array_breaks_kind p) arrays ≡ [] → (same_kind (slice_index_or arrays a (record { name = []; line = 0; kind = Temp; dims = [] })).kind Temp ≡ true) ⊎ (list_any (is_sub p) (slice_index_or arrays a (record { name = []; line = 0; kind = Temp; dims = [] })).dims ≡ false)
whole-dims p [] a none = inl refl
whole-dims p (x ∷ xs) zero none = either-temp (same_kind x.kind Temp) (list_any (is_sub p) x.dims) (kept_none (array_breaks_kind p x) x (filter (array_breaks_kind p) xs) none).0
  where
    either-temp : (t s : Bool) → (not t && s) ≡ false → (t ≡ true) ⊎ (s ≡ false)
    either-temp true s e = inl refl
    either-temp false s e = inr e
whole-dims p (x ∷ xs) (suc a) none = whole-dims p xs a (kept_none (array_breaks_kind p x) x (filter (array_breaks_kind p) xs) none).1

-- indices of which none is cut
none-cut : (g : Setting) → IsSound g → (dims : List ℕ) → list_any (is_sub g.program) dims ≡ false → AllWhole g dims
none-cut g sound [] none = tt
none-cut g sound (d ∷ ds) none =
    let parts = neither (is_sub g.program d) (list_any (is_sub g.program) ds) none in
    (sub-is g sound d ∙ parts.0, none-cut g sound ds parts.1)

-- an array that isn't temp is cut nowhere
pub array-whole : (g : Setting) → IsSound g → (a : ℕ) → same_kind (array_kind g a) Temp ≡ false → AllWhole g (dims_of g a)
array-whole g sound a other =
    elim (whole-dims g.program g.program.arrays a (shapes-hold g.program sound.setting.granted).declared_arrays) as (λ q. AllWhole g (dims_of g a)) [
      | inl temp ↦ absurd (never (sym other ∙ temp))
      | inr none ↦ none-cut g sound (dims_of g a) none
    ]

-- the indices of a named block of an array that is cut nowhere: their numbers are segments, and the block lies on them
pub segments-named : (g : Setting) → IsSound g → (bound values us ds : List ℕ) → InRange g bound values → all_in us bound ≡ true → length us ≡ length ds → fits_dims g.program us ds ≡ true → indices_within g.spaces us ds ≡ true → AllWhole g ds
    → AreSegments g.spaces ds (map (λ u. slice_index_or values u 0) us) × (map (extent g.spaces values) us ≡ extents_of g.spaces ds (map (λ u. slice_index_or values u 0) us))
segments-named g sound bound values [] [] in-range are long fits within whole = (tt, refl)
segments-named g sound bound values [] (d ∷ ds) in-range are long fits within whole = absurd (omega (arith, long))
segments-named g sound bound values (u ∷ us) [] in-range are long fits within whole = absurd (omega (arith, long))
segments-named g sound bound values (u ∷ us) (d ∷ ds) in-range are long fits within whole =
    let stands = stands-for g sound u d (first-holds (may_stand_for g.program u d) (fits_dims g.program us ds) fits) in
    let here = segment-named g values u d whole.0 stands (first-holds (range_within g.spaces u d) (indices_within g.spaces us ds) within) (in-range u (first-holds (contains bound u) (all_in us bound) are)) in
    let rest = segments-named g sound bound values us ds in-range (second-holds (contains bound u) (all_in us bound) are) (omega (arith, long))
    (second-holds (may_stand_for g.program u d) (fits_dims g.program us ds) fits) (second-holds (range_within g.spaces u d) (indices_within g.spaces us ds) within) whole.1 in (
      (here.0, here.1, rest.0),
      ap (λ e. e ∷ map (extent g.spaces values) us) here.2 ∙ ap (λ es. segment g.spaces (kind_of g.spaces d) (slice_index_or values u 0) ∷ es) rest.1,
    )

-- the indices of a named temp: the block lies where its members say
pub members-named : (g : Setting) → IsSound g → (own : Own) (us ds : List ℕ) → length us ≡ length ds → fits_dims g.program us ds ≡ true
    → map (extent g.spaces own.values) us ≡ held_extents g.spaces ds (map (λ i. member_of own i (span_of g.spaces i)) us)
members-named g sound own [] [] long fits = refl
members-named g sound own [] (d ∷ ds) long fits = absurd (omega (arith, long))
members-named g sound own (u ∷ us) [] long fits = absurd (omega (arith, long))
members-named g sound own (u ∷ us) (d ∷ ds) long fits =
    let stands = stands-for g sound u d (first-holds (may_stand_for g.program u d) (fits_dims g.program us ds) fits) in
    ap (λ e. e ∷ map (extent g.spaces own.values) us) (member-named g own u d (span_of g.spaces u) (span_of g.spaces d) stands stands.cut refl refl)
    ∙ ap (λ es. member_extent g.spaces d (span_of g.spaces d) (member_of own u (span_of g.spaces u)) ∷ es)
    (members-named g sound own us ds (omega (arith, long)) (second-holds (may_stand_for g.program u d) (fits_dims g.program us ds) fits))
