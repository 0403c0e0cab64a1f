-- How many words a block has that is known by its number.
use Rattle.std.proofs.Common.{◌≡◌, ℕ, zero, suc, ◌+◌, ◌-◌, ◌<◌, ◌≤◌, List, [], ◌∷◌, map, min, max, ◌^◌, length, slice_index_or, true, false, ◌==◌, nat_lt, ◌&&◌, Option, Some, None, refl, sym, ap, ◌∙◌, subst, eqb-true, arith}
use Rattle.std.specs.Prelude.{fold, if◌then◌else◌}
use Rattle.std.specs.List.{list_all}
use Rattle.std.proofs.Math.Nat.{mul-le-mul}
use Rattle.std.proofs.lemmas.Bool.{leb-true, ltb-false}
use Rattle.std.proofs.lemmas.Bool.Decides.{nat_tests}
use Rattle.sial_syntax.specs.declared.array.ArrayDecl.{ArrayDecl}
use Rattle.sial_syntax.specs.declared.array.ArrayKind.TheVariants.{Temp}
use Rattle.sial_syntax.specs.declared.index.IndexDecl.{IndexDecl}
use Rattle.sial_syntax.specs.declared.index.Kind.{Kind}
use Rattle.sial_syntax.specs.declared.index.Kind.TheVariants.{Index}
use Rattle.sial_syntax.specs.declared.index.Range.{Range}
use Rattle.sial_syntax.specs.declared.index.Range.TheVariants as range
use Rattle.sial_syntax.specs.BoxLaws.{AreSegments}
use Rattle.sial_syntax.specs.Boxes.{numbers_from, volume}
use Rattle.sial_syntax.specs.Limits.{most_words}
use Rattle.sial_syntax.specs.Resolved.{Constants, bound_number, segments_between, span_between, span_of_range, has_segments, is_at_least, is_at_most, is_narrow}
use Rattle.sial_syntax.specs.Spaces.{Spaces, Span, Segments, Pieces, span_of, span_first, span_count, span_kind, kind_of, segments_of, first_of, count_of, box_of, same_kind, segment, words_in, numbers_at}
use Rattle.sial_syntax.specs.Widths.{most_of, width_of_span, widest_block}
use Rattle.sial_syntax.proofs.RankLemmas.{numbers-within}
use Rattle.index_spaces.specs.Placed.{AreIn, Placed, array_among, bare}
use Rattle.sial_meaning.specs.Setting.{Setting, array_kind, block_count, block_words, dims_of, no_array}
use Rattle.sial_meaning.specs.Sound.{IsSound}
use Rattle.sial_meaning.proofs.AcceptedInOtherWords.Pairs.{first-holds, second-holds, never}
use Rattle.sial_meaning.proofs.Granted.Declared.{is_pieces}
use Rattle.sial_meaning.proofs.Granted.Ranges.{AllWhole, array-whole}
use Rattle.sial_meaning.proofs.Granted.Rules.{one-some, same-first, same-rest}
use Rattle.sial_meaning.proofs.Granted.Segments.{from-one}
use Rattle.exec_names.proofs.NamedLemmas.{few-dims}
use Rattle.exec_blocks.proofs.SettingLemmas.{dims-are}

-- segments end at the last of their kind
abbrev EndsWithin : Spaces → Span → Type 0
EndsWithin spaces s = (n : ℕ) → span_first s ≤ n → n < span_first s + span_count s → n ≤ segments_of spaces (span_kind spaces s)

at-most : (hi n : ℕ) → is_at_most n (Some hi) ≡ true → hi ≤ n
at-most hi n is = grind (arith, nat_tests)

between-ends : (spaces : Spaces) (kind : Kind) (lo hi : Option ℕ) (s : Span) → Some s ≡ span_between kind lo hi → is_at_most (segments_of spaces kind) hi ≡ true → EndsWithin spaces s
between-ends spaces kind None hi s same few = absurd cc
between-ends spaces kind (Some lo) None s same few = absurd cc
between-ends spaces kind (Some lo) (Some hi) s same few =
    let last : hi ≤ segments_of spaces kind = at-most hi (segments_of spaces kind) few in
    subst (λ (x : Span). EndsWithin spaces x) (sym (one-some s (segments_between kind lo hi) same))
    (elim (nat_lt hi lo) as (λ b. nat_lt hi lo ≡ b → EndsWithin spaces (if b then Segments kind 1 0 else Segments kind lo ((hi + 1) - lo))) [
      | true ↦ λ e n low high. absurd (omega (arith, low, high))
      | false ↦ λ e n low high. let after : lo ≤ hi = ltb-false hi lo e in omega (arith, after, last, low, high)
    ] refl)

range-ends : (constants : Constants) (spaces : Spaces) (r : Range) (s : Span) → Some s ≡ span_of_range constants r → has_segments constants spaces r ≡ true → EndsWithin spaces s
range-ends constants spaces (range.Segments kind lo hi) s same has =
    let rest = second-holds (nat_lt 0 (segments_of spaces kind)) (is_at_least 1 (bound_number constants lo) && is_at_most (segments_of spaces kind) (bound_number constants hi)) has in
    between-ends spaces kind (bound_number constants lo) (bound_number constants hi) s same
    (second-holds (is_at_least 1 (bound_number constants lo)) (is_at_most (segments_of spaces kind) (bound_number constants hi)) rest)
range-ends constants spaces (range.Sub super) s same has =
    subst (λ (x : Span). EndsWithin spaces x) (sym (one-some s (Pieces super) same)) (λ n low high. absurd (omega (arith, low, high)))

spans-end : (constants : Constants) (spaces : Spaces) (spans : List Span) (indices : List IndexDecl) (i : ℕ) → map Some spans ≡ map (λ (i : IndexDecl). span_of_range constants i.range) indices
    → list_all (λ (i : IndexDecl). has_segments constants spaces i.range) indices ≡ true → EndsWithin spaces (slice_index_or spans i (Segments Index 1 0))
spans-end constants spaces [] indices i same has = λ n low high. absurd (omega (arith, low, high))
spans-end constants spaces (s ∷ ss) [] i same has = absurd cc
spans-end constants spaces (s ∷ ss) (d ∷ ds) zero same has =
    range-ends constants spaces d.range s
    (same-first (Some s) (span_of_range constants d.range) (map Some ss) (map (λ (i : IndexDecl). span_of_range constants i.range) ds) same)
    (first-holds (has_segments constants spaces d.range) (list_all (λ (i : IndexDecl). has_segments constants spaces i.range) ds) has)
spans-end constants spaces (s ∷ ss) (d ∷ ds) (suc i) same has =
    spans-end constants spaces ss ds i
    (same-rest (Some s) (span_of_range constants d.range) (map Some ss) (map (λ (i : IndexDecl). span_of_range constants i.range) ds) same)
    (second-holds (has_segments constants spaces d.range) (list_all (λ (i : IndexDecl). has_segments constants spaces i.range) ds) has)

-- segments of a sound setting's indices are among those of their kinds
segments-in : (g : Setting) → IsSound g → (dims ns : List ℕ) → AreSegments g.spaces dims ns → AreIn g.spaces dims ns
segments-in g sound [] ns are = tt
segments-in g sound (d ∷ ds) [] are = tt
segments-in g sound (d ∷ ds) (n ∷ ns) are =
    let one = from-one g sound d in
    let low = are.0 in (
      omega (arith, one, low),
      spans-end sound.spaces.0 g.spaces g.spaces.spans g.program.indices d sound.spaces.1.spans sound.spaces.1.segments n are.0 are.1,
      segments-in g sound ds ns are.2,
    )

-- the most of some numbers is none of them, or more
most-from : (first : ℕ) (xs : List ℕ) → first ≤ fold max first xs
most-from first [] = omega arith
most-from first (x ∷ xs) = let rest = most-from (max first x) xs in omega (arith, rest)

most-in : (f : ℕ → ℕ) (least from count n : ℕ) → from ≤ n → n < from + count → f n ≤ fold max least (map f (numbers_from from count))
most-in f least from zero n low high = absurd (omega (arith, low, high))
most-in f least from (suc count) n low high =
    elim (from == n) as (λ q. (from == n) ≡ q → f n ≤ fold max (max least (f from)) (map f (numbers_from (from + 1) count))) [
      | true ↦ λ e.
          let here : f from ≡ f n = ap f (eqb-true from n e) in
          let rest = most-from (max least (f from)) (map f (numbers_from (from + 1) count)) in
          omega (arith, here, rest)
      | false ↦ λ e.
          let apart : from < n = grind (arith, nat_tests) in
          most-in f (max least (f from)) (from + 1) count n (omega (arith, apart)) (omega (arith, high))
    ] refl

-- a segment is no longer than the widest of its index
segment-narrow : (spaces : Spaces) (d n : ℕ) (s : Span) → is_pieces s ≡ false → span_first s ≤ n → n < span_first s + span_count s → (segment spaces (span_kind spaces s) n).len ≤ width_of_span spaces d s
segment-narrow spaces d n (Segments kind first count) whole low high = most-in (λ (k : ℕ). (segment spaces kind k).len) 0 first count n low high
segment-narrow spaces d n (Pieces super) whole low high = absurd (never (sym whole))

-- nor a block than the widest of its array
block-narrow : (g : Setting) (dims ns : List ℕ) → AllWhole g dims → AreSegments g.spaces dims ns → words_in g.spaces dims ns ≤ widest_block g.spaces dims
block-narrow g [] [] whole are = omega arith
block-narrow g [] (n ∷ ns) whole are = absurd are
block-narrow g (d ∷ ds) [] whole are = absurd are
block-narrow g (d ∷ ds) (n ∷ ns) whole are = mul-le-mul (segment-narrow g.spaces d n (span_of g.spaces d) whole.0 are.0 are.1) (block-narrow g ds ns whole.1 are.2)

-- the blocks of each array are narrow
arrays-narrow : (spaces : Spaces) (arrays : List ArrayDecl) (a : ℕ) → list_all (is_narrow spaces) arrays ≡ true → widest_block spaces (slice_index_or arrays a no_array).dims ≤ most_words
arrays-narrow spaces [] a narrow = omega arith
arrays-narrow spaces (x ∷ xs) zero narrow = leb-true (widest_block spaces x.dims) most_words (first-holds (is_narrow spaces x) (list_all (is_narrow spaces) xs) narrow)
arrays-narrow spaces (x ∷ xs) (suc a) narrow = arrays-narrow spaces xs a (second-holds (is_narrow spaces x) (list_all (is_narrow spaces) xs) narrow)

module _ (g : Setting) (sound : IsSound g) (array number : ℕ) (other : same_kind (array_kind g array) Temp ≡ false) (below : number < block_count g array) where
  -- the tuple of a block has segments of its array's indices
  pub tuple-in : AreIn g.spaces (dims_of g array) (numbers_at g.spaces (dims_of g array) number)
  tuple-in = segments-in g sound (dims_of g array) (numbers_at g.spaces (dims_of g array) number) (numbers-within g.spaces (dims_of g array) number below)

  -- a block has at most 65,536 words
  pub words-few : block_words g array number ≤ most_words
  words-few =
      let narrow = block-narrow g (dims_of g array) (numbers_at g.spaces (dims_of g array) number) (array-whole g sound array other) (numbers-within g.spaces (dims_of g array) number below) in
      let widest = arrays-narrow g.spaces g.program.arrays array sound.spaces.1.narrow in
      omega (arith, narrow, widest)

-- the tuple of a block, as spaces give it
tuple-is : (g : Setting) (s : Placed) (dims tuple : List ℕ) (array number : ℕ) → s.spaces ≡ g.spaces → s.arrays ≡ map bare g.program.arrays → dims ≡ (array_among s.arrays array).dims
    → tuple ≡ numbers_at s.spaces dims number → tuple ≡ numbers_at g.spaces (dims_of g array) number
tuple-is g s dims tuple array number same arrays at is =
    is ∙ (ap (λ (x : Spaces). numbers_at x dims number) same ∙ ap (λ (ds : List ℕ). numbers_at g.spaces ds number) (at ∙ dims-are g s array arrays))

-- it has segments of the array's indices
pub tuple-among : (g : Setting) (s : Placed) (dims tuple : List ℕ) (array number : ℕ) → IsSound g → s.spaces ≡ g.spaces → s.arrays ≡ map bare g.program.arrays → dims ≡ (array_among s.arrays array).dims
    → tuple ≡ numbers_at s.spaces dims number → same_kind (array_kind g array) Temp ≡ false → number < block_count g array → AreIn s.spaces (array_among s.arrays array).dims tuple
tuple-among g s dims tuple array number sound same arrays at is other below =
    let declared = dims-are g s array arrays in
    let named = tuple-is g s dims tuple array number same arrays at is in
    rw (same, declared, named) (tuple-in g sound array number other below)

-- its length
pub length-is : (g : Setting) (s : Placed) (dims tuple : List ℕ) (array number len : ℕ) → IsSound g → s.spaces ≡ g.spaces → s.arrays ≡ map bare g.program.arrays → dims ≡ (array_among s.arrays array).dims
    → tuple ≡ numbers_at s.spaces dims number → same_kind (array_kind g array) Temp ≡ false → number < block_count g array → len ≡ min (words_in s.spaces (array_among s.arrays array).dims tuple) (2 ^ 32 - 1)
    → len ≡ block_words g array number
length-is g s dims tuple array number len sound same arrays at is other below counted =
    let declared = dims-are g s array arrays in
    let named = tuple-is g s dims tuple array number same arrays at is in
    let words : words_in s.spaces (array_among s.arrays array).dims tuple ≡ block_words g array number = rw (same, declared, named) refl in
    let few = words-few g sound array number other below in
    omega (arith, counted, words, few)

-- its number is a place in the box of the array
pub rank-fits : (g : Setting) (s : Placed) (dims : List ℕ) (array number : ℕ) → s.spaces ≡ g.spaces → s.arrays ≡ map bare g.program.arrays → dims ≡ (array_among s.arrays array).dims → number < block_count g array
    → number < volume (box_of s.spaces dims)
rank-fits g s dims array number same arrays at below =
    let is : volume (box_of s.spaces dims) ≡ block_count g array =
    ap (λ (x : Spaces). volume (box_of x dims)) same ∙ ap (λ (ds : List ℕ). volume (box_of g.spaces ds)) (at ∙ dims-are g s array arrays) in
    omega (arith, is, below)

-- an array has few indices
pub dims-few : (g : Setting) (s : Placed) (dims : List ℕ) (array : ℕ) → IsSound g → s.arrays ≡ map bare g.program.arrays → dims ≡ (array_among s.arrays array).dims → length dims ≤ 6
dims-few g s dims array sound arrays at =
    let same : length dims ≡ length (dims_of g array) = ap length (at ∙ dims-are g s array arrays) in
    let few = few-dims g sound array in
    omega (arith, same, few)
