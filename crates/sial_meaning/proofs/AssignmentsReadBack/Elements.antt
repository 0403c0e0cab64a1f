-- What assignments to a block read back.
use Rattle.std.proofs.Common.{◌≡◌, ℕ, zero, suc, ◌+◌, ◌-◌, ◌*◌, ◌<◌, ◌≤◌, Bool, true, false, ◌==◌, ◌||◌, List, [], ◌∷◌, map, zip, length, slice_index_or, inl, inr, Some, None, refl, sym, ap, ◌∙◌, subst, arith}
use Rattle.std.proofs.lemmas.Bool.{eqb-true, eq-eqb}
use Rattle.std.proofs.lemmas.Bool.Decides.{nat_tests}
use Rattle.std.proofs.lemmas.List.{length-map}
use Rattle.std.proofs.lemmas.Simd.{map-map}
use Rattle.std.specs.Prelude.{if◌then◌else◌}
use Rattle.sial_syntax.proofs.BoxLemmas.{tuples-are, tuples-counted, tuple-of-place, place-within}
use Rattle.sial_syntax.specs.Agreeing.{contains, all_in, has_twice}
use Rattle.sial_syntax.specs.Boxes.{numbers_from, volume, tuples, place_of, tuple_at, IsTupleOf}
use Rattle.sial_syntax.specs.Spaces.{Spaces, Extent, Span, Segments, Pieces, span_of, span_extent, extent, own_kind, span_kind, kind_of, cut_of, segment, piece_at}
use Rattle.sial_meaning.specs.LocalStep.{whole_positions}
use Rattle.sial_meaning.specs.ReadBackLaws.{named_block, places_in, under, cuts_each, word_of, NoPartOfPart, EachElementIsMet, AsManyElements, CopiesByName, SlicesByPosition, InsertsByPosition, InsertionsKeepOthers}
use Rattle.sial_meaning.specs.Right.{Alone, Shown, side_at, met}
use Rattle.sial_meaning.specs.Sight.{Sight, Places, cuts, is_pieces_of, position, positions_of, places_at, lies_on, all_lie, offsets, lengths, word_at, element}
use Rattle.sial_meaning.proofs.AcceptedInOtherWords.Pairs.{never, first-holds, second-holds, both-hold}
use Rattle.sial_meaning.proofs.AssignmentsReadBack.Places.{Beside, either-holds}
use Rattle.sial_meaning.proofs.AssignmentsReadBack.Positions.{places-zip, position-named, cuts-span, cuts-long, slice-position, insert-position, positions-beside, whole-long}

-- a function over a row of numbers, read at a place
row-at : (f : ℕ → ℕ) (first n p : ℕ) → p < n → slice_index_or (map f (numbers_from first n)) p 0 ≡ f (first + p)
row-at f first zero p below = absurd (omega (arith, below))
row-at f first (suc n) zero below = ap f (omega arith)
row-at f first (suc n) (suc p) below =
    let rest : p < n = omega (arith, below) in
    let on : (first + 1) + p ≡ first + suc p = omega arith in
    row-at f (first + 1) n p rest ∙ ap f on

-- each element of the result
pub each-element-is-met : EachElementIsMet
each-element-is-met spaces op target side tuple is =
    let dims = lengths target.extents in
    let f : List ℕ → ℕ = λ t. met op (word_at target t) (side_at spaces (places_at (zip target.at target.extents) t) side) in
    let p = place_of dims tuple in
    let none : 0 + p ≡ p = omega arith in
    ap (λ xs. slice_index_or (map f xs) p 0) (tuples-are dims)
    ∙ (ap (λ xs. slice_index_or xs p 0) (map-map f (tuple_at dims) (numbers_from 0 (volume dims)))
    ∙ (row-at (λ r. f (tuple_at dims r)) 0 (volume dims) p (place-within dims tuple is)
    ∙ (ap (λ r. f (tuple_at dims r)) none ∙ ap f (tuple-of-place dims tuple is))))

-- how many elements the result has
pub as-many-elements : AsManyElements
as-many-elements spaces op target side =
    length-map (tuples (lengths target.extents)) (λ t. met op (word_at target t) (side_at spaces (places_at (zip target.at target.extents) t) side))
    ∙ tuples-counted (lengths target.extents)

-- a block's element where its positions lie on it
pub element-is : (spaces : Spaces) (places : Places) (source : Sight) (ps : List ℕ) → positions_of spaces places source ≡ ps → all_lie source.extents ps ≡ true → element spaces places source ≡ Some (word_of source ps)
element-is spaces places source ps are lie =
    ap (λ x. if all_lie source.extents x then Some (word_at source (offsets source.extents x)) else None) are
    ∙ ap (λ (b : Bool). if b then Some (word_at source (offsets source.extents ps)) else None) lie

-- no element where they don't
element-none : (spaces : Spaces) (places : Places) (source : Sight) (ps : List ℕ) → positions_of spaces places source ≡ ps → all_lie source.extents ps ≡ false → element spaces places source ≡ None
element-none spaces places source ps are lie =
    ap (λ x. if all_lie source.extents x then Some (word_at source (offsets source.extents x)) else None) are
    ∙ ap (λ (b : Bool). if b then Some (word_at source (offsets source.extents ps)) else None) lie

-- a position on an extent
lies-from : (e : Extent) (p : ℕ) → e.start ≤ p → p < (e.start + e.len) → lies_on e p ≡ true
lies-from e p low high = grind (arith, nat_tests)

-- what stands under an index stands beside it
under-beside : (is ks : List ℕ) (i : ℕ) → length is ≡ length ks → contains is i ≡ true → Beside is ks i (under is ks i)
unfolding Beside
under-beside [] ks i long in-is = absurd (never in-is)
under-beside (j ∷ is) [] i long in-is = absurd (omega (arith, long))
under-beside (j ∷ is) (k ∷ ks) i long in-is =
    elim (j == i) as (λ b. (j == i) ≡ b → Beside (j ∷ is) (k ∷ ks) i (if b then k else under is ks i)) [
      | true ↦ λ e. inl (eqb-true j i e, refl)
      | false ↦ λ e.
          let rest : length is ≡ length ks = omega (arith, long) in
          inr (under-beside is ks i rest (subst (λ b. (b || contains is i) ≡ true) e in-is))
    ] refl

-- the whole position under an index, and that its offset lies below its length
under-whole : (spaces : Spaces) (values is tuple : List ℕ) (i : ℕ) → contains is i ≡ true → IsTupleOf (lengths (map (extent spaces values) is)) tuple
    → (under is (whole_positions (map (extent spaces values) is) tuple) i ≡ (extent spaces values i).start + under is tuple i) × (under is tuple i < (extent spaces values i).len)
under-whole spaces values [] tuple i in-is are = absurd (never in-is)
under-whole spaces values (j ∷ is) [] i in-is are = absurd are
under-whole spaces values (j ∷ is) (k ∷ ks) i in-is are =
    elim (j == i) as (λ b. (j == i) ≡ b
    → ((if b then (extent spaces values j).start + k else under is (whole_positions (map (extent spaces values) is) ks) i) ≡ (extent spaces values i).start + (if b then k else under is ks i))
    × ((if b then k else under is ks i) < (extent spaces values i).len)) [
      | true ↦ λ e. (ap (λ x. (extent spaces values x).start + k) (eqb-true j i e), subst (λ x. k < (extent spaces values x).len) (eqb-true j i e) are.0)
      | false ↦ λ e. under-whole spaces values is ks i (subst (λ b. (b || contains is i) ≡ true) e in-is) are.1
    ] refl

-- the positions of indices that all stand in the target
pub named-positions : (spaces : Spaces) (values to tuple own : List ℕ) → has_twice to ≡ false → IsTupleOf (lengths (map (extent spaces values) to)) tuple → (from : List ℕ) → all_in from to ≡ true
    → map (position spaces own (zip to (whole_positions (map (extent spaces values) to) tuple))) from ≡ map (λ i. (extent spaces values i).start + under to tuple i) from
named-positions spaces values to tuple own once are [] in-to = refl
named-positions spaces values to tuple own once are (i ∷ is) in-to =
    let es = map (extent spaces values) to in
    let ps = whole_positions es tuple in
    let here : contains to i ≡ true = first-holds (contains to i) (all_in is to) in-to in
    let long : length to ≡ length ps = sym (whole-long es tuple are ∙ length-map to (extent spaces values)) in
    ap (λ x. x ∷ map (position spaces own (zip to ps)) is)
    (position-named spaces own to ps i (under to ps i) once (under-beside to ps i long here) ∙ (under-whole spaces values to tuple i here are).0)
    ∙ ap (λ rest. ((extent spaces values i).start + under to tuple i) ∷ rest) (named-positions spaces values to tuple own once are is (second-holds (contains to i) (all_in is to) in-to))

-- they lie on their extents
pub named-lie : (spaces : Spaces) (values to tuple : List ℕ) → IsTupleOf (lengths (map (extent spaces values) to)) tuple → (from : List ℕ) → all_in from to ≡ true
    → all_lie (map (extent spaces values) from) (map (λ i. (extent spaces values i).start + under to tuple i) from) ≡ true
named-lie spaces values to tuple are [] in-to = refl
named-lie spaces values to tuple are (i ∷ is) in-to =
    let e = extent spaces values i in
    let k = under to tuple i in
    let below : k < e.len = (under-whole spaces values to tuple i (first-holds (contains to i) (all_in is to) in-to) are).1 in
    both-hold (lies_on e (e.start + k)) (all_lie (map (extent spaces values) is) (map (λ j. (extent spaces values j).start + under to tuple j) is))
    (lies-from e (e.start + k) (omega arith) (omega (arith, below)))
    (named-lie spaces values to tuple are is (second-holds (contains to i) (all_in is to) in-to))

-- and their offsets are the tuple's members
pub named-offsets : (spaces : Spaces) (values to tuple from : List ℕ) → offsets (map (extent spaces values) from) (map (λ i. (extent spaces values i).start + under to tuple i) from) ≡ map (under to tuple) from
named-offsets spaces values to tuple [] = refl
named-offsets spaces values to tuple (i ∷ is) =
    let back : ((extent spaces values i).start + under to tuple i) - (extent spaces values i).start ≡ under to tuple i = omega arith in
    ap (λ x. x ∷ offsets (map (extent spaces values) is) (map (λ j. (extent spaces values j).start + under to tuple j) is)) back
    ∙ ap (λ rest. under to tuple i ∷ rest) (named-offsets spaces values to tuple is)

-- a copy by name
pub copies-by-name : CopiesByName
copies-by-name spaces op values to from old words tuple once in-to are =
    let target = named_block spaces values to old in
    let source = named_block spaces values from words in
    let ps = map (λ i. (extent spaces values i).start + under to tuple i) from in
    let found : positions_of spaces (places_in target tuple) source ≡ ps =
    ap (λ places. map (position spaces from places) from) (places-zip to (map (extent spaces values) to) tuple)
    ∙ named-positions spaces values to tuple from once are from in-to in
    each-element-is-met spaces op target (Alone (Shown source)) tuple are
    ∙ (ap (met op (word_at target tuple)) (element-is spaces (places_in target tuple) source ps found (named-lie spaces values to tuple are from in-to))
    ∙ ap (λ q. met op (word_at target tuple) (Some (word_at source q))) (named-offsets spaces values to tuple from))

-- a piece of a segment
part-by-span : (spaces : Spaces) (values : List ℕ) (t s : ℕ) (y : Span) → NoPartOfPart spaces → cuts spaces t s ≡ true → span_of spaces s ≡ y
    → extent spaces values t ≡ piece_at (extent spaces values s) (cut_of spaces (kind_of spaces t)).piece (slice_index_or values t 0)
part-by-span spaces values t s (Pieces super) whole is are =
    absurd (whole t s super is (ap (λ x. is_pieces_of x super) are ∙ eq-eqb super super refl))
part-by-span spaces values t s (Segments kind first count) whole is are =
    let span : span_of spaces t ≡ Pieces s = cuts-span (span_of spaces t) s is in
    let kinds : kind_of spaces t ≡ kind = ap (span_kind spaces) span ∙ ap own_kind are in
    ap (span_extent spaces values t) span
    ∙ (ap (λ m. piece_at (segment spaces m (slice_index_or values s 0)) (cut_of spaces (kind_of spaces t)).piece (slice_index_or values t 0)) kinds
    ∙ ap (λ x. piece_at x (cut_of spaces (kind_of spaces t)).piece (slice_index_or values t 0)) (sym (ap (span_extent spaces values s) are)))

piece-lies : (whole : Extent) (piece number k : ℕ) → k < (piece_at whole piece number).len → lies_on whole ((piece_at whole piece number).start + k) ≡ true
piece-lies whole piece zero k below = absurd (omega (arith, below))
piece-lies whole piece (suc number) k below =
    let before : ◌≡◌ {A = ℕ} (suc number - 1) number = omega arith in
    let same : (suc number - 1) * piece ≡ number * piece = ap (λ n. n * piece) before in
    let low : whole.start ≤ ((whole.start + (suc number - 1) * piece) + k) = omega arith in
    let high : ((whole.start + (suc number - 1) * piece) + k) < (whole.start + whole.len) = omega (arith, below, same) in
    lies-from whole ((whole.start + (suc number - 1) * piece) + k) low high

-- a position of a part lies on the whole
part-lies : (spaces : Spaces) (values : List ℕ) (t s k : ℕ) → NoPartOfPart spaces → cuts spaces t s ≡ true → k < (extent spaces values t).len → lies_on (extent spaces values s) ((extent spaces values t).start + k) ≡ true
part-lies spaces values t s k whole is below =
    let part = part-by-span spaces values t s (span_of spaces s) whole is refl in
    ap (λ e. lies_on (extent spaces values s) (e.start + k)) part
    ∙ piece-lies (extent spaces values s) (cut_of spaces (kind_of spaces t)).piece (slice_index_or values t 0) k (subst (λ e. k < e.len) part below)

-- a slice's positions lie on the source
slice-lies : (spaces : Spaces) (values : List ℕ) → NoPartOfPart spaces → (ts ss tuple : List ℕ) → cuts_each spaces ts ss ≡ true → IsTupleOf (lengths (map (extent spaces values) ts)) tuple
    → all_lie (map (extent spaces values) ss) (whole_positions (map (extent spaces values) ts) tuple) ≡ true
slice-lies spaces values whole [] [] tuple cut are = refl
slice-lies spaces values whole [] (s ∷ ss) tuple cut are = absurd (never cut)
slice-lies spaces values whole (t ∷ ts) [] tuple cut are = absurd (never cut)
slice-lies spaces values whole (t ∷ ts) (s ∷ ss) [] cut are = absurd are
slice-lies spaces values whole (t ∷ ts) (s ∷ ss) (k ∷ ks) cut are =
    let e = extent spaces values t in
    both-hold (lies_on (extent spaces values s) (e.start + k)) (all_lie (map (extent spaces values) ss) (whole_positions (map (extent spaces values) ts) ks))
    (elim (either-holds (t == s) (cuts spaces t s) (first-holds ((t == s) || cuts spaces t s) (cuts_each spaces ts ss) cut)) as (λ q. lies_on (extent spaces values s) (e.start + k) ≡ true) [
      | inl same ↦ subst (λ x. lies_on (extent spaces values x) (e.start + k) ≡ true) (eqb-true t s same) (lies-from e (e.start + k) (omega arith) (let below = are.0 in omega (arith, below)))
      | inr is ↦ part-lies spaces values t s k whole is are.0
    ])
    (slice-lies spaces values whole ts ss ks (second-holds ((t == s) || cuts spaces t s) (cuts_each spaces ts ss) cut) are.1)

-- the positions of a slice's source, and of an inserted source
slice-positions : (spaces : Spaces) (values to from tuple : List ℕ) → NoPartOfPart spaces → has_twice to ≡ false → has_twice from ≡ false → cuts_each spaces to from ≡ true → IsTupleOf (lengths (map (extent spaces values) to)) tuple
    → map (position spaces from (places_at (zip to (map (extent spaces values) to)) tuple)) from ≡ whole_positions (map (extent spaces values) to) tuple
slice-positions spaces values to from tuple whole once-to once-from cut are =
    let ps = whole_positions (map (extent spaces values) to) tuple in
    let long : length to ≡ length ps = sym (whole-long (map (extent spaces values) to) tuple are ∙ length-map to (extent spaces values)) in
    ap (λ places. map (position spaces from places) from) (places-zip to (map (extent spaces values) to) tuple)
    ∙ positions-beside spaces from to ps from to ps (sym (cuts-long spaces to from cut)) long
    (λ s t p beside at. slice-position spaces to from ps s t p whole once-to once-from cut beside at)

insert-positions : (spaces : Spaces) (values to from tuple : List ℕ) → NoPartOfPart spaces → has_twice to ≡ false → has_twice from ≡ false → cuts_each spaces from to ≡ true → IsTupleOf (lengths (map (extent spaces values) to)) tuple
    → map (position spaces from (places_at (zip to (map (extent spaces values) to)) tuple)) from ≡ whole_positions (map (extent spaces values) to) tuple
insert-positions spaces values to from tuple whole once-to once-from cut are =
    let ps = whole_positions (map (extent spaces values) to) tuple in
    let long : length to ≡ length ps = sym (whole-long (map (extent spaces values) to) tuple are ∙ length-map to (extent spaces values)) in
    ap (λ places. map (position spaces from places) from) (places-zip to (map (extent spaces values) to) tuple)
    ∙ positions-beside spaces from to ps from to ps (cuts-long spaces from to cut) long
    (λ s t p beside at. insert-position spaces to from ps s t p whole once-to once-from cut beside at)

-- a slice
pub slices-by-position : SlicesByPosition
slices-by-position spaces op values to from old words tuple whole once-to once-from cut are =
    let target = named_block spaces values to old in
    let source = named_block spaces values from words in
    let ps = whole_positions (map (extent spaces values) to) tuple in
    each-element-is-met spaces op target (Alone (Shown source)) tuple are
    ∙ ap (met op (word_at target tuple))
    (element-is spaces (places_in target tuple) source ps (slice-positions spaces values to from tuple whole once-to once-from cut are) (slice-lies spaces values whole to from tuple cut are))

-- an insertion, where the source lies
pub inserts-by-position : InsertsByPosition
inserts-by-position spaces op values to from old words tuple whole once-to once-from cut are lie =
    let target = named_block spaces values to old in
    let source = named_block spaces values from words in
    let ps = whole_positions (map (extent spaces values) to) tuple in
    each-element-is-met spaces op target (Alone (Shown source)) tuple are
    ∙ ap (met op (word_at target tuple)) (element-is spaces (places_in target tuple) source ps (insert-positions spaces values to from tuple whole once-to once-from cut are) lie)

-- and elsewhere
pub insertions-keep-others : InsertionsKeepOthers
insertions-keep-others spaces op values to from old words tuple whole once-to once-from cut are lie =
    let target = named_block spaces values to old in
    let source = named_block spaces values from words in
    let ps = whole_positions (map (extent spaces values) to) tuple in
    each-element-is-met spaces op target (Alone (Shown source)) tuple are
    ∙ ap (met op (word_at target tuple)) (element-none spaces (places_in target tuple) source ps (insert-positions spaces values to from tuple whole once-to once-from cut are) lie)
