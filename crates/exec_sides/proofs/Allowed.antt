-- What an assignment that fits allows: copies, parts and pairs of named blocks, and what each comes to.
use Rattle.std.proofs.Common.{◌≡◌, ℕ, zero, suc, ◌+◌, ◌-◌, ◌*◌, ◌<◌, ◌≤◌, inl, inr, true, false, ◌==◌, ◌||◌, eqb-true, nat_le, min, List, [], ◌∷◌, map, length, slice_index_or, refl, sym, ap, ◌∙◌, subst, arith}
use Rattle.std.proofs.lemmas.Bool.{eq-eqb, le-leb}
use Rattle.std.proofs.lemmas.List.{length-map}
use Rattle.block_math.specs.Elements.{scaled}
use Rattle.kernel_permute.specs.declared.how.How.{How}
use Rattle.kernel_permute.specs.declared.how.How.TheVariants.{Set, Add, Subtract}
use Rattle.sial_syntax.specs.declared.operand.Bin.{Bin}
use Rattle.sial_syntax.specs.declared.operand.Op.TheVariants as op
use Rattle.sial_syntax.specs.Agreeing.{same_set}
use Rattle.sial_syntax.specs.Boxes.{volume, tuple_at, IsTupleOf}
use Rattle.sial_syntax.specs.Spaces.{Spaces, Extent, Span, Segments, Pieces, cut_of, extent, kind_of, own_kind, piece_at, segment, span_extent, span_kind, span_of}
use Rattle.sial_syntax.proofs.BoxLemmas.{tuple-within}
use Rattle.sial_meaning.specs.LocalStep.{whole_positions}
use Rattle.sial_meaning.specs.Number.{combined}
use Rattle.sial_meaning.specs.ReadBackLaws.{NoPartOfPart, after_assignment, cuts_each, named_block, word_of}
use Rattle.sial_meaning.specs.Right.{Side, Term, Alone, Joined, Plain, Shown, assigned}
use Rattle.sial_meaning.specs.Sight.{Sight, all_lie, cuts, is_pieces_of, lengths, word_at}
use Rattle.sial_meaning.proofs.AcceptedInOtherWords.Pairs.{never, first-holds, second-holds, both-hold}
use Rattle.sial_meaning.proofs.AssignmentsReadBack.Elements.{as-many-elements, each-element-is-met, inserts-by-position, insertions-keep-others, slices-by-position}
use Rattle.sial_meaning.proofs.AssignmentsReadBack.Places.{either-holds, or-left, or-right}
use Rattle.sial_meaning.proofs.AssignmentsReadBack.Positions.{cuts-long, cuts-span}
use Rattle.exec_sides.specs.Fits.{IsNamed, copy_fits, pair_fits, side_fits}
use Rattle.exec_sides.specs.Met.{Met}
use Rattle.exec_sides.specs.Named.{number_at}
use Rattle.exec_sides.specs.Parts.{IsPartCopy, MetInPart, lie_in, lies_in}
use Rattle.exec_sides.specs.Seen.{op_of}
use Rattle.exec_sides.proofs.Linking.{assigned-by, named-is, same-meeting}
use Rattle.exec_sides.proofs.Numbers.{scaled-at, scaled-long}
use Rattle.exec_sides.proofs.PartBlocks.{part-lies}
use Rattle.exec_sides.proofs.Tuples.{same-blocks}

-- a block alone that fits
pub copy-allowed : (spaces : Spaces) (how : How) (to : List ℕ) (block : Sight) → side_fits spaces (op_of how) to (Alone (Shown block)) ≡ true → copy_fits spaces to block.at ≡ true
copy-allowed spaces Set to block is = is
copy-allowed spaces Add to block is = is
copy-allowed spaces Subtract to block is = is

-- a pair that fits
pub pair-allowed : (spaces : Spaces) (how : How) (to : List ℕ) (a b : Term) (bin : Bin) → side_fits spaces (op_of how) to (Joined a bin b) ≡ true → pair_fits to a bin b ≡ true
pair-allowed spaces Set to a b bin is = is
pair-allowed spaces Add to a b bin is = is
pair-allowed spaces Subtract to a b bin is = is

-- where the indices differ, one block cuts the other
pub cut-allowed : (spaces : Spaces) (how : How) (to : List ℕ) (block : Sight) → side_fits spaces (op_of how) to (Alone (Shown block)) ≡ true → same_set to block.at ≡ false → (cuts_each spaces to block.at || cuts_each spaces block.at to) ≡ true
cut-allowed spaces how to block fits other = subst (λ b. (b || (cuts_each spaces to block.at || cuts_each spaces block.at to)) ≡ true) other (copy-allowed spaces how to block fits)

-- a piece of a segment
part-of : (spaces : Spaces) (values : List ℕ) (t s : ℕ) (y : Span) → NoPartOfPart spaces → cuts spaces t s ≡ true → span_of spaces s ≡ y
    → extent spaces values t ≡ piece_at (extent spaces values s) (cut_of spaces (kind_of spaces t)).piece (slice_index_or values t 0)
part-of spaces values t s (Pieces super) whole is are = absurd (whole t s super is (ap (λ x. is_pieces_of x super) are ∙ eq-eqb super super refl))
part-of spaces values t s (Segments kind first count) whole is are =
    let span : span_of spaces t ≡ Pieces s = cuts-span (span_of spaces t) s is in
    let kinds : kind_of spaces t ≡ kind = ap (span_kind spaces) span ∙ ap own_kind are in
    ap (span_extent spaces values t) span
    ∙ (ap (λ m. piece_at (segment spaces m (slice_index_or values s 0)) (cut_of spaces (kind_of spaces t)).piece (slice_index_or values t 0)) kinds
    ∙ ap (λ x. piece_at x (cut_of spaces (kind_of spaces t)).piece (slice_index_or values t 0)) (sym (ap (span_extent spaces values s) are)))

-- an extent that begins behind another and ends before it lies in it
lies-made : (p w : Extent) → w.start ≤ p.start → (p.start + p.len) ≤ (w.start + w.len) → lies_in p w ≡ true
lies-made p w low high = both-hold (nat_le w.start p.start) (nat_le (p.start + p.len) (w.start + w.len)) (le-leb w.start p.start low) (le-leb (p.start + p.len) (w.start + w.len) high)

-- a piece with a position lies in its segment
piece-in : (whole : Extent) (piece number : ℕ) → 0 < (piece_at whole piece number).len → lies_in (piece_at whole piece number) whole ≡ true
piece-in whole piece zero some = absurd (omega (arith, some))
piece-in whole piece (suc number) some =
    let before : ◌≡◌ {A = ℕ} (suc number - 1) number = omega arith in
    let same : (suc number - 1) * piece ≡ number * piece = ap (λ n. n * piece) before in
    let high : ((whole.start + (suc number - 1) * piece) + min piece (whole.len - number * piece)) ≤ (whole.start + whole.len) = omega (arith, some, same) in
    lies-made (piece_at whole piece (suc number)) whole (omega arith) high

-- a block with positions that cuts another lies in it
pub cut-in : (spaces : Spaces) (values : List ℕ) → NoPartOfPart spaces → (ts ss tuple : List ℕ) → cuts_each spaces ts ss ≡ true → IsTupleOf (lengths (map (extent spaces values) ts)) tuple
    → lie_in (map (extent spaces values) ts) (map (extent spaces values) ss) ≡ true
cut-in spaces values whole [] [] tuple cut are = refl
cut-in spaces values whole [] (s ∷ ss) tuple cut are = absurd (never cut)
cut-in spaces values whole (t ∷ ts) [] tuple cut are = absurd (never cut)
cut-in spaces values whole (t ∷ ts) (s ∷ ss) [] cut are = absurd are
cut-in spaces values whole (t ∷ ts) (s ∷ ss) (k ∷ ks) cut are =
    let e = extent spaces values t in
    let below = are.0 in
    let some : 0 < e.len = omega (arith, below) in
    both-hold (lies_in e (extent spaces values s)) (lie_in (map (extent spaces values) ts) (map (extent spaces values) ss))
    (elim (either-holds (t == s) (cuts spaces t s) (first-holds ((t == s) || cuts spaces t s) (cuts_each spaces ts ss) cut)) as (λ q. lies_in e (extent spaces values s) ≡ true) [
      | inl same ↦ subst (λ x. lies_in e (extent spaces values x) ≡ true) (eqb-true t s same) (lies-made e e (omega arith) (omega arith))
      | inr is ↦
          let part = part-of spaces values t s (span_of spaces s) whole is refl in
          subst (λ (x : Extent). lies_in x (extent spaces values s) ≡ true) (sym part)
          (piece-in (extent spaces values s) (cut_of spaces (kind_of spaces t)).piece (slice_index_or values t 0) (subst (λ (x : Extent). 0 < x.len) part some))
    ])
    (cut-in spaces values whole ts ss ks (second-holds ((t == s) || cuts spaces t s) (cuts_each spaces ts ss) cut) are.1)

-- the same of named blocks that have numbers
pub named-in : (spaces : Spaces) (values : List ℕ) (part whole : Sight) → NoPartOfPart spaces → IsNamed spaces values part → IsNamed spaces values whole → cuts_each spaces part.at whole.at ≡ true → 0 < length part.words
    → lie_in part.extents whole.extents ≡ true
named-in spaces values part whole flat first second cut some =
    let dims = lengths (map (extent spaces values) part.at) in
    let long : length part.words ≡ volume dims = first.words ∙ ap (λ es. volume (lengths es)) first.extents in
    let has : 0 < volume dims = omega (arith, some, long) in
    ap (λ es. lie_in es whole.extents) first.extents
    ∙ (ap (λ es. lie_in (map (extent spaces values) part.at) es) second.extents
    ∙ cut-in spaces values flat part.at whole.at (tuple_at dims 0) cut (tuple-within dims 0 has))

-- named blocks of which one cuts the other
pub named-part : (spaces : Spaces) (values : List ℕ) (to from : Sight) → NoPartOfPart spaces → IsNamed spaces values to → IsNamed spaces values from → (cuts_each spaces to.at from.at || cuts_each spaces from.at to.at) ≡ true → IsPartCopy to from
named-part spaces values to from flat target source cut =
    let long : length to.extents ≡ length to.at = ap length target.extents ∙ length-map to.at (extent spaces values) in
    let longer : length from.extents ≡ length from.at = ap length source.extents ∙ length-map from.at (extent spaces values) in
    let same : length to.at ≡ length from.at =
    elim (either-holds (cuts_each spaces to.at from.at) (cuts_each spaces from.at to.at) cut) as (λ q. length to.at ≡ length from.at) [
      | inl slice ↦ cuts-long spaces to.at from.at slice
      | inr insertion ↦ sym (cuts-long spaces from.at to.at insertion)
    ] in
    let some = target.some in
    let most = target.most in
    record {
      some = omega (arith, some, long);
      most = omega (arith, most, long);
      same = long ∙ (same ∙ sym longer);
      target = target.words;
      source = source.words;
      part = λ some-to some-from.
          elim (either-holds (cuts_each spaces to.at from.at) (cuts_each spaces from.at to.at) cut) as (λ q. (lie_in to.extents from.extents || lie_in from.extents to.extents) ≡ true) [
            | inl slice ↦ or-left (lie_in to.extents from.extents) (lie_in from.extents to.extents) (named-in spaces values to from flat target source slice some-to)
            | inr insertion ↦ or-right (lie_in to.extents from.extents) (lie_in from.extents to.extents) (named-in spaces values from to flat source target insertion some-from)
          ];
    }

-- something said of named blocks holds of blocks that are named
pub by-name : (spaces : Spaces) (values : List ℕ) (block : Sight) → IsNamed spaces values block → (P : Sight → Type 0) → P (named_block spaces values block.at block.words) → P block
by-name spaces values block named P is = subst P (sym (named-is spaces values block named)) is

-- tuples of a named block
pub named-tuple : (spaces : Spaces) (values : List ℕ) (block : Sight) (tuple : List ℕ) → IsNamed spaces values block → IsTupleOf (lengths block.extents) tuple → IsTupleOf (lengths (map (extent spaces values) block.at)) tuple
named-tuple spaces values block tuple named are = subst (λ (es : List Extent). IsTupleOf (lengths es) tuple) named.extents are

-- a part that was copied is the assignment
pub part-assigned : (spaces : Spaces) (values : List ℕ) (how : How) (to from : Sight) (new : List ℕ) → NoPartOfPart spaces → IsNamed spaces values to → IsNamed spaces values from → (cuts_each spaces to.at from.at || cuts_each spaces from.at to.at) ≡ true
    → MetInPart how to from new → new ≡ assigned spaces (op_of how) to (Alone (Shown from))
part-assigned spaces values how to from new flat target source cut met =
    same-blocks (lengths to.extents) new (assigned spaces (op_of how) to (Alone (Shown from))) (met.len ∙ target.words) (as-many-elements spaces (op_of how) to (Alone (Shown from)))
    (λ tuple are.
    elim (all_lie from.extents (whole_positions to.extents tuple)) as (λ b. all_lie from.extents (whole_positions to.extents tuple) ≡ b → number_at (lengths to.extents) new tuple ≡ number_at (lengths to.extents) (assigned spaces (op_of how) to (Alone (Shown from))) tuple) [
      | true ↦ λ lie. met.inside tuple are lie ∙ (same-meeting how _ _ ∙ sym (inside tuple are lie))
      | false ↦ λ lie. met.outside tuple are lie ∙ sym (outside tuple are lie)
    ] refl)
  where
    inside : (tuple : List ℕ) → IsTupleOf (lengths to.extents) tuple → all_lie from.extents (whole_positions to.extents tuple) ≡ true
        → word_at (after_assignment spaces (op_of how) to (Alone (Shown from))) tuple ≡ combined (op_of how) (word_at to tuple) (word_of from (whole_positions to.extents tuple))
    inside tuple are lie =
        by-name spaces values to target (λ x. word_at (after_assignment spaces (op_of how) x (Alone (Shown from))) tuple ≡ combined (op_of how) (word_at x tuple) (word_of from (whole_positions x.extents tuple)))
        (by-name spaces values from source (λ y. word_at (after_assignment spaces (op_of how) (named_block spaces values to.at to.words) (Alone (Shown y))) tuple ≡ combined (op_of how) (word_at (named_block spaces values to.at to.words) tuple) (word_of y (whole_positions (map (extent spaces values) to.at) tuple)))
        (elim (either-holds (cuts_each spaces to.at from.at) (cuts_each spaces from.at to.at) cut) as (λ q. word_at (after_assignment spaces (op_of how) (named_block spaces values to.at to.words) (Alone (Shown (named_block spaces values from.at from.words)))) tuple
        ≡ combined (op_of how) (word_at (named_block spaces values to.at to.words) tuple) (word_of (named_block spaces values from.at from.words) (whole_positions (map (extent spaces values) to.at) tuple))) [
          | inl slice ↦ slices-by-position spaces (op_of how) values to.at from.at to.words from.words tuple flat target.once source.once slice (named-tuple spaces values to tuple target are)
          | inr insertion ↦
              inserts-by-position spaces (op_of how) values to.at from.at to.words from.words tuple flat target.once source.once insertion (named-tuple spaces values to tuple target are)
              (subst (λ (es : List Extent). all_lie (map (extent spaces values) from.at) (whole_positions es tuple) ≡ true) target.extents (subst (λ (es : List Extent). all_lie es (whole_positions to.extents tuple) ≡ true) source.extents lie))
        ]))

    outside : (tuple : List ℕ) → IsTupleOf (lengths to.extents) tuple → all_lie from.extents (whole_positions to.extents tuple) ≡ false
        → word_at (after_assignment spaces (op_of how) to (Alone (Shown from))) tuple ≡ word_at to tuple
    outside tuple are lie =
        by-name spaces values to target (λ x. word_at (after_assignment spaces (op_of how) x (Alone (Shown from))) tuple ≡ word_at x tuple)
        (by-name spaces values from source (λ y. word_at (after_assignment spaces (op_of how) (named_block spaces values to.at to.words) (Alone (Shown y))) tuple ≡ word_at (named_block spaces values to.at to.words) tuple)
        (elim (either-holds (cuts_each spaces to.at from.at) (cuts_each spaces from.at to.at) cut) as (λ q. word_at (after_assignment spaces (op_of how) (named_block spaces values to.at to.words) (Alone (Shown (named_block spaces values from.at from.words)))) tuple
        ≡ word_at (named_block spaces values to.at to.words) tuple) [
          | inl slice ↦
              let named-are = named-tuple spaces values to tuple target are in
              let on : all_lie (map (extent spaces values) from.at) (whole_positions (map (extent spaces values) to.at) tuple) ≡ true =
              part-lies (map (extent spaces values) to.at) (map (extent spaces values) from.at) tuple (cut-in spaces values flat to.at from.at tuple slice named-are) named-are in
              absurd (never (sym (off tuple lie) ∙ on))
          | inr insertion ↦
              insertions-keep-others spaces (op_of how) values to.at from.at to.words from.words tuple flat target.once source.once insertion (named-tuple spaces values to tuple target are) (off tuple lie)
        ]))
      where
        off : (tuple : List ℕ) → all_lie from.extents (whole_positions to.extents tuple) ≡ false → all_lie (map (extent spaces values) from.at) (whole_positions (map (extent spaces values) to.at) tuple) ≡ false
        off tuple lie = subst (λ (es : List Extent). all_lie (map (extent spaces values) from.at) (whole_positions es tuple) ≡ false) target.extents (subst (λ (es : List Extent). all_lie es (whole_positions to.extents tuple) ≡ false) source.extents lie)

-- a number that meets all of a target
pub number-assigned : (spaces : Spaces) (how : How) (to : Sight) (n : ℕ) (side : Side) (new : List ℕ) → side ≡ Alone (Plain n) → length to.words ≡ volume (lengths to.extents) → Met how (lengths to.extents) (λ t. n) to.words new → new ≡ assigned spaces (op_of how) to side
number-assigned spaces how to n side new is long met =
    subst (λ (s : Side). new ≡ assigned spaces (op_of how) to s) (sym is)
    (assigned-by spaces how to (Alone (Plain n)) (λ t. n) new long met (λ tuple are. each-element-is-met spaces (op_of how) to (Alone (Plain n)) tuple are))

-- a number by which all of a target is multiplied
pub multiple-assigned : (spaces : Spaces) (to : Sight) (n : ℕ) (side : Side) (new : List ℕ) → side ≡ Alone (Plain n) → length to.words ≡ volume (lengths to.extents) → new ≡ scaled n to.words → new ≡ assigned spaces op.Scale to side
multiple-assigned spaces to n side new is long made =
    subst (λ (s : Side). new ≡ assigned spaces op.Scale to s) (sym is)
    (same-blocks (lengths to.extents) new (assigned spaces op.Scale to (Alone (Plain n))) (ap length made ∙ (scaled-long n to.words ∙ long)) (as-many-elements spaces op.Scale to (Alone (Plain n)))
    (λ tuple are. ap (λ xs. number_at (lengths to.extents) xs tuple) made ∙ (scaled-at (lengths to.extents) n to.words tuple long are ∙ sym (each-element-is-met spaces op.Scale to (Alone (Plain n)) tuple are))))
