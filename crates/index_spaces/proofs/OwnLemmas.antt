-- The spaces that an input gives are the program's own, where nothing is refused.
use Rattle.std.proofs.Common.{◌≡◌, ℕ, ◌≤◌, List, [], ◌∷◌, map, length, Bool, true, false, ◌&&◌, ◌||◌, ◌==◌, if◌then◌else◌, Option, Some, None, refl, ap, ◌∙◌, arith}
use Rattle.std.specs.Prelude.{nat_lt, nat_le}
use Rattle.std.specs.List.{list_all}
use Rattle.std.proofs.lemmas.Bool.{and_parts, and_from}
use Rattle.std.proofs.lemmas.Bool.Decides.{nat_tests}
use Rattle.sial_syntax.specs.declared.array.ArrayKind.{ArrayKind}
use Rattle.sial_syntax.specs.declared.array.ArrayKind.TheVariants.{Static, Temp, Local, Distributed, Served}
use Rattle.sial_syntax.specs.declared.classes.ScalarClass.{ScalarClass}
use Rattle.sial_syntax.specs.declared.index.IndexDecl.{IndexDecl}
use Rattle.sial_syntax.specs.declared.index.Kind.{Kind}
use Rattle.sial_syntax.specs.declared.index.Kind.TheVariants.{Ao, Mo, Moa, Mob, Index}
use Rattle.sial_syntax.specs.declared.index.Range.{Range}
use Rattle.sial_syntax.specs.declared.index.Range.TheVariants as range
use Rattle.sial_syntax.specs.declared.operand.BlockRef.{BlockRef}
use Rattle.sial_syntax.specs.declared.operand.Slot.{Slot}
use Rattle.sial_syntax.specs.declared.operand.Slot.TheVariants.{At, All}
use Rattle.sial_syntax.specs.Agreeing.{array_in, is_kind}
use Rattle.sial_syntax.specs.Boxes.{volume}
use Rattle.sial_syntax.specs.Limits.{most_box, most_together}
use Rattle.sial_syntax.specs.Parts.{blocks_named, slots_named, slotted_array}
use Rattle.sial_syntax.specs.Resolved.{bound_number, span_of_range, span_between, segments_between, has_segments, is_at_least, is_at_most, is_cut, range_within, indices_within, slots_within, statement_within, has_small_box, have_few_blocks, AreSpacesBy}
use Rattle.sial_syntax.specs.Spaces as sp
use Rattle.sial_syntax.specs.Spaces.{Spaces, segments_of, cut_of, kind_of, box_of, blocks_together, same_kind}
use Rattle.sial_syntax.specs.Tree.{Tree, Plain, Pardo}
use Rattle.sial_syntax.specs.Visits.{Visit, all_visits}
use Rattle.sip_input.specs.declared.input.Input.{Input}
use Rattle.sip_input.specs.declared.lengths.PieceLength.{PieceLength}
use Rattle.sip_input.specs.declared.lengths.SegmentLengths.{SegmentLengths}
use Rattle.sip_input.specs.Given.{IsInput, constants_of, cut_given, lengths_among, piece_among, is_length, are_lengths, is_piece_length}
use Rattle.index_spaces.specs.declared.fault.SpaceFault.{SpaceFault}
use Rattle.index_spaces.specs.Given as given
use Rattle.index_spaces.specs.Given.{cuts_given, span_given, spans_given, spaces_by}
use Rattle.index_spaces.specs.Refusing.{AtLine, or_else, fault_if, bounds_refusal, range_refusal, indices_refusal, arrays_refusal, soonest, first_outside, blocks_outside, slots_outside, slotted_outside, statement_outside, outside_refusal, box_refusal, statement_refusal, statements_refusal, starts_refusal, without_line, refusal}
use Rattle.index_spaces.proofs.GrantedLemmas.{neither, arrays-fit, together-fit}
use Rattle.index_spaces.proofs.SoonerLemmas.{neither-sooner}

-- a kind's lengths are those that an input may give
lengths-cut : (segments : List SegmentLengths) (kind : Kind) → list_all are_lengths segments ≡ true
    → (list_all is_length (lengths_among segments kind) ≡ true) × (nat_le (length (lengths_among segments kind)) 4096 ≡ true)
lengths-cut [] kind all = (refl, refl)
lengths-cut (s ∷ others) kind all =
    let parts = and_parts (are_lengths s) (list_all are_lengths others) all in
    let own = and_parts (nat_le (length s.lengths.items) 4096) (list_all is_length s.lengths.items) parts.0 in
    by (is_kind s.kind kind) s.lengths.items (lengths_among others kind) (own.1, own.0) (lengths-cut others kind parts.1)
  where
    by : (b : Bool) (xs ys : List ℕ) → (list_all is_length xs ≡ true) × (nat_le (length xs) 4096 ≡ true) → (list_all is_length ys ≡ true) × (nat_le (length ys) 4096 ≡ true)
        → (list_all is_length (if b then xs else ys) ≡ true) × (nat_le (length (if b then xs else ys)) 4096 ≡ true)
    by true xs ys h g = h
    by false xs ys h g = g

-- and so is the length of its pieces
piece-cut : (pieces : List PieceLength) (kind : Kind) → list_all is_piece_length pieces ≡ true → nat_le (piece_among pieces kind) 1024 ≡ true
piece-cut [] kind all = refl
piece-cut (s ∷ others) kind all =
    let parts = and_parts (is_piece_length s) (list_all is_piece_length others) all in
    let bounds = and_parts (nat_le 1 s.length) (nat_le s.length 1024) parts.0 in
    by (is_kind s.kind kind) s.length (piece_among others kind) bounds.1 (piece-cut others kind parts.1)
  where
    by : (b : Bool) (m n : ℕ) → nat_le m 1024 ≡ true → nat_le n 1024 ≡ true → nat_le (if b then m else n) 1024 ≡ true
    by true m n h g = h
    by false m n h g = g

-- so the kind is cut as an input may cut it
cut-given : (input : Input) (kind : Kind) → IsInput input → is_cut (cut_given input kind) ≡ true
cut-given input kind is =
    let lengths = lengths-cut input.segments.items kind is.segments in
    and_from (list_all is_length (lengths_among input.segments.items kind)) (nat_le (length (lengths_among input.segments.items kind)) 4096 && nat_le (piece_among input.pieces.items kind) 1024)
    lengths.0
    (and_from (nat_le (length (lengths_among input.segments.items kind)) 4096) (nat_le (piece_among input.pieces.items kind) 1024) lengths.1 (piece-cut input.pieces.items kind is.pieces))

-- bounds that aren't refused: they have numbers, and the segments between them are there
bounds-fit : (name : List ℕ) (segments : ℕ) (kind : Kind) (lo hi : Option ℕ) → bounds_refusal name segments lo hi ≡ None
    → (Some (given.span_between segments kind lo hi) ≡ span_between kind lo hi) × ((nat_lt 0 segments && (is_at_least 1 lo && is_at_most segments hi)) ≡ true)
bounds-fit name segments kind None hi none = absurd cc
bounds-fit name segments kind (Some lo) None none = absurd cc
bounds-fit name segments kind (Some lo) (Some hi) none = by (segments == 0) (lo == 0) (nat_lt segments hi) refl refl refl _ _ none
  where
    some : (n : ℕ) → (n == 0) ≡ false → nat_le 1 n ≡ true
    some n e = grind (arith, nat_tests)

    above : (n : ℕ) → (n == 0) ≡ false → nat_lt 0 n ≡ true
    above n e = grind (arith, nat_tests)

    most : (nat_lt segments hi) ≡ false → nat_le hi segments ≡ true
    most e = grind (arith, nat_tests)

    by : (empty zero past : Bool) → (segments == 0) ≡ empty → (lo == 0) ≡ zero → nat_lt segments hi ≡ past → (a b : SpaceFault) → (if empty || zero then Some a else fault_if past b) ≡ None
        → (Some (given.span_between segments kind (Some lo) (Some hi)) ≡ Some (segments_between kind lo hi)) × ((nat_lt 0 segments && (nat_le 1 lo && nat_le hi segments)) ≡ true)
    by true zero past e f g a b none = absurd cc
    by false true past e f g a b none = absurd cc
    by false false true e f g a b none = absurd cc
    by false false false e f g a b none = (
      ap (λ (t : Bool). Some (if t then sp.Segments kind 1 0 else segments_between kind lo hi)) g,
      and_from (nat_lt 0 segments) (nat_le 1 lo && nat_le hi segments) (above segments e) (and_from (nat_le 1 lo) (nat_le hi segments) (some lo f) (most g)),
    )

-- a kind has as many segments before indices run over them
segments-before : (input : Input) (spans : List sp.Span) (kind : Kind)
    → segments_of (cuts_given input) kind ≡ segments_of (record { ao = cut_given input Ao; mo = cut_given input Mo; moa = cut_given input Moa; mob = cut_given input Mob; spans = spans }) kind
segments-before input spans Ao = refl
segments-before input spans Mo = refl
segments-before input spans Moa = refl
segments-before input spans Mob = refl
segments-before input spans Index = refl

-- a length that isn't 0
piece-some : (n : ℕ) → ((f : SpaceFault) → fault_if (n == 0) f ≡ None → nat_lt 0 n ≡ true)
piece-some n f none = by (n == 0) refl none
  where
    by : (b : Bool) → (n == 0) ≡ b → fault_if b f ≡ None → nat_lt 0 n ≡ true
    by true e none = absurd cc
    by false e none = grind (arith, nat_tests)

-- a range that isn't refused has its span, and its segments are there
range-fits : (p : Tree) (input : Input) (name : List ℕ) (r : Range) → range_refusal (constants_of input) (spaces_by p input) name r ≡ None
    → (Some (span_given (constants_of input) (cuts_given input) r) ≡ span_of_range (constants_of input) r) × (has_segments (constants_of input) (spaces_by p input) r ≡ true)
range-fits p input name (range.Segments kind lo hi) none =
    let constants = constants_of input in
    let same = segments-before input (spaces_by p input).spans kind in
    let fits = bounds-fit name (segments_of (spaces_by p input) kind) kind (bound_number constants lo) (bound_number constants hi) none in
    (ap (λ (n : ℕ). Some (given.span_between n kind (bound_number constants lo) (bound_number constants hi))) same ∙ fits.0, fits.1)
range-fits p input name (range.Sub super) none = (refl, piece-some (cut_of (spaces_by p input) (kind_of (spaces_by p input) super)).piece _ none)

-- indices that aren't refused
indices-fit : (p : Tree) (input : Input) (indices : List IndexDecl) → indices_refusal (constants_of input) (spaces_by p input) indices ≡ None
    → (map Some (spans_given (constants_of input) (cuts_given input) indices) ≡ map (λ (i : IndexDecl). span_of_range (constants_of input) i.range) indices)
    × (list_all (λ (i : IndexDecl). has_segments (constants_of input) (spaces_by p input) i.range) indices ≡ true)
indices-fit p input [] none = (refl, refl)
indices-fit p input (i ∷ is) none =
    let constants = constants_of input in
    let spaces = spaces_by p input in
    let parts = neither (range_refusal constants spaces i.name i.range) (indices_refusal constants spaces is) none in
    let first = range-fits p input i.name i.range parts.0 in
    let rest = indices-fit p input is parts.1 in (
      ap (λ s. s ∷ map Some (spans_given constants (cuts_given input) is)) first.0 ∙ ap (λ ss. span_of_range constants i.range ∷ ss) rest.0,
      and_from (has_segments constants spaces i.range) (list_all (λ (j : IndexDecl). has_segments constants spaces j.range) is) first.1 rest.1,
    )

-- indices none of which lies outside lie within
inside : (spaces : Spaces) (used declared : List ℕ) → first_outside spaces used declared ≡ None → indices_within spaces used declared ≡ true
inside spaces [] declared none = refl
inside spaces (u ∷ us) [] none = refl
inside spaces (u ∷ us) (d ∷ ds) none = by (λ e. inside spaces us ds e) (range_within spaces u d) refl none
  where
    by : (first_outside spaces us ds ≡ None → indices_within spaces us ds ≡ true) → (b : Bool) → range_within spaces u d ≡ b → (if b then first_outside spaces us ds else Some u) ≡ None → (range_within spaces u d && indices_within spaces us ds) ≡ true
    by others true e none = and_from (range_within spaces u d) (indices_within spaces us ds) e (others none)
    by others false e none = absurd cc

-- so do blocks
blocks-inside : (p : Tree) (spaces : Spaces) (bs : List BlockRef) → blocks_outside p spaces bs ≡ None → list_all (λ (b : BlockRef). indices_within spaces b.at (array_in p b.array).dims) bs ≡ true
blocks-inside p spaces [] none = refl
blocks-inside p spaces (b ∷ bs) none =
    let parts = neither (first_outside spaces b.at (array_in p b.array).dims) (blocks_outside p spaces bs) none in
    and_from (indices_within spaces b.at (array_in p b.array).dims) (list_all (λ (c : BlockRef). indices_within spaces c.at (array_in p c.array).dims) bs)
    (inside spaces b.at (array_in p b.array).dims parts.0) (blocks-inside p spaces bs parts.1)

-- and slots
slots-inside : (spaces : Spaces) (at : List Slot) (declared : List ℕ) → slots_outside spaces at declared ≡ None → slots_within spaces at declared ≡ true
slots-inside spaces [] declared none = refl
slots-inside spaces (s ∷ ss) [] none = refl
slots-inside spaces (At u ∷ ss) (d ∷ ds) none = by (λ e. slots-inside spaces ss ds e) (range_within spaces u d) refl none
  where
    by : (slots_outside spaces ss ds ≡ None → slots_within spaces ss ds ≡ true) → (b : Bool) → range_within spaces u d ≡ b → (if b then slots_outside spaces ss ds else Some u) ≡ None → (range_within spaces u d && slots_within spaces ss ds) ≡ true
    by others true e none = and_from (range_within spaces u d) (slots_within spaces ss ds) e (others none)
    by others false e none = absurd cc
slots-inside spaces (All ∷ ss) (d ∷ ds) none = slots-inside spaces ss ds none

-- of each array
slotted-inside : (p : Tree) (spaces : Spaces) (at : List Slot) (arrays : List ℕ) → slotted_outside p spaces at arrays ≡ None → list_all (λ a. slots_within spaces at (array_in p a).dims) arrays ≡ true
slotted-inside p spaces at [] none = refl
slotted-inside p spaces at (a ∷ others) none =
    let parts = neither (slots_outside spaces at (array_in p a).dims) (slotted_outside p spaces at others) none in
    and_from (slots_within spaces at (array_in p a).dims) (list_all (λ b. slots_within spaces at (array_in p b).dims) others) (slots-inside spaces at (array_in p a).dims parts.0) (slotted-inside p spaces at others parts.1)

-- a statement whose indices aren't refused
outside-none : (p : Tree) (line : ℕ) (found : Option ℕ) → outside_refusal p line found ≡ None → found ≡ None
outside-none p line None none = refl
outside-none p line (Some i) none = absurd cc

-- its indices lie within
named-inside : (p : Tree) (spaces : Spaces) (line : ℕ) (form : Plain) → outside_refusal p line (statement_outside p spaces form) ≡ None → statement_within p spaces form ≡ true
named-inside p spaces line form none =
    let parts = neither (blocks_outside p spaces (blocks_named form)) (slotted_outside p spaces (slots_named form) (slotted_array form)) (outside-none p line (statement_outside p spaces form) none) in
    and_from (list_all (λ (b : BlockRef). indices_within spaces b.at (array_in p b.array).dims) (blocks_named form)) (list_all (λ a. slots_within spaces (slots_named form) (array_in p a).dims) (slotted_array form))
    (blocks-inside p spaces (blocks_named form) parts.0) (slotted-inside p spaces (slots_named form) (slotted_array form) parts.1)

-- a box that isn't refused is small
small : (name : List ℕ) (line box : ℕ) → box_refusal name line box ≡ None → nat_le box most_box ≡ true
small name line box none = by (nat_lt most_box box) refl _ none
  where
    by : (b : Bool) → nat_lt most_box box ≡ b → (f : AtLine) → (if b then Some f else None) ≡ None → nat_le box most_box ≡ true
    by true e f none = absurd cc
    by false e f none = grind (arith, nat_tests)

-- a statement that isn't refused
statement-fits : (p : Tree) (spaces : Spaces) (line : ℕ) (form : Plain) → statement_refusal p spaces line form ≡ None → (statement_within p spaces form ≡ true) × (has_small_box spaces form ≡ true)
statement-fits p spaces line (Pardo indices wheres body) none = (refl, small _ line (volume (box_of spaces indices)) none)
statement-fits p spaces line form none = (named-inside p spaces line form none, refl)

-- statements that aren't refused
visits-fit : (p : Tree) (spaces : Spaces) (vs : List Visit) → soonest (λ (v : Visit). statement_refusal p spaces v.line v.form) vs ≡ None
    → (list_all (λ (v : Visit). statement_within p spaces v.form) vs ≡ true) × (list_all (λ (v : Visit). has_small_box spaces v.form) vs ≡ true)
visits-fit p spaces [] none = (refl, refl)
visits-fit p spaces (v ∷ vs) none =
    let parts = neither-sooner (statement_refusal p spaces v.line v.form) (soonest (λ (w : Visit). statement_refusal p spaces w.line w.form) vs) none in
    let first = statement-fits p spaces v.line v.form parts.0 in
    let rest = visits-fit p spaces vs parts.1 in (
      and_from (statement_within p spaces v.form) (list_all (λ (w : Visit). statement_within p spaces w.form) vs) first.0 rest.0,
      and_from (has_small_box spaces v.form) (list_all (λ (w : Visit). has_small_box spaces w.form) vs) first.1 rest.1,
    )

-- the arrays of a kind that is counted
kind-fits : (p : Tree) (spaces : Spaces) (kind : ArrayKind) → same_kind kind Temp ≡ false → arrays_refusal spaces [] p.arrays ≡ None → have_few_blocks p spaces kind ≡ true
kind-fits p spaces kind counted none =
    let few : blocks_together spaces kind p.arrays ≤ most_together = together-fit spaces kind [] p.arrays counted none (omega arith) in
    grind (arith, nat_tests, few)

-- so the spaces are the program's own
pub spaces-own : (p : Tree) (input : Input) → IsInput input → indices_refusal (constants_of input) (spaces_by p input) p.indices ≡ None → arrays_refusal (spaces_by p input) [] p.arrays ≡ None → statements_refusal p (spaces_by p input) ≡ None
    → AreSpacesBy (constants_of input) p (spaces_by p input)
spaces-own p input is indices arrays statements =
    let spaces = spaces_by p input in
    let first = indices-fit p input p.indices indices in
    let second = arrays-fit spaces [] p.arrays arrays in
    let third = visits-fit p spaces (all_visits p) statements in
    record {
      given = is.constants;
      cuts = and_from _ _ (cut-given input Ao is) (and_from _ _ (cut-given input Mo is) (and_from _ _ (cut-given input Moa is) (and_from _ _ (cut-given input Mob is) refl)));
      spans = first.0;
      segments = first.1;
      narrow = second.0;
      few = second.1;
      together = and_from _ _ (kind-fits p spaces Static refl arrays) (and_from _ _ (kind-fits p spaces Local refl arrays) (and_from _ _ (kind-fits p spaces Distributed refl arrays) (and_from _ _ (kind-fits p spaces Served refl arrays) refl)));
      within = third.0;
      boxes = third.1;
    }

-- a refusal that isn't there has no line
line-none : (found : Option AtLine) → without_line found ≡ None → found ≡ None
line-none None none = refl
line-none (Some r) none = absurd cc

-- the same, where no round refuses anything
pub granted-own : (p : Tree) (classes : List ScalarClass) (input : Input) → IsInput input → refusal p classes input ≡ None → AreSpacesBy (constants_of input) p (spaces_by p input)
granted-own p classes input is none =
    let spaces = spaces_by p input in
    let first = neither _ _ none in
    let second = neither (arrays_refusal spaces [] p.arrays) (or_else (without_line (statements_refusal p spaces)) (without_line (starts_refusal p spaces classes input))) first.1 in
    let third = neither (without_line (statements_refusal p spaces)) (without_line (starts_refusal p spaces classes input)) second.1 in
    spaces-own p input is first.0 second.0 (line-none (statements_refusal p spaces) third.0)
