-- What control needs holds of work in a granted program whose bound indices have numbers within their ranges.
use Rattle.std.proofs.Common.{◌≡◌, ℕ, zero, suc, ◌+◌, ◌-◌, ◌<◌, ◌≤◌, List, [], ◌∷◌, map, slice_index_or, Bool, true, false, nat_lt, ◌&&◌, ◌||◌, not, Option, Some, None, refl, sym, ap, ◌∙◌, subst, eqb-true, arith}
use Rattle.std.proofs.lemmas.Bool.{eq-eqb, ltb-false}
use Rattle.std.proofs.lemmas.Bool.Decides.{nat_tests}
use Rattle.std.specs.List.{list_all}
use Rattle.std.specs.Prelude.{if◌then◌else◌}
use Rattle.sial_syntax.specs.declared.index.IndexDecl.{IndexDecl}
use Rattle.sial_syntax.specs.declared.index.Kind.{Kind}
use Rattle.sial_syntax.specs.declared.index.Kind.TheVariants.{Index}
use Rattle.sial_syntax.specs.declared.index.Range.{Range}
use Rattle.sial_syntax.specs.declared.index.Range.TheVariants as range
use Rattle.sial_syntax.specs.Agreeing.{contains, is_sub_of}
use Rattle.sial_syntax.specs.Boxes.{volume}
use Rattle.sial_syntax.specs.Resolved.{Constants, bound_number, segments_between, span_between, span_of_range, has_segments, is_at_least, is_at_most}
use Rattle.sial_syntax.specs.Spaces.{Spaces, Span, Segments, Pieces, span_of, span_first, span_kind, own_kind, kind_of, segments_of, cut_of, box_of}
use Rattle.sial_syntax.specs.Tree.{Block, DoIn}
use Rattle.sial_meaning.specs.Own.{Own}
use Rattle.sial_meaning.specs.Rest.{PardoAt, Rest, Within}
use Rattle.sial_meaning.specs.Setting.{Setting}
use Rattle.sial_meaning.specs.Sight.{is_pieces_of}
use Rattle.sial_meaning.specs.Sound.{IsSound}
use Rattle.sial_meaning.proofs.AcceptedInOtherWords.Pairs.{never, holds-so, first-holds, second-holds}
use Rattle.sial_meaning.proofs.Granted.Ranges.{InSpan, InRange}
use Rattle.sial_meaning.proofs.Granted.Rules.{one-some, same-first, same-rest, cuts-as-said, no-part-of-part}
use Rattle.sial_meaning.proofs.Granted.Segments.{from-one}
use Rattle.sial_meaning.proofs.Granted.Visits.{Good}
use Rattle.sial_meaning.proofs.StatesAreWhole.Rest.{GoodRest}
use Rattle.sial_meaning.proofs.StepsReachTheFold.Rules.{both, neither}
use Rattle.sip_tables.specs.Code.{instruction}
use Rattle.sip_tables.specs.declared.instruction.Operation.TheVariants as op
use Rattle.code_places.specs.Items.{IsHead}
use Rattle.exec_control.specs.Needs.{HasPieces, MayGo, MayTakeUp}
use Rattle.exec_control.specs.Position.{Position}
use Rattle.exec_control.specs.Stands.{ControlStands}
use Rattle.exec_control.proofs.StandLemmas.{item_is}

-- segments end at the last of their kind, and pieces have a length
abbrev EndsWithin : Spaces → Span → Type 0
EndsWithin spaces (Segments kind first count) = (v : ℕ) → first ≤ v → v < first + count → v ≤ segments_of spaces kind
EndsWithin spaces (Pieces super) = 0 < (cut_of spaces (kind_of spaces super)).piece

at_most : (hi n : ℕ) → is_at_most n (Some hi) ≡ true → hi ≤ n
at_most hi n is = grind (arith, nat_tests)

less : (a b : ℕ) → nat_lt a b ≡ true → a < b
less a b is = grind (arith, nat_tests)

between_ends : (spaces : Spaces) (kind : Kind) (lo hi : Option ℕ) (s : Span) → Some s ≡ span_between kind lo hi → is_at_most (segments_of spaces kind) hi ≡ true → EndsWithin spaces s
between_ends spaces kind None hi s same few = absurd cc
between_ends spaces kind (Some lo) None s same few = absurd cc
between_ends spaces kind (Some lo) (Some hi) s same few =
    let last : hi ≤ segments_of spaces kind = at_most hi (segments_of spaces kind) few in
    subst (λ (x : Span). EndsWithin spaces x) (sym (one-some s (segments_between kind lo hi) same))
    (elim (nat_lt hi lo) as (λ b. nat_lt hi lo ≡ b → EndsWithin spaces (if b then Segments kind 1 0 else Segments kind lo ((hi + 1) - lo))) [
      | true ↦ λ e v low high. omega (arith, low, high)
      | false ↦ λ e v low high. let after : lo ≤ hi = ltb-false hi lo e in omega (arith, after, last, low, high)
    ] refl)

range_ends : (constants : Constants) (spaces : Spaces) (r : Range) (s : Span) → Some s ≡ span_of_range constants r → has_segments constants spaces r ≡ true → EndsWithin spaces s
range_ends constants spaces (range.Segments kind lo hi) s same has =
    let rest = second-holds (nat_lt 0 (segments_of spaces kind)) (is_at_least 1 (bound_number constants lo) && is_at_most (segments_of spaces kind) (bound_number constants hi)) has in
    between_ends spaces kind (bound_number constants lo) (bound_number constants hi) s same
    (second-holds (is_at_least 1 (bound_number constants lo)) (is_at_most (segments_of spaces kind) (bound_number constants hi)) rest)
range_ends constants spaces (range.Sub super) s same has =
    subst (λ (x : Span). EndsWithin spaces x) (sym (one-some s (Pieces super) same)) (less 0 (cut_of spaces (kind_of spaces super)).piece has)

spans_end : (constants : Constants) (spaces : Spaces) (spans : List Span) (indices : List IndexDecl) (i : ℕ) → map Some spans ≡ map (λ (i : IndexDecl). span_of_range constants i.range) indices
    → list_all (λ (i : IndexDecl). has_segments constants spaces i.range) indices ≡ true → EndsWithin spaces (slice_index_or spans i (Segments Index 1 0))
spans_end constants spaces [] indices i same has = λ v low high. omega (arith, low, high)
spans_end constants spaces (s ∷ ss) [] i same has = absurd cc
spans_end constants spaces (s ∷ ss) (d ∷ ds) zero same has =
    range_ends constants spaces d.range s
    (same-first (Some s) (span_of_range constants d.range) (map Some ss) (map (λ (i : IndexDecl). span_of_range constants i.range) ds) same)
    (first-holds (has_segments constants spaces d.range) (list_all (λ (i : IndexDecl). has_segments constants spaces i.range) ds) has)
spans_end constants spaces (s ∷ ss) (d ∷ ds) (suc i) same has =
    spans_end constants spaces ss ds i
    (same-rest (Some s) (span_of_range constants d.range) (map Some ss) (map (λ (i : IndexDecl). span_of_range constants i.range) ds) same)
    (second-holds (has_segments constants spaces d.range) (list_all (λ (i : IndexDecl). has_segments constants spaces i.range) ds) has)

-- a span that is the pieces of an index
pieces_are : (s : Span) (w : ℕ) → is_pieces_of s w ≡ true → s ≡ Pieces w
pieces_are (Segments kind first count) w is = absurd (never is)
pieces_are (Pieces super) w is = ap Pieces (eqb-true super w is)

-- the segment of a bound index, in which a loop over its pieces begins
has_pieces : (g : Setting) → IsSound g → (sub index : ℕ) (indices values : List ℕ) → is_sub_of g.program sub index ≡ true → contains indices index ≡ true → InRange g indices values
    → HasPieces g sub (slice_index_or values index 0)
has_pieces g sound sub index indices values said bound in_range = by_span (span_of g.spaces index) refl
  where
    cuts : is_pieces_of (span_of g.spaces sub) index ≡ true
    cuts = cuts-as-said g sound sub index ∙ said

    sub_is : span_of g.spaces sub ≡ Pieces index
    sub_is = pieces_are (span_of g.spaces sub) index cuts

    ends : (i : ℕ) → EndsWithin g.spaces (span_of g.spaces i)
    ends i = spans_end sound.spaces.0 g.spaces g.spaces.spans g.program.indices i sound.spaces.1.spans sound.spaces.1.segments

    by_span : (s : Span) → span_of g.spaces index ≡ s → HasPieces g sub (slice_index_or values index 0)
    by_span (Pieces c) is = absurd (no-part-of-part g sound sub index c cuts (ap (λ (x : Span). is_pieces_of x c) is ∙ eq-eqb c c refl))
    by_span (Segments kind first count) is =
        let v = slice_index_or values index 0 in
        let within = subst (λ (x : Span). InSpan x v) is (in_range index bound) in
        let one : 1 ≤ first = subst (λ (x : Span). 1 ≤ span_first x) is (from-one g sound index) in
        let last = subst (λ (x : Span). EndsWithin g.spaces x) is (ends index) v within.0 within.1 in
        let length = subst (λ (x : Span). EndsWithin g.spaces x) sub_is (ends sub) in
        let sub_kind : kind_of g.spaces sub ≡ kind = ap (span_kind g.spaces) sub_is ∙ ap own_kind is in
        let index_kind : kind_of g.spaces index ≡ kind = ap (span_kind g.spaces) is in
        record {
          some = (let low = within.0 in omega (arith, one, low));
          within = subst (λ (k : Kind). v ≤ segments_of g.spaces k) (sym sub_kind) last;
          cut = subst (λ (k : Kind). 0 < (cut_of g.spaces k).piece) (index_kind ∙ sym sub_kind) length;
        }

-- a loop over pieces that breaks no rule is over those of a bound index
good_pieces : (g : Setting) (line sub index : ℕ) (body : Block) (indices : List ℕ) (within : Bool) → Good g (record { line = line; form = DoIn sub index body; bound = indices; within = within })
    → (is_sub_of g.program sub index ≡ true) × (contains indices index ≡ true)
good_pieces g line sub index body indices within good =
    let loops = (neither (not (is_sub_of g.program sub index) || false) ((false || false) || (false || false)) good.kind).0 in (
      holds-so (is_sub_of g.program sub index) (neither (not (is_sub_of g.program sub index)) false loops).0,
      (both (contains indices index) true (holds-so (contains indices index && true) good.unbound)).0,
    )

-- control that stands for work which is good where its bound indices have numbers within their ranges may go on
pub may_go : (g : Setting) (c : Position) (rest : Rest) (own : Own) (indices : List ℕ) → IsSound g → ControlStands g c rest own → InRange g indices own.values → GoodRest g indices rest → MayGo g c
may_go g c rest own indices sound st in_range good = record {
  rest = rest;
  own = own;
  stands = st;
  pieces = λ line sub index past has.
      let head : IsHead g.program rest line (DoIn sub index) past = item_is g c rest own (instruction line (op.DoIn sub index past)) st has in
      let here = subst (GoodRest g indices) head.next.is good in
      let parts = good_pieces g line sub index head.body indices here.0 here.1 in
      has_pieces g sound sub index indices c.values parts.0 parts.1 (subst (InRange g indices) (sym st.values) in_range);
}

-- and where it stands at the end of a pardo's body, it may take up each tuple of the box
pub may_take_up : (g : Setting) (c : Position) (pardo : PardoAt) (last number : ℕ) (more : Rest) (own : Own) → ControlStands g c (Within pardo last more) own → number < volume (box_of g.spaces pardo.indices) → MayTakeUp g c number
may_take_up g c pardo last number more own st below = record {
  within = record { pardo = pardo; number = last; more = more; own = own; stands = st };
  below = below;
}
