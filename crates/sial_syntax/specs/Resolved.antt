-- The spaces of a program: every index runs over its declared range, and arrays, blocks and pardos fit what the input gives.
use Rattle.std.specs.Prelude.{◌≡◌, ℕ, ◌+◌, ◌-◌, List, [], ◌∷◌, map, length, Bool, true, false, ◌==◌, ◌&&◌, ◌||◌, not, nat_lt, nat_le, if◌then◌else◌, Option, Some, None, option_map, find, IsTrue}
use Rattle.std.specs.List.{list_all, list_any}
use Rattle.sial_syntax.specs.declared.array.ArrayDecl.{ArrayDecl}
use Rattle.sial_syntax.specs.declared.array.ArrayKind.{ArrayKind}
use Rattle.sial_syntax.specs.declared.array.ArrayKind.TheVariants.{Static, Temp, Local, Distributed, Served}
use Rattle.sial_syntax.specs.declared.index.Bound.{Bound}
use Rattle.sial_syntax.specs.declared.index.Bound.TheVariants.{Number, Named}
use Rattle.sial_syntax.specs.declared.index.IndexDecl.{IndexDecl}
use Rattle.sial_syntax.specs.declared.index.Kind.{Kind}
use Rattle.sial_syntax.specs.declared.index.Range.{Range}
use Rattle.sial_syntax.specs.declared.index.Range.TheVariants as range
use Rattle.sial_syntax.specs.declared.operand.BlockRef.{BlockRef}
use Rattle.sial_syntax.specs.declared.operand.Slot.{Slot}
use Rattle.sial_syntax.specs.declared.operand.Slot.TheVariants.{At, All}
use Rattle.sial_syntax.specs.Agreeing.{same_list, array_in}
use Rattle.sial_syntax.specs.Boxes.{volume}
use Rattle.sial_syntax.specs.Limits.{most_constants, most_segments, most_length, most_words, most_blocks, most_together, most_box}
use Rattle.sial_syntax.specs.Names.{has_name_form}
use Rattle.sial_syntax.specs.Parts.{blocks_named, slots_named, slotted_array}
use Rattle.sial_syntax.specs.Proper.{is_number}
use Rattle.sial_syntax.specs.Spaces.{Spaces, Cut, Span, Segments, Pieces, span_of, kind_of, cut_of, segments_of, first_of, count_of, box_of, blocks_of, blocks_together, same_kind}
use Rattle.sial_syntax.specs.Tree.{Tree, Plain, Pardo}
use Rattle.sial_syntax.specs.Visits.{Visit, all_visits}
use Rattle.sial_syntax.specs.Widths.{widest_block}

-- the constants that an input gives: names with their numbers
abbrev pub Constants : Type 0
Constants = List (List ℕ × ℕ)

-- whether the name of a constant is given again
abbrev pub is_given_again : List ℕ → Constants → Bool
is_given_again name constants = list_any (λ (c : List ℕ × ℕ). same_list c.0 name) constants

-- whether no constant is given twice
abbrev pub are_given_once : Constants → Bool
are_given_once [] = true
are_given_once (c ∷ cs) = not (is_given_again c.0 cs) && are_given_once cs

-- whether these are constants that an input may give: not too many, each name once, and numbers
abbrev pub may_be_constants : Constants → Bool
may_be_constants constants =
    nat_le (length constants) most_constants
    && (are_given_once constants && list_all (λ (c : List ℕ × ℕ). has_name_form c.0 && is_number c.1) constants)

-- the number of a constant, none where the input doesn't give it
abbrev pub constant_of : Constants → (name : List ℕ) → Option ℕ
constant_of constants name = option_map (λ (c : List ℕ × ℕ). c.1) (find (λ (c : List ℕ × ℕ). same_list c.0 name) constants)

-- the number of a bound
abbrev pub bound_number : Constants → Bound → Option ℕ
bound_number constants (Number n) = Some n
bound_number constants (Named name) = constant_of constants name

-- the segments from one to another, none where the last comes before the first
abbrev pub segments_between : Kind → (lo hi : ℕ) → Span
segments_between kind lo hi = if nat_lt hi lo then Segments kind 1 0 else Segments kind lo ((hi + 1) - lo)

-- the same between bounds that have numbers
abbrev pub span_between : Kind → (lo hi : Option ℕ) → Option Span
span_between kind None hi = None
span_between kind (Some lo) None = None
span_between kind (Some lo) (Some hi) = Some (segments_between kind lo hi)

-- what an index of this range runs over, none where a constant is missing
abbrev pub span_of_range : Constants → Range → Option Span
span_of_range constants (range.Segments kind lo hi) = span_between kind (bound_number constants lo) (bound_number constants hi)
span_of_range constants (range.Sub super) = Some (Pieces super)

-- whether a number is there and is at least so much
abbrev pub is_at_least : (least : ℕ) → Option ℕ → Bool
is_at_least least None = false
is_at_least least (Some n) = nat_le least n

-- whether a number is there and is at most so much
abbrev pub is_at_most : (most : ℕ) → Option ℕ → Bool
is_at_most most None = false
is_at_most most (Some n) = nat_le n most

-- whether a range's segments are there: its kind has some, they count from 1, and the last is one of the kind's; pieces have a length
abbrev pub has_segments : Constants → Spaces → Range → Bool
has_segments constants spaces (range.Segments kind lo hi) =
    nat_lt 0 (segments_of spaces kind) && (is_at_least 1 (bound_number constants lo) && is_at_most (segments_of spaces kind) (bound_number constants hi))
has_segments constants spaces (range.Sub super) = nat_lt 0 (cut_of spaces (kind_of spaces super)).piece

-- whether lengths of segments and pieces are those that an input may give
abbrev pub is_cut : Cut → Bool
is_cut cut = list_all (λ n. nat_le 1 n && nat_le n most_length) cut.segments && (nat_le (length cut.segments) most_segments && nat_le cut.piece most_length)

-- whether an array's blocks are not too wide
abbrev pub is_narrow : Spaces → ArrayDecl → Bool
is_narrow spaces array = nat_le (widest_block spaces array.dims) most_words

-- whether an array has not too many blocks; a temp's aren't counted
abbrev pub has_few_blocks : Spaces → ArrayDecl → Bool
has_few_blocks spaces array = same_kind array.kind Temp || nat_le (blocks_of spaces array) most_blocks

-- whether the arrays of a kind have not too many blocks together
abbrev pub have_few_blocks : Tree → Spaces → ArrayKind → Bool
have_few_blocks p spaces kind = nat_le (blocks_together spaces kind p.arrays) most_together

-- the index itself, or the one whose segments it cuts
abbrev pub itself_or_super : ℕ → Span → ℕ
itself_or_super index (Segments kind first count) = index
itself_or_super index (Pieces super) = super

-- the index whose segments an index has
abbrev pub whole_index : Spaces → ℕ → ℕ
whole_index spaces index = itself_or_super index (span_of spaces index)

-- whether a row of segments lies within another; an empty one does
abbrev pub lies_in : (first count within many : ℕ) → Bool
lies_in first count within many = (count == 0) || (nat_le within first && nat_le (first + count) (within + many))

-- whether an index's range lies within a declared one's, subindices with the ranges of their super indices
abbrev pub range_within : Spaces → (used declared : ℕ) → Bool
range_within spaces used declared =
    lies_in
    (first_of spaces (whole_index spaces used))
    (count_of spaces (whole_index spaces used))
    (first_of spaces (whole_index spaces declared))
    (count_of spaces (whole_index spaces declared))

-- whether a block's indices lie within the declared ones
abbrev pub indices_within : Spaces → (used declared : List ℕ) → Bool
indices_within spaces [] declared = true
indices_within spaces (u ∷ us) [] = true
indices_within spaces (u ∷ us) (d ∷ ds) = range_within spaces u d && indices_within spaces us ds

-- whether a slot's index lies within the declared one; `*` does
abbrev pub slot_within : Spaces → Slot → (declared : ℕ) → Bool
slot_within spaces (At index) declared = range_within spaces index declared
slot_within spaces All declared = true

-- whether all slots' indices do
abbrev pub slots_within : Spaces → List Slot → (declared : List ℕ) → Bool
slots_within spaces [] declared = true
slots_within spaces (s ∷ ss) [] = true
slots_within spaces (s ∷ ss) (d ∷ ds) = slot_within spaces s d && slots_within spaces ss ds

-- whether all indices that a statement names in blocks and slots lie within the declared ones
abbrev pub statement_within : Tree → Spaces → Plain → Bool
statement_within p spaces form =
    list_all (λ (b : BlockRef). indices_within spaces b.at (array_in p b.array).dims) (blocks_named form)
    && list_all (λ a. slots_within spaces (slots_named form) (array_in p a).dims) (slotted_array form)

-- whether a pardo's box has not too many tuples
abbrev pub has_small_box : Spaces → Plain → Bool
has_small_box spaces (Pardo indices wheres body) = nat_le (volume (box_of spaces indices)) most_box
has_small_box spaces _ = true

-- spaces that a program has by these constants
pub record AreSpacesBy (constants : Constants) (p : Tree) (spaces : Spaces) : Type 0 where
  pub given : IsTrue (may_be_constants constants)
  pub cuts : IsTrue (list_all is_cut (spaces.ao ∷ spaces.mo ∷ spaces.moa ∷ spaces.mob ∷ []))
  pub spans : map Some spaces.spans ≡ map (λ (i : IndexDecl). span_of_range constants i.range) p.indices
  pub segments : IsTrue (list_all (λ (i : IndexDecl). has_segments constants spaces i.range) p.indices)
  pub narrow : IsTrue (list_all (is_narrow spaces) p.arrays)
  pub few : IsTrue (list_all (has_few_blocks spaces) p.arrays)
  pub together : IsTrue (list_all (have_few_blocks p spaces) (Static ∷ Local ∷ Distributed ∷ Served ∷ []))
  pub within : IsTrue (list_all (λ (v : Visit). statement_within p spaces v.form) (all_visits p))
  pub boxes : IsTrue (list_all (λ (v : Visit). has_small_box spaces v.form) (all_visits p))

-- spaces that a program has with some input
abbrev pub AreSpacesOf : Tree → Spaces → Type 0
AreSpacesOf p spaces = (constants : Constants) × AreSpacesBy constants p spaces
