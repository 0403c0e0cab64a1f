-- What an input gives: its constants, and how it cuts the indices of each kind.
use Rattle.std.specs.Prelude.{ℕ, List, [], ◌∷◌, map, length, Bool, ◌&&◌, nat_le, if◌then◌else◌, IsTrue}
use Rattle.std.specs.List.{list_all}
use Rattle.sial_syntax.specs.declared.index.Kind.{Kind}
use Rattle.sial_syntax.specs.Agreeing.{is_kind}
use Rattle.sial_syntax.specs.Limits.{most_length, most_segments}
use Rattle.sial_syntax.specs.Resolved.{Constants, may_be_constants}
use Rattle.sial_syntax.specs.Spaces.{Cut}
use Rattle.sip_input.specs.declared.constant.Constant.{Constant}
use Rattle.sip_input.specs.declared.input.Input.{Input}
use Rattle.sip_input.specs.declared.lengths.PieceLength.{PieceLength}
use Rattle.sip_input.specs.declared.lengths.SegmentLengths.{SegmentLengths}

-- constants as names with their numbers
abbrev pub named_numbers : List Constant → Constants
named_numbers constants = map (λ (c : Constant). (c.name, c.value)) constants

-- the constants of an input
abbrev pub constants_of : Input → Constants
constants_of input = named_numbers input.constants.items

-- the lengths of a kind's segments, none where nothing is said of the kind
abbrev pub lengths_among : List SegmentLengths → Kind → List ℕ
lengths_among [] kind = []
lengths_among (s ∷ others) kind = if is_kind s.kind kind then s.lengths.items else lengths_among others kind

-- the length of a kind's pieces, 0 where nothing is said of the kind
abbrev pub piece_among : List PieceLength → Kind → ℕ
piece_among [] kind = 0
piece_among (s ∷ others) kind = if is_kind s.kind kind then s.length else piece_among others kind

-- how an input cuts the indices of a kind
abbrev pub cut_given : Input → Kind → Cut
cut_given input kind = record { segments = lengths_among input.segments.items kind; piece = piece_among input.pieces.items kind }

-- whether something is a length of a segment or of a piece
abbrev pub is_length : ℕ → Bool
is_length n = nat_le 1 n && nat_le n most_length

-- whether these are lengths of segments that an input may give a kind
abbrev pub are_lengths : SegmentLengths → Bool
are_lengths s = nat_le (length s.lengths.items) most_segments && list_all is_length s.lengths.items

-- whether this is a length of pieces that an input may give a kind
abbrev pub is_piece_length : PieceLength → Bool
is_piece_length s = is_length s.length

-- constants and lengths are within their limits
pub record IsInput (input : Input) : Type 0 where
  pub constants : IsTrue (may_be_constants (constants_of input))
  pub segments : IsTrue (list_all are_lengths input.segments.items)
  pub pieces : IsTrue (list_all is_piece_length input.pieces.items)
