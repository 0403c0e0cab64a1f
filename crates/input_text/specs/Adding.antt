-- What the lines of an input add up to, and what is wrong with a line after the lines before it.
use Rattle.std.specs.Prelude.{ℕ, ◌-◌, ◌^◌, List, [], ◌∷◌, ◌++◌, Bool, true, false, ◌==◌, ◌&&◌, nat_lt, nat_le, map, length, if◌then◌else◌, Option, Some, None}
use Rattle.std.specs.List.{list_any}
use Rattle.std.specs.Str.{bytes_eq}
use Rattle.sial_syntax.specs.declared.index.Kind.{Kind}
use Rattle.sial_syntax.specs.Agreeing.{is_kind}
use Rattle.sial_syntax.specs.Limits.{most_constants, most_segments}
use Rattle.sip_input.specs.declared.constant.Constant.{Constant}
use Rattle.sip_input.specs.declared.input.Input.{Input}
use Rattle.sip_input.specs.declared.lengths.PieceLength.{PieceLength}
use Rattle.sip_input.specs.declared.lengths.SegmentLengths.{SegmentLengths}
use Rattle.sip_input.specs.declared.start_line.BlockLine.{BlockLine}
use Rattle.sip_input.specs.declared.start_line.ScalarLine.{ScalarLine}
use Rattle.input_text.specs.declared.fault.Wrong.{Wrong}
use Rattle.input_text.specs.declared.fault.Wrong.TheVariants.{TooWide, Twice, TooMany}
use Rattle.input_text.specs.declared.said.Said.{Said}
use Rattle.input_text.specs.declared.said.Said.TheVariants.{Nothing}
use Rattle.input_text.specs.declared.said.Said.TheVariants as said
use Rattle.input_text.specs.declared.values.Value.{Value}

-- blocks that have start values
abbrev pub most_starts : ℕ
most_starts = 65536

-- the lengths of a kind's segments, in order
pub record Lengths : Type 0 where
  pub kind : Kind
  pub lengths : List ℕ

-- the elements with which a block begins, and the line that gives them
pub record Start : Type 0 where
  pub line : ℕ
  pub name : List ℕ
  pub segments : List ℕ
  pub elements : List ℕ

-- all that an input gives, each list in the order of its lines
pub record Given : Type 0 where
  pub constants : List Constant
  pub segments : List Lengths
  pub pieces : List PieceLength
  pub scalars : List ScalarLine
  pub blocks : List Start

-- no line said anything
abbrev pub nothing : Given
nothing = record { constants = []; segments = []; pieces = []; scalars = []; blocks = [] }

-- the lists of an input
abbrev pub lengths_of : SegmentLengths → Lengths
lengths_of s = record { kind = s.kind; lengths = s.lengths.items }

abbrev pub start_of : BlockLine → Start
start_of b = record { line = b.line; name = b.name; segments = b.segments.items; elements = b.elements.items }

abbrev pub given_by : Input → Given
given_by input = record {
  constants = input.constants.items;
  segments = map lengths_of input.segments.items;
  pieces = input.pieces.items;
  scalars = input.scalars.items;
  blocks = map start_of input.blocks.items;
}

-- whether a number is above 2^64 - 1
abbrev pub is_wide : Option ℕ → Bool
is_wide None = true
is_wide (Some n) = false

-- a number that isn't too wide
abbrev pub plain : Option ℕ → ℕ
plain None = 0
plain (Some n) = n

-- the number that wraps around to 0 with another: -0 is 0, and -n is 2^64 - n
abbrev pub opposite : ℕ → ℕ
opposite n = if n == 0 then 0 else 2 ^ 64 - n

-- the number that a start value is
abbrev pub number_of : Value → ℕ
number_of v = if v.negative then opposite (plain v.number) else plain v.number

-- whether a constant, a start value or an element is too wide
abbrev pub is_too_wide : Said → Bool
is_too_wide Nothing = false
is_too_wide (said.Constant name value) = is_wide value
is_too_wide (said.Segments kind lengths) = false
is_too_wide (said.Subsegment kind size) = false
is_too_wide (said.Scalar name value) = is_wide value.number
is_too_wide (said.Block name segments elements) = list_any (λ (v : Value). is_wide v.number) elements

-- whether something is given of a constant, a kind, a scalar or a block
abbrev pub has_constant : List Constant → List ℕ → Bool
has_constant constants name = list_any (λ (c : Constant). bytes_eq name c.name) constants

abbrev pub has_lengths : List Lengths → Kind → Bool
has_lengths segments kind = list_any (λ (s : Lengths). is_kind s.kind kind) segments

abbrev pub has_piece : List PieceLength → Kind → Bool
has_piece pieces kind = list_any (λ (p : PieceLength). is_kind p.kind kind) pieces

abbrev pub has_scalar : List ScalarLine → List ℕ → Bool
has_scalar scalars name = list_any (λ (s : ScalarLine). bytes_eq name s.name) scalars

abbrev pub has_block : List Start → List ℕ → List ℕ → Bool
has_block blocks name segments = list_any (λ (b : Start). bytes_eq name b.name && bytes_eq segments b.segments) blocks

-- whether an earlier line gives what a line gives
abbrev pub is_given : Given → Said → Bool
is_given g Nothing = false
is_given g (said.Constant name value) = has_constant g.constants name
is_given g (said.Segments kind lengths) = has_lengths g.segments kind
is_given g (said.Subsegment kind size) = has_piece g.pieces kind
is_given g (said.Scalar name value) = has_scalar g.scalars name
is_given g (said.Block name segments elements) = has_block g.blocks name segments

-- whether a line goes past a limit
abbrev pub is_past_limit : Given → Said → Bool
is_past_limit g Nothing = false
is_past_limit g (said.Constant name value) = nat_le most_constants (length g.constants)
is_past_limit g (said.Segments kind lengths) = nat_lt most_segments (length lengths)
is_past_limit g (said.Subsegment kind size) = false
is_past_limit g (said.Scalar name value) = false
is_past_limit g (said.Block name segments elements) = nat_le most_starts (length g.blocks)

-- what is wrong with what a line says, the first of these; none where nothing is
abbrev pub wrong : Given → Said → Option Wrong
wrong g s =
    if is_too_wide s then Some TooWide
    else (if is_given g s then Some Twice
    else (if is_past_limit g s then Some TooMany
    else None))

-- the start of a block with these values
abbrev pub start_at : (line : ℕ) → (name segments : List ℕ) → List Value → Start
start_at line name segments elements = record { line = line; name = name; segments = segments; elements = map number_of elements }

-- with what a line says
abbrev pub added : Given → (line : ℕ) → Said → Given
added g line Nothing = g
added g line (said.Constant name value) = record g { constants = g.constants ++ (record { name = name; value = plain value }) ∷ [] }
added g line (said.Segments kind lengths) = record g { segments = g.segments ++ (record { kind = kind; lengths = lengths }) ∷ [] }
added g line (said.Subsegment kind size) = record g { pieces = g.pieces ++ (record { kind = kind; length = size }) ∷ [] }
added g line (said.Scalar name value) =
    record g { scalars = g.scalars ++ (record { line = line; name = name; value = number_of value }) ∷ [] }
added g line (said.Block name segments elements) = record g { blocks = g.blocks ++ start_at line name segments elements ∷ [] }
