-- What an input is refused for: the first refusal of four rounds, over indices, arrays, statements and start values.
use Rattle.std.specs.Prelude.{◌≡◌, ◌⊎◌, ℕ, ◌+◌, ◌-◌, ◌^◌, min, List, [], ◌∷◌, ◌++◌, length, Bool, true, false, ◌==◌, ◌&&◌, ◌||◌, nat_lt, nat_le, if◌then◌else◌, Option, Some, None, option_map, slice_index_or}
use Rattle.sial_syntax.specs.declared.array.ArrayDecl.{ArrayDecl}
use Rattle.sial_syntax.specs.declared.array.ArrayKind.{ArrayKind}
use Rattle.sial_syntax.specs.declared.array.ArrayKind.TheVariants.{Static, Temp, Local, Distributed, Served}
use Rattle.sial_syntax.specs.declared.classes.ScalarClass.{ScalarClass}
use Rattle.sial_syntax.specs.declared.classes.ScalarClass.TheVariants.{Replicated, Private, Partial}
use Rattle.sial_syntax.specs.declared.index.IndexDecl.{IndexDecl}
use Rattle.sial_syntax.specs.declared.index.Range.{Range}
use Rattle.sial_syntax.specs.declared.index.Range.TheVariants as range
use Rattle.sial_syntax.specs.declared.operand.BlockRef.{BlockRef}
use Rattle.sial_syntax.specs.declared.operand.Slot.{Slot}
use Rattle.sial_syntax.specs.declared.operand.Slot.TheVariants.{At, All}
use Rattle.sial_syntax.specs.Agreeing.{array_in}
use Rattle.sial_syntax.specs.Boxes.{volume}
use Rattle.sial_syntax.specs.Limits.{most_words, most_blocks, most_together, most_box}
use Rattle.sial_syntax.specs.Parts.{blocks_named, slots_named, slotted_array}
use Rattle.sial_syntax.specs.Resolved.{Constants, bound_number, range_within}
use Rattle.sial_syntax.specs.Spaces.{Spaces, kind_of, cut_of, segments_of, first_of, count_of, box_of, blocks_of, blocks_together, words_in}
use Rattle.sial_syntax.specs.Tree.{Tree, Plain, Pardo}
use Rattle.sial_syntax.specs.Visits.{Visit, all_visits}
use Rattle.sial_syntax.specs.Widths.{widest_block}
use Rattle.sip_input.specs.declared.input.Input.{Input}
use Rattle.sip_input.specs.declared.start_line.BlockLine.{BlockLine}
use Rattle.sip_input.specs.declared.start_line.ScalarLine.{ScalarLine}
use Rattle.sip_input.specs.Given.{constants_of}
use Rattle.index_spaces.specs.declared.fault.SpaceFault.{SpaceFault}
use Rattle.index_spaces.specs.declared.fault.SpaceKind.{SpaceKind}
use Rattle.index_spaces.specs.declared.fault.SpaceKind.TheVariants.{NoConstant, NoSegment, NotWithin, BlockTooWide, TooManyBlocks, BadStart, OutOfMemory}
use Rattle.index_spaces.specs.Given.{spaces_by, scalar_named, array_named}
use Rattle.index_spaces.specs.Placed.{is_temp}

-- a refusal; a value above 2^64 - 1 is kept as 2^64 - 1
abbrev pub fault : SpaceKind → (name : List ℕ) → (value : ℕ) → SpaceFault
fault kind name value = record { kind = kind; name = name; value = min value (2 ^ 64 - 1) }

-- a refusal, where a test says so
abbrev pub fault_if : Bool → SpaceFault → Option SpaceFault
fault_if true f = Some f
fault_if false f = None

-- the first of two, where there is one
abbrev pub or_else : {X : Type 0} → Option X → Option X → Option X
or_else None other = other
or_else (Some x) other = Some x

-- NoSegment of a range between numbers: the kind has no segments, the range begins at 0, or it ends behind the kind's last one
abbrev pub between_refusal : (name : List ℕ) → (segments lo hi : ℕ) → Option SpaceFault
between_refusal name segments lo hi =
    if (segments == 0) || (lo == 0)
    then Some (fault NoSegment name 0)
    else fault_if (nat_lt segments hi) (fault NoSegment name hi)

-- NoConstant of a bound comes before
abbrev pub bounds_refusal : (name : List ℕ) → (segments : ℕ) → (lo hi : Option ℕ) → Option SpaceFault
bounds_refusal name segments None hi = Some (fault NoConstant name 0)
bounds_refusal name segments (Some lo) None = Some (fault NoConstant name 0)
bounds_refusal name segments (Some lo) (Some hi) = between_refusal name segments lo hi

-- NoSegment of a subindex: its kind is not cut into pieces
abbrev pub range_refusal : Constants → Spaces → (name : List ℕ) → Range → Option SpaceFault
range_refusal constants spaces name (range.Segments kind lo hi) =
    bounds_refusal name (segments_of spaces kind) (bound_number constants lo) (bound_number constants hi)
range_refusal constants spaces name (range.Sub super) = fault_if ((cut_of spaces (kind_of spaces super)).piece == 0) (fault NoSegment name 0)

-- the first round: indices in order of declaration
abbrev pub indices_refusal : Constants → Spaces → List IndexDecl → Option SpaceFault
indices_refusal constants spaces [] = None
indices_refusal constants spaces (i ∷ is) = or_else (range_refusal constants spaces i.name i.range) (indices_refusal constants spaces is)

-- TooManyBlocks of an array with so many blocks, and so many of its kind up to it
abbrev pub count_refusal : (name : List ℕ) → (own together : ℕ) → Option SpaceFault
count_refusal name own together =
    if nat_lt most_blocks own
    then Some (fault TooManyBlocks name own)
    else fault_if (nat_lt most_together together) (fault TooManyBlocks name together)

-- the refusal of an array behind others: BlockTooWide before TooManyBlocks; a temp's blocks aren't counted
abbrev pub array_refusal : Spaces → (before : List ArrayDecl) → ArrayDecl → Option SpaceFault
array_refusal spaces before a =
    if nat_lt most_words (widest_block spaces a.dims)
    then Some (fault BlockTooWide a.name (widest_block spaces a.dims))
    else if is_temp a then None else count_refusal a.name (blocks_of spaces a) (blocks_together spaces a.kind (before ++ a ∷ []))

-- the second round: arrays in order of declaration, behind those before them
abbrev pub arrays_refusal : Spaces → (before : List ArrayDecl) → List ArrayDecl → Option SpaceFault
arrays_refusal spaces before [] = None
arrays_refusal spaces before (a ∷ others) = or_else (array_refusal spaces before a) (arrays_refusal spaces (before ++ a ∷ []) others)

-- a refusal at a line
pub record AtLine : Type 0 where
  pub line : ℕ
  pub fault : SpaceFault

-- a refusal whose value is its line
abbrev pub told_by_line : SpaceKind → (name : List ℕ) → (line : ℕ) → AtLine
told_by_line kind name line = record { line = line; fault = record { kind = kind; name = name; value = line } }

-- the number of a kind of refusal
abbrev pub number_of : SpaceKind → ℕ
number_of NoConstant = 1
number_of NoSegment = 2
number_of NotWithin = 3
number_of BlockTooWide = 4
number_of TooManyBlocks = 5
number_of BadStart = 6
number_of OutOfMemory = 7

-- whether a refusal comes before another: by line, then by the number of its kind
abbrev pub comes_before : AtLine → AtLine → Bool
comes_before a b = nat_lt a.line b.line || ((a.line == b.line) && nat_lt (number_of a.fault.kind) (number_of b.fault.kind))

-- the one of two that comes first; of two that are alike the former
abbrev pub sooner : Option AtLine → Option AtLine → Option AtLine
sooner None other = other
sooner (Some a) None = Some a
sooner (Some a) (Some b) = Some (if comes_before b a then b else a)

-- the refusal that comes first among those of some things
abbrev pub soonest : {X : Type 0} → (X → Option AtLine) → List X → Option AtLine
soonest refusal [] = None
soonest refusal (x ∷ xs) = sooner (refusal x) (soonest refusal xs)

-- the first index of a block whose range isn't within that of the declared one
abbrev pub first_outside : Spaces → (used declared : List ℕ) → Option ℕ
first_outside spaces [] declared = None
first_outside spaces (u ∷ us) [] = None
first_outside spaces (u ∷ us) (d ∷ ds) = if range_within spaces u d then first_outside spaces us ds else Some u

-- the same of some blocks
abbrev pub blocks_outside : Tree → Spaces → List BlockRef → Option ℕ
blocks_outside p spaces [] = None
blocks_outside p spaces (b ∷ bs) = or_else (first_outside spaces b.at (array_in p b.array).dims) (blocks_outside p spaces bs)

-- the same of slots
abbrev pub slots_outside : Spaces → List Slot → (declared : List ℕ) → Option ℕ
slots_outside spaces [] declared = None
slots_outside spaces (s ∷ ss) [] = None
slots_outside spaces (At u ∷ ss) (d ∷ ds) = if range_within spaces u d then slots_outside spaces ss ds else Some u
slots_outside spaces (All ∷ ss) (d ∷ ds) = slots_outside spaces ss ds

-- the same of the slots of some arrays
abbrev pub slotted_outside : Tree → Spaces → List Slot → (arrays : List ℕ) → Option ℕ
slotted_outside p spaces at [] = None
slotted_outside p spaces at (a ∷ others) = or_else (slots_outside spaces at (array_in p a).dims) (slotted_outside p spaces at others)

-- the first index of a statement that isn't within the declared one, as written, the target before the operands
abbrev pub statement_outside : Tree → Spaces → Plain → Option ℕ
statement_outside p spaces form =
    or_else (blocks_outside p spaces (blocks_named form)) (slotted_outside p spaces (slots_named form) (slotted_array form))

-- the name of an index
abbrev pub index_name : Tree → (index : ℕ) → List ℕ
index_name p index = (slice_index_or p.indices index (record { name = []; line = 0; range = range.Sub 0 })).name

-- NotWithin of a statement with an index that isn't within: the value is the line
abbrev pub outside_refusal : Tree → (line : ℕ) → Option ℕ → Option AtLine
outside_refusal p line None = None
outside_refusal p line (Some index) = Some (told_by_line NotWithin (index_name p index) line)

-- TooManyBlocks of a pardo whose box has so many tuples: it has the name of its first index
abbrev pub box_refusal : (name : List ℕ) → (line box : ℕ) → Option AtLine
box_refusal name line box =
    if nat_lt most_box box then Some (record { line = line; fault = fault TooManyBlocks name box }) else None

-- the name of the first of some indices
abbrev pub first_name : Tree → List ℕ → List ℕ
first_name p [] = []
first_name p (i ∷ is) = index_name p i

-- the refusal of a statement
abbrev pub statement_refusal : Tree → Spaces → (line : ℕ) → Plain → Option AtLine
statement_refusal p spaces line (Pardo indices wheres body) = box_refusal (first_name p indices) line (volume (box_of spaces indices))
statement_refusal p spaces line form = outside_refusal p line (statement_outside p spaces form)

-- the third round: statements by line
abbrev pub statements_refusal : Tree → Spaces → Option AtLine
statements_refusal p spaces = soonest (λ (v : Visit). statement_refusal p spaces v.line v.form) (all_visits p)

-- BadStart at a line of the input, which is its value
abbrev pub bad_start : Bool → (line : ℕ) → (name : List ℕ) → Option AtLine
bad_start true line name = None
bad_start false line name = Some (told_by_line BadStart name line)

-- whether a class is replicated
abbrev pub is_replicated : ScalarClass → Bool
is_replicated Replicated = true
is_replicated Private = false
is_replicated Partial = false

-- whether a name means a replicated scalar
abbrev pub means_replicated : List ScalarClass → Option ℕ → Bool
means_replicated classes None = false
means_replicated classes (Some scalar) = is_replicated (slice_index_or classes scalar Private)

-- the refusal of a scalar's start value: no replicated scalar has the name
abbrev pub scalar_refusal : Tree → List ScalarClass → ScalarLine → Option AtLine
scalar_refusal p classes l = bad_start (means_replicated classes (scalar_named p l.name)) l.line l.name

-- whether an input may give blocks of an array of this kind
abbrev pub may_be_given : ArrayKind → Bool
may_be_given Static = true
may_be_given Temp = false
may_be_given Local = false
may_be_given Distributed = false
may_be_given Served = true

-- whether a number is that of one of an index's segments
abbrev pub is_segment : Spaces → (index number : ℕ) → Bool
is_segment spaces i n = nat_le (first_of spaces i) n && nat_lt n (first_of spaces i + count_of spaces i)

-- whether these are segment numbers of some indices, one each
abbrev pub are_segments : Spaces → (indices numbers : List ℕ) → Bool
are_segments spaces [] [] = true
are_segments spaces [] (n ∷ ns) = false
are_segments spaces (i ∷ is) [] = false
are_segments spaces (i ∷ is) (n ∷ ns) = is_segment spaces i n && are_segments spaces is ns

-- whether an array has a block of these segments with so many elements, which an input may give
abbrev pub fits_array : Spaces → ArrayDecl → (segments elements : List ℕ) → Bool
fits_array spaces a segments elements =
    may_be_given a.kind && (are_segments spaces a.dims segments && (length elements == words_in spaces a.dims segments))

-- whether a name means an array that has such a block
abbrev pub means_fitting : Tree → Spaces → Option ℕ → (segments elements : List ℕ) → Bool
means_fitting p spaces None segments elements = false
means_fitting p spaces (Some array) segments elements = fits_array spaces (array_in p array) segments elements

-- the refusal of a block's start values: no static or served array has the name, the block isn't one of its, or it has another count of elements
abbrev pub block_refusal : Tree → Spaces → BlockLine → Option AtLine
block_refusal p spaces l = bad_start (means_fitting p spaces (array_named p l.name) l.segments.items l.elements.items) l.line l.name

-- the fourth round: start values by line of the input
abbrev pub starts_refusal : Tree → Spaces → List ScalarClass → Input → Option AtLine
starts_refusal p spaces classes input =
    sooner (soonest (scalar_refusal p classes) input.scalars.items) (soonest (block_refusal p spaces) input.blocks.items)

-- a refusal without its line
abbrev pub without_line : Option AtLine → Option SpaceFault
without_line found = option_map (λ (r : AtLine). r.fault) found

-- the refusal of a program and an input, by the spaces that they have
abbrev pub refusal_by : Tree → Spaces → List ScalarClass → Input → Option SpaceFault
refusal_by p spaces classes input =
    or_else (indices_refusal (constants_of input) spaces p.indices)
    (or_else (arrays_refusal spaces [] p.arrays)
    (or_else (without_line (statements_refusal p spaces)) (without_line (starts_refusal p spaces classes input))))

-- the refusal of a program, with the classes of its scalars, and an input; none where they fit
abbrev pub refusal : Tree → List ScalarClass → Input → Option SpaceFault
refusal p classes input = refusal_by p (spaces_by p input) classes input

-- a fault that only says that memory ran out
abbrev pub IsNoMemory : SpaceFault → Type 0
IsNoMemory f = (f.kind ≡ OutOfMemory) × (f.name ≡ []) × (f.value ≡ 0)

-- a fault is this refusal, or says that memory ran out
abbrev pub IsCause : Option SpaceFault → SpaceFault → Type 0
IsCause refused f = IsNoMemory f ⊎ (refused ≡ Some f)
