-- The spaces that an input gives a program, and its start values.
use Rattle.std.specs.Prelude.{ℕ, ◌+◌, List, [], ◌∷◌, map, Bool, false, ◌==◌, nat_lt, if◌then◌else◌, Option, Some, None, unwrap_or}
use Rattle.std.specs.List.{enumerate_from}
use Rattle.sial_syntax.specs.declared.array.ArrayDecl.{ArrayDecl}
use Rattle.sial_syntax.specs.declared.index.IndexDecl.{IndexDecl}
use Rattle.sial_syntax.specs.declared.index.Kind.{Kind}
use Rattle.sial_syntax.specs.declared.index.Kind.TheVariants.{Ao, Mo, Moa, Mob}
use Rattle.sial_syntax.specs.declared.index.Range.{Range}
use Rattle.sial_syntax.specs.declared.index.Range.TheVariants as range
use Rattle.sial_syntax.specs.Agreeing.{same_list, array_in}
use Rattle.sial_syntax.specs.Resolved.{Constants, bound_number, segments_between}
use Rattle.sial_syntax.specs.Spaces as sp
use Rattle.sial_syntax.specs.Spaces.{Spaces, Cut, cut_of}
use Rattle.sial_syntax.specs.Tree.{Tree}
use Rattle.sip_input.specs.declared.input.Input.{Input}
use Rattle.sip_input.specs.declared.start_line.BlockLine.{BlockLine}
use Rattle.sip_input.specs.declared.start_line.ScalarLine.{ScalarLine}
use Rattle.sip_input.specs.Given.{constants_of, cut_given}
use Rattle.index_spaces.specs.Placed.{Placed, bare}

-- the segments of the kinds, before any index runs over them
abbrev pub cuts_given : Input → Spaces
cuts_given input = record {
  ao = cut_given input Ao;
  mo = cut_given input Mo;
  moa = cut_given input Moa;
  mob = cut_given input Mob;
  spans = [];
}

-- the segments between two bounds, none where these aren't there or end behind the kind's last one: such an index is refused
abbrev pub span_between : (segments : ℕ) → Kind → (lo hi : Option ℕ) → sp.Span
span_between segments kind None hi = sp.Segments kind 1 0
span_between segments kind (Some lo) None = sp.Segments kind 1 0
span_between segments kind (Some lo) (Some hi) = if nat_lt segments hi then sp.Segments kind 1 0 else segments_between kind lo hi

-- what an index of this range runs over
abbrev pub span_given : Constants → Spaces → Range → sp.Span
span_given constants cuts (range.Segments kind lo hi) =
    span_between (sp.segments_of cuts kind) kind (bound_number constants lo) (bound_number constants hi)
span_given constants cuts (range.Sub super) = sp.Pieces super

-- what indices run over
abbrev pub spans_given : Constants → Spaces → List IndexDecl → List sp.Span
spans_given constants cuts indices = map (λ (i : IndexDecl). span_given constants cuts i.range) indices

-- the spaces of a program by an input
abbrev pub spaces_by : Tree → Input → Spaces
spaces_by p input = record {
  ao = cut_given input Ao;
  mo = cut_given input Mo;
  moa = cut_given input Moa;
  mob = cut_given input Mob;
  spans = spans_given (constants_of input) (cuts_given input) p.indices;
}

-- the same beside the program's arrays
abbrev pub placed_by : Tree → Input → Placed
placed_by p input = record { spaces = spaces_by p input; arrays = map bare p.arrays }

-- the place of the first of some names that is this one, counted on from `at`
abbrev pub place_from : (at : ℕ) → (names : List (List ℕ)) → (name : List ℕ) → Option ℕ
place_from at [] name = None
place_from at (x ∷ xs) name = if same_list x name then Some at else place_from (at + 1) xs name

-- the scalar that a name means: the first of that name
abbrev pub scalar_named : Tree → (name : List ℕ) → Option ℕ
scalar_named p name = place_from 0 p.scalars name

-- the names of arrays
abbrev pub names_of : List ArrayDecl → List (List ℕ)
names_of arrays = map (λ (a : ArrayDecl). a.name) arrays

-- the array that a name means: the first of that name
abbrev pub array_named : Tree → (name : List ℕ) → Option ℕ
array_named p name = place_from 0 (names_of p.arrays) name

-- whether something is this number
abbrev pub is_this : Option ℕ → ℕ → Bool
is_this None n = false
is_this (Some m) n = m == n

-- the number with which a scalar begins: that of the first line which means it, else 0
abbrev pub number_given : (scalars : List (List ℕ)) → List ScalarLine → (scalar : ℕ) → ℕ
number_given scalars [] scalar = 0
number_given scalars (l ∷ ls) scalar = if is_this (place_from 0 scalars l.name) scalar then l.value else number_given scalars ls scalar

-- the numbers with which scalars begin
abbrev pub numbers_among : (scalars : List (List ℕ)) → List ScalarLine → List ℕ
numbers_among scalars lines = map (λ (x : ℕ × List ℕ). number_given scalars lines x.0) (enumerate_from 0 scalars)

-- the numbers with which the scalars of a program begin
abbrev pub numbers_given : Tree → Input → List ℕ
numbers_given p input = numbers_among p.scalars input.scalars.items

-- a block with its elements: its array, its number within the array, and they
pub record Given : Type 0 where
  pub array : ℕ
  pub number : ℕ
  pub words : List ℕ

-- the block that a line gives
abbrev pub block_given : Tree → Spaces → BlockLine → Given
block_given p spaces l =
    let array = unwrap_or (array_named p l.name) 0 in
    record { array = array; number = sp.rank_of spaces (array_in p array).dims l.segments.items; words = l.elements.items }

-- the blocks that an input gives, in the order of its lines
abbrev pub blocks_given : Tree → Spaces → Input → List Given
blocks_given p spaces input = map (block_given p spaces) input.blocks.items
