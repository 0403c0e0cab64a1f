-- What one worker holds of its own: index numbers, scalars, statics, temps, locals and created flags.
use Rattle.std.specs.Prelude.{ℕ, List, [], ◌∷◌, map, Bool, true, false, ◌==◌, ◌&&◌, slice_index_or, slice_set, replicate, length, Option, Some, None, find}
use Rattle.sial_syntax.specs.Boxes.{numbers_from}
use Rattle.sial_syntax.specs.Spaces.{Span, Segments, Pieces, span_of, extent, rank_of}
use Rattle.sial_syntax.specs.declared.array.ArrayKind.{ArrayKind}
use Rattle.sial_syntax.specs.declared.array.ArrayKind.TheVariants.{Static, Temp, Local, Distributed, Served}
use Rattle.sial_syntax.specs.declared.classes.ScalarClass.{ScalarClass}
use Rattle.sial_syntax.specs.declared.classes.ScalarClass.TheVariants.{Replicated, Private, Partial}
use Rattle.sial_syntax.specs.declared.classes.Side.{Side}
use Rattle.sial_syntax.specs.declared.classes.Side.TheVariants.{Outer, Inner, Unused}
use Rattle.sial_syntax.specs.declared.operand.BlockRef.{BlockRef}
use Rattle.sial_meaning.specs.Sight.{Sight}
use Rattle.sial_meaning.specs.Setting.{Setting, Given, scalar_class, side_of, dims_of, array_kind, block_count, zeros}

-- the one block that a temp holds: the segment and, for a subindex, the piece of each dimension, and its elements
pub record Held : Type 0 where
  pub members : List (ℕ × ℕ)
  pub words : List ℕ

-- what one worker holds; lists go by the numbers of indices, scalars and arrays, and those of blocks by box order
pub record Own : Type 0 where
  -- the number of the segment or piece that an index has, 0 where it isn't bound
  pub values : List ℕ
  -- a number or unset; partial scalars stand elsewhere
  pub scalars : List (Option ℕ)
  pub statics : List (List (List ℕ))
  pub temps : List (Option Held)
  pub locals : List (List (Option (List ℕ)))
  pub created : List Bool

-- the number that an index has
abbrev pub value_of : Own → ℕ → ℕ
value_of own index = slice_index_or own.values index 0

-- an index bound to a number; 0 binds it no longer
abbrev pub bound : ℕ → ℕ → Own → Own
bound index number own = record own { values = slice_set own.values index number }

-- several indices bound to the members of a tuple
abbrev pub all_bound : List ℕ → List ℕ → Own → Own
all_bound [] tuple own = own
all_bound (i ∷ is) [] own = own
all_bound (i ∷ is) (n ∷ ns) own = all_bound is ns (bound i n own)

-- the index numbers of another state
abbrev pub with_values : List ℕ → Own → Own
with_values values own = record own { values = values }

-- no index bound
abbrev pub none_bound : Own → Own
none_bound own = record own { values = replicate (length own.values) 0 }

-- one entry for each of so many things
abbrev pub for_each : {X : Type 0} → ℕ → (ℕ → X) → List X
for_each n f = map f (numbers_from 0 n)

-- a private scalar has no number any longer
abbrev pub unset_if_private : ScalarClass → Option ℕ → Option ℕ
unset_if_private Replicated held = held
unset_if_private Private held = None
unset_if_private Partial held = held

-- a local array used inside pardos has no block any longer
abbrev pub unset_if_inner : Side → List (Option (List ℕ)) → List (Option (List ℕ))
unset_if_inner Outer blocks = blocks
unset_if_inner Inner blocks = map (λ block. None) blocks
unset_if_inner Unused blocks = blocks

-- temps, private scalars and the local arrays used inside pardos, all unset
abbrev pub unset : Setting → Own → Own
unset g own = record own {
  scalars = for_each (length own.scalars) (λ s. unset_if_private (scalar_class g s) (slice_index_or own.scalars s None));
  temps = map (λ held. None) own.temps;
  locals = for_each (length own.locals) (λ a. unset_if_inner (side_of g a) (slice_index_or own.locals a []));
}

-- the member of a temp's tuple that an index names: its segment, or the segment that it cuts and its piece
abbrev pub member_of : Own → ℕ → Span → ℕ × ℕ
member_of own index (Segments kind first count) = (value_of own index, 0)
member_of own index (Pieces super) = (value_of own super, value_of own index)

-- the tuple of a temp's block
abbrev pub members_of : Setting → Own → List ℕ → List (ℕ × ℕ)
members_of g own at = map (λ i. member_of own i (span_of g.spaces i)) at

-- whether two tuples of a temp are the same
abbrev pub same_members : List (ℕ × ℕ) → List (ℕ × ℕ) → Bool
same_members [] [] = true
same_members [] (b ∷ bs) = false
same_members (a ∷ as') [] = false
same_members (a ∷ as') (b ∷ bs) = a.0 == b.0 && (a.1 == b.1 && same_members as' bs)

-- the number of a named block within its array
abbrev pub number_of : Setting → Own → BlockRef → ℕ
number_of g own block = rank_of g.spaces (dims_of g block.array) (map (value_of own) block.at)

-- a named block with these elements
abbrev pub sight : Setting → Own → BlockRef → List ℕ → Sight
sight g own block words = record { at = block.at; extents = map (extent g.spaces own.values) block.at; words = words }

-- a block of a static array
abbrev pub static_block : Own → (array number : ℕ) → List ℕ
static_block own array number = slice_index_or (slice_index_or own.statics array []) number []

-- a block of a static array replaced
abbrev pub with_static : (array number : ℕ) → List ℕ → Own → Own
with_static array number words own = record own { statics = slice_set own.statics array (slice_set (slice_index_or own.statics array []) number words) }

-- the block that a temp holds
abbrev pub temp_of : Own → ℕ → Option Held
temp_of own array = slice_index_or own.temps array None

-- a temp that holds this block
abbrev pub with_temp : (array : ℕ) → Held → Own → Own
with_temp array held own = record own { temps = slice_set own.temps array (Some held) }

-- a block of a local array, none where it isn't allocated
abbrev pub local_block : Own → (array number : ℕ) → Option (List ℕ)
local_block own array number = slice_index_or (slice_index_or own.locals array []) number None

-- a block of a local array, allocated with these elements or taken away
abbrev pub with_local : (array number : ℕ) → Option (List ℕ) → Own → Own
with_local array number words own = record own { locals = slice_set own.locals array (slice_set (slice_index_or own.locals array []) number words) }

-- the number of a scalar that isn't partial
abbrev pub scalar_of : Own → ℕ → Option ℕ
scalar_of own scalar = slice_index_or own.scalars scalar None

-- a scalar set
abbrev pub with_scalar : (scalar number : ℕ) → Own → Own
with_scalar scalar number own = record own { scalars = slice_set own.scalars scalar (Some number) }

-- whether a distributed array is created
abbrev pub is_created : Own → ℕ → Bool
is_created own array = slice_index_or own.created array false

-- a created flag changed
abbrev pub with_created : ℕ → Bool → Own → Own
with_created array flag own = record own { created = slice_set own.created array flag }

-- the block that the input gives, or zeros
abbrev pub given_or : Option Given → List ℕ → List ℕ
given_or None zeros = zeros
given_or (Some given) zeros = given.words

-- a block of an array as the program begins: the input's, or zeros
abbrev pub start_block : Setting → (array number : ℕ) → List ℕ
start_block g array number = given_or (find (λ b. (b.array == array) && (b.number == number)) g.blocks) (zeros g array number)

-- the blocks of a static array as the program begins; other arrays have none here
abbrev pub start_statics : Setting → ℕ → ArrayKind → List (List ℕ)
start_statics g array Static = for_each (block_count g array) (start_block g array)
start_statics g array Temp = []
start_statics g array Local = []
start_statics g array Distributed = []
start_statics g array Served = []

-- the places of a local array's blocks, none allocated; other arrays have none here
abbrev pub start_locals : Setting → ℕ → ArrayKind → List (Option (List ℕ))
start_locals g array Static = []
start_locals g array Temp = []
start_locals g array Local = replicate (block_count g array) None
start_locals g array Distributed = []
start_locals g array Served = []

-- a scalar as the program begins: replicated ones have a number
abbrev pub start_scalar : ScalarClass → ℕ → Option ℕ
start_scalar Replicated number = Some number
start_scalar Private number = None
start_scalar Partial number = None

-- what a worker holds as the program begins
abbrev pub start_own : Setting → Own
start_own g = record {
  values = replicate (length g.program.indices) 0;
  scalars = for_each (length g.program.scalars) (λ s. start_scalar (scalar_class g s) (slice_index_or g.numbers s 0));
  statics = for_each (length g.program.arrays) (λ a. start_statics g a (array_kind g a));
  temps = replicate (length g.program.arrays) None;
  locals = for_each (length g.program.arrays) (λ a. start_locals g a (array_kind g a));
  created = replicate (length g.program.arrays) false;
}
