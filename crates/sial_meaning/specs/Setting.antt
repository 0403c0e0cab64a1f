-- A program with its classes, its spaces and its start values: all that a meaning depends on.
use Rattle.std.specs.Prelude.{ℕ, List, [], slice_index_or, replicate, Option, Some, None}
use Rattle.sial_syntax.specs.declared.array.ArrayDecl.{ArrayDecl}
use Rattle.sial_syntax.specs.declared.array.ArrayKind.{ArrayKind}
use Rattle.sial_syntax.specs.declared.array.ArrayKind.TheVariants.{Static, Temp, Local, Distributed, Served}
use Rattle.sial_syntax.specs.declared.access.Class.{Class}
use Rattle.sial_syntax.specs.declared.access.Class.TheVariants as class
use Rattle.sial_syntax.specs.declared.classes.ScalarClass.{ScalarClass}
use Rattle.sial_syntax.specs.declared.classes.ScalarClass.TheVariants.{Replicated}
use Rattle.sial_syntax.specs.declared.classes.Side.{Side}
use Rattle.sial_syntax.specs.declared.classes.Side.TheVariants.{Unused}
use Rattle.sial_syntax.specs.Tree.{Tree, Block, End}
use Rattle.sial_syntax.specs.Spaces.{Spaces, blocks_of, first_block, words_in, numbers_at}

-- a block that the input gives: its array, its number within the array, and its elements
pub record Given : Type 0 where
  pub array : ℕ
  pub number : ℕ
  pub words : List ℕ

-- a program with its classes, one for each scalar and one side for each array, its spaces and the input's start values
pub record Setting : Type 0 where
  pub program : Tree
  pub scalars : List ScalarClass
  pub sides : List Side
  pub spaces : Spaces
  pub numbers : List ℕ
  pub blocks : List Given

-- what stands for an array that isn't declared
abbrev pub no_array : ArrayDecl
no_array = record { name = []; line = 0; kind = Temp; dims = [] }

-- an array of a program
abbrev pub array_of : Setting → ℕ → ArrayDecl
array_of g array = slice_index_or g.program.arrays array no_array

-- the kind of an array
abbrev pub array_kind : Setting → ℕ → ArrayKind
array_kind g array = (array_of g array).kind

-- the declared indices of an array
abbrev pub dims_of : Setting → ℕ → List ℕ
dims_of g array = (array_of g array).dims

-- the class of a scalar
abbrev pub scalar_class : Setting → ℕ → ScalarClass
scalar_class g scalar = slice_index_or g.scalars scalar Replicated

-- the side of an array
abbrev pub side_of : Setting → ℕ → Side
side_of g array = slice_index_or g.sides array Unused

-- the name of a scalar
abbrev pub scalar_name : Setting → ℕ → List ℕ
scalar_name g scalar = slice_index_or g.program.scalars scalar []

-- a procedure's statements
abbrev pub procedure_body : Setting → ℕ → Block
procedure_body g procedure = (slice_index_or g.program.procedures procedure (record { name = []; body = End })).body

-- how many blocks an array has
abbrev pub block_count : Setting → ℕ → ℕ
block_count g array = blocks_of g.spaces (array_of g array)

-- how many elements a block has
abbrev pub block_words : Setting → (array number : ℕ) → ℕ
block_words g array number = words_in g.spaces (dims_of g array) (numbers_at g.spaces (dims_of g array) number)

-- the number of an array's first block among the blocks of its class
abbrev pub first_of_class : Setting → ℕ → ℕ
first_of_class g array = first_block g.spaces g.program.arrays array (array_kind g array)

-- the class of a shared array's kind
abbrev pub class_of_kind : ArrayKind → Option Class
class_of_kind Static = None
class_of_kind Temp = None
class_of_kind Local = None
class_of_kind Distributed = Some class.Distributed
class_of_kind Served = Some class.Served

-- the class of a shared array, none where it isn't shared
abbrev pub class_of : Setting → ℕ → Option Class
class_of g array = class_of_kind (array_kind g array)

-- zeros for one block of an array
abbrev pub zeros : Setting → (array number : ℕ) → List ℕ
zeros g array number = replicate (block_words g array number) 0
