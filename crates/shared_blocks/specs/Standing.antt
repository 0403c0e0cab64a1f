-- The shared blocks that one worker holds, and those of a state.
use Rattle.std.specs.Prelude.{◌≡◌, ℕ, ◌+◌, ◌<◌, List, [], length, false, slice_index_or}
use Rattle.sial_syntax.specs.declared.access.Class.{Class}
use Rattle.sial_syntax.specs.declared.access.Class.TheVariants as class
use Rattle.sial_syntax.specs.declared.array.ArrayKind.{ArrayKind}
use Rattle.sial_syntax.specs.declared.array.ArrayKind.TheVariants.{Distributed, Served}
use Rattle.sial_syntax.specs.Spaces.{blocks_together}
use Rattle.sial_meaning.specs.Own.{Own}
use Rattle.sial_meaning.specs.Setting.{Setting, array_kind, block_count, block_words, first_of_class}
use Rattle.sial_meaning.specs.State.{Shared, blocks_of_class, shared_block}
use Rattle.sial_meaning.specs.Statement.{is_missing}

-- the kind of the arrays of a class
abbrev pub kind_of_class : Class → ArrayKind
kind_of_class class.Distributed = Distributed
kind_of_class class.Served = Served

-- a block of an array that is there: of a served array, or of a distributed one that is created
pub record IsThere (g : Setting) (own : Own) (class : Class) (array number : ℕ) : Type 0 where
  pub kind : array_kind g array ≡ kind_of_class class
  pub below : number < block_count g array
  pub created : is_missing g own array ≡ false

-- the blocks of all arrays of a kind, each as long as it should be
pub record AreWhole (g : Setting) (kind : ArrayKind) (blocks : List (List ℕ)) : Type 0 where
  pub count : length blocks ≡ blocks_together g.spaces kind g.program.arrays
  pub words : (array number : ℕ) → array_kind g array ≡ kind → number < block_count g array
      → length (slice_index_or blocks (first_of_class g array + number) []) ≡ block_words g array number

-- the blocks that are held stand for those of a state: there are as many, each as long as its array says,
-- and a block of an array that is there has the same words; one of another array may hold any
pub record SharedStand (g : Setting) (held : Shared) (own : Own) (shared : Shared) : Type 0 where
  pub whole : (class : Class) → AreWhole g (kind_of_class class) (blocks_of_class held class)
  pub counts : (class : Class) → length (blocks_of_class shared class) ≡ length (blocks_of_class held class)
  pub words : (class : Class) (array number : ℕ) → IsThere g own class array number
      → shared_block held class (first_of_class g array + number) ≡ shared_block shared class (first_of_class g array + number)
