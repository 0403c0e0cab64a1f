-- What contracts see of a worker's own blocks, and where each of them stands.
use Rattle.std.specs.Prelude.{ℕ, ◌+◌, List}
use Rattle.sial_syntax.specs.declared.array.ArrayKind.{ArrayKind}
use Rattle.sial_syntax.specs.declared.array.ArrayKind.TheVariants.{Static, Temp, Local, Distributed, Served}
use Rattle.sial_syntax.specs.declared.operand.BlockRef.{BlockRef}
use Rattle.sial_syntax.specs.Spaces.{rank_of}
use Rattle.sial_meaning.specs.Setting.{Setting, array_kind, dims_of, first_of_class}
use Rattle.block_seats.specs.Seated.{Seated}
use Rattle.exec_names.specs.Naming.{numbers_of}

-- blocks by place: first those of static arrays, then those of local ones, then one for each array, a temp's;
-- for each array the tuple of the block that a temp holds; where the blocks of local arrays and those of temps begin
pub record Kept : Type 0 where
  pub seats : Seated
  pub tuples : List (List (ℕ × ℕ))
  pub locals_at : ℕ
  pub temps_at : ℕ

-- the place of a block of an array of this kind, by its number; shared blocks have none here
abbrev pub place_by : Setting → Kept → (array number : ℕ) → ArrayKind → ℕ
place_by g b array number Static = first_of_class g array + number
place_by g b array number Temp = b.temps_at + array
place_by g b array number Local = b.locals_at + (first_of_class g array + number)
place_by g b array number Distributed = 0
place_by g b array number Served = 0

-- the place of a named block
abbrev pub place_of : Setting → Kept → (values : List ℕ) → BlockRef → ℕ
place_of g b values block = place_by g b block.array (rank_of g.spaces (dims_of g block.array) (numbers_of values block.at)) (array_kind g block.array)
