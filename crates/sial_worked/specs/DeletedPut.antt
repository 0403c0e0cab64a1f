-- Worked program: a put into an array that is deleted.
--
--     1  sial late
--     2  index i = 1, 1
--     3  temp t(i)
--     4  distributed d(i)
--     5  create d
--     6  delete d
--     7  pardo i
--     8  put d(i) = t(i)
--     9  endpardo i
--    10  endsial late
--
-- Its input is empty.
use Rattle.std.specs.Prelude.{ℕ, [], ◌∷◌, codes, Some}
use Rattle.sial_syntax.specs.declared.access.Access.TheVariants as access
use Rattle.sial_syntax.specs.declared.array.ArrayKind.TheVariants as array
use Rattle.sial_syntax.specs.declared.classes.Side.TheVariants as side
use Rattle.sial_syntax.specs.declared.index.Bound.TheVariants as bound
use Rattle.sial_syntax.specs.declared.index.Kind.TheVariants as kind
use Rattle.sial_syntax.specs.declared.index.Range.TheVariants as range
use Rattle.sial_syntax.specs.declared.operand.BlockRef.{BlockRef}
use Rattle.sial_syntax.specs.Spaces.{Segments}
use Rattle.sial_syntax.specs.Tree.{Tree, End, Then, Pardo, Put, Create, Delete}
use Rattle.sial_meaning.specs.declared.trap.TrapKind.TheVariants as trap
use Rattle.sial_meaning.specs.Accepted.{Trapped}
use Rattle.sial_meaning.specs.Setting.{Setting}
use Rattle.sial_worked.specs.Runs.{Final, Run, empty, spaces_of}

-- its tree
abbrev pub deleted_put_program : Tree
deleted_put_program =
    let i : ℕ = 0 in
    let t : ℕ = 0 in
    let d : ℕ = 1 in
    let d_i : BlockRef = record { array = d; at = i ∷ [] } in
    let t_i : BlockRef = record { array = t; at = i ∷ [] } in
    record {
      name = codes "late";
      indices = record { name = codes "i"; line = 2; range = range.Segments kind.Index (bound.Number 1) (bound.Number 1) } ∷ [];
      arrays =
          record { name = codes "t"; line = 3; kind = array.Temp; dims = i ∷ [] } ∷
          record { name = codes "d"; line = 4; kind = array.Distributed; dims = i ∷ [] } ∷
          [];
      scalars = [];
      procedures = [];
      body =
          Then 5 (Create d) (
          Then 6 (Delete d) (
          Then 7 (Pardo (i ∷ []) [] (
          Then 8 (Put d_i access.Store t_i) End)) End));
    }

-- with its classes and its input
abbrev pub deleted_put : Setting
deleted_put = record {
  program = deleted_put_program;
  scalars = [];
  sides = side.Unused ∷ side.Unused ∷ [];
  spaces = spaces_of [] [] (Segments kind.Index 1 1 ∷ []);
  numbers = [];
  blocks = [];
}

-- where it ends
abbrev pub deleted_put_final : Final
deleted_put_final = record empty {
  statics = [] ∷ [] ∷ [];
  distributed = [] ∷ [];
  epochs = record { distributed = 3; served = 1 };
}

-- how it runs
abbrev pub DeletedPutRuns : Type 0
DeletedPutRuns = Run deleted_put deleted_put_final (Some (Trapped record { kind = trap.NotCreated; line = 8 }))
