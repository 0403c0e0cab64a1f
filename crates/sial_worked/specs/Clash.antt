-- Worked program: two stores into one block in one epoch, or two adds, or two maxes.
--
--     1  sial clash
--     2  index i = 1, 2
--     3  index j = 1, 1
--     4  temp t(j)
--     5  distributed d(j)
--     6  create d
--     7  pardo i
--     8  do j
--     9  t(j) = 1
--    10  put d(j) = t(j)
--    11  enddo j
--    12  endpardo i
--    13  endsial clash
--
-- Its input is empty.
use Rattle.std.specs.Prelude.{◌≡◌, ℕ, [], ◌∷◌, codes, Some, None}
use Rattle.sial_syntax.specs.declared.access.Access.TheVariants as access
use Rattle.sial_syntax.specs.declared.access.Access.{Access}
use Rattle.sial_syntax.specs.declared.access.Class.TheVariants as class
use Rattle.sial_syntax.specs.declared.array.ArrayKind.TheVariants as array
use Rattle.sial_syntax.specs.declared.classes.Side.TheVariants as side
use Rattle.sial_syntax.specs.declared.index.Bound.TheVariants as bound
use Rattle.sial_syntax.specs.declared.index.Kind.TheVariants as kind
use Rattle.sial_syntax.specs.declared.index.Range.TheVariants as range
use Rattle.sial_syntax.specs.declared.operand.BlockRef.{BlockRef}
use Rattle.sial_syntax.specs.declared.operand.Op.TheVariants as op
use Rattle.sial_syntax.specs.declared.operand.Operand.TheVariants as operand
use Rattle.sial_syntax.specs.declared.operand.Right.TheVariants.{One}
use Rattle.sial_syntax.specs.declared.operand.Target.TheVariants as target
use Rattle.sial_syntax.specs.Spaces.{Segments}
use Rattle.sial_syntax.specs.Tree.{Tree, End, Then, Do, Pardo, Assign, Put, Create}
use Rattle.sial_meaning.specs.Accepted.{Clashed, first_refusal, refusal_of}
use Rattle.sial_meaning.specs.Course.{course}
use Rattle.sial_meaning.specs.Meaning.{by_epochs}
use Rattle.sial_meaning.specs.Rest.{Over}
use Rattle.sial_meaning.specs.Setting.{Setting}
use Rattle.sial_worked.specs.Runs.{Final, Run, empty, final_of, final_state, spaces_of}

-- its tree, with this way to put in line 10
abbrev pub clash_program : Access → Tree
clash_program how =
    let i : ℕ = 0 in
    let j : ℕ = 1 in
    let t : ℕ = 0 in
    let d : ℕ = 1 in
    let t_j : BlockRef = record { array = t; at = j ∷ [] } in
    let d_j : BlockRef = record { array = d; at = j ∷ [] } in
    record {
      name = codes "clash";
      indices =
          record { name = codes "i"; line = 2; range = range.Segments kind.Index (bound.Number 1) (bound.Number 2) } ∷
          record { name = codes "j"; line = 3; range = range.Segments kind.Index (bound.Number 1) (bound.Number 1) } ∷
          [];
      arrays =
          record { name = codes "t"; line = 4; kind = array.Temp; dims = j ∷ [] } ∷
          record { name = codes "d"; line = 5; kind = array.Distributed; dims = j ∷ [] } ∷
          [];
      scalars = [];
      procedures = [];
      body =
          Then 6 (Create d) (
          Then 7 (Pardo (i ∷ []) [] (
          Then 8 (Do j (
          Then 9 (Assign (target.Block t_j) op.Set (One (operand.Number 1))) (
          Then 10 (Put d_j how t_j) End))) End)) End);
    }

-- with its classes and its input
abbrev pub clash : Setting
clash = record {
  program = clash_program access.Store;
  scalars = [];
  sides = side.Unused ∷ side.Unused ∷ [];
  spaces = spaces_of [] [] (Segments kind.Index 1 2 ∷ Segments kind.Index 1 1 ∷ []);
  numbers = [];
  blocks = [];
}

-- where it ends
abbrev pub clash_final : Final
clash_final = record empty {
  statics = [] ∷ [] ∷ [];
  distributed = (1 ∷ []) ∷ [];
  epochs = record { distributed = 2; served = 1 };
  accesses = 2;
}

-- how it runs
abbrev pub ClashRuns : Type 0
ClashRuns =
    Run clash clash_final (Some (Clashed (record {
      class = class.Distributed;
      block = 0;
      epoch = 2;
      clash = record { later = access.Store; later_line = 10; earlier = access.Store; earlier_line = 10 };
    })))

-- the same with `put d(j) += t(j)` in line 10
abbrev pub clash_add : Setting
clash_add = record clash { program = clash_program access.Add }

-- where it ends
abbrev pub clash_add_final : Final
clash_add_final = record clash_final { distributed = (2 ∷ []) ∷ [] }

-- how it runs
abbrev pub ClashAddRuns : Type 0
ClashAddRuns = Run clash_add clash_add_final None

-- the same with `put d(j) max= t(j)` in line 10
abbrev pub clash_max : Setting
clash_max = record clash { program = clash_program access.Max }

-- where it ends
abbrev pub clash_max_final : Final
clash_max_final = clash_final

-- how it runs
abbrev pub ClashMaxRuns : Type 0
ClashMaxRuns = Run clash_max clash_max_final None

-- the epoch meaning and its course end there too: the course in two steps, the second of them the pardo
pub record ClashByEpochs : Type 0 where
  pub ends : final_of (by_epochs clash) ≡ clash_final
  pub refused : refusal_of (by_epochs clash) ≡ first_refusal clash
  pub created : final_state (course clash 1).work.state ≡ record clash_final { distributed = (0 ∷ []) ∷ []; accesses = 0 }
  pub pardo : final_state (course clash 2).work.state ≡ clash_final
  pub over : (course clash 2).work.rest ≡ Over 7
  pub traps : (course clash 2).traps ≡ []
