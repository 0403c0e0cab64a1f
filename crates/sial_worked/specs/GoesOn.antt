-- Worked program: a trap inside a pardo, behind which other iterations and other statements follow.
--
--     1  sial goes_on
--     2  index i = 1, 3
--     3  temp t(i)
--     4  distributed d(i)
--     5  create d
--     6  pardo i
--     7  if i != 2
--     8  t(i) = 7
--     9  endif
--    10  put d(i) = t(i)
--    11  endpardo i
--    12  print "after"
--    13  endsial goes_on
--
-- Its input is empty.
use Rattle.std.specs.Prelude.{◌≡◌, ℕ, [], ◌∷◌, codes, Some}
use Rattle.sial_syntax.specs.declared.access.Access.TheVariants as access
use Rattle.sial_syntax.specs.declared.array.ArrayKind.TheVariants as array
use Rattle.sial_syntax.specs.declared.classes.Side.TheVariants as side
use Rattle.sial_syntax.specs.declared.condition.Test.TheVariants as test
use Rattle.sial_syntax.specs.declared.condition.Value.TheVariants as value
use Rattle.sial_syntax.specs.declared.index.Bound.TheVariants as bound
use Rattle.sial_syntax.specs.declared.index.Kind.TheVariants as kind
use Rattle.sial_syntax.specs.declared.index.Range.TheVariants as range
use Rattle.sial_syntax.specs.declared.operand.BlockRef.{BlockRef}
use Rattle.sial_syntax.specs.declared.operand.Op.TheVariants as op
use Rattle.sial_syntax.specs.declared.operand.Operand.TheVariants as operand
use Rattle.sial_syntax.specs.declared.operand.Right.TheVariants.{One}
use Rattle.sial_syntax.specs.declared.operand.Target.TheVariants as target
use Rattle.sial_syntax.specs.Spaces.{Segments}
use Rattle.sial_syntax.specs.Tree.{Tree, End, Then, Pardo, If, Assign, Put, Create, Print}
use Rattle.sial_meaning.specs.declared.trap.TrapKind.TheVariants as trap
use Rattle.sial_meaning.specs.Accepted.{Trapped}
use Rattle.sial_meaning.specs.Setting.{Setting}
use Rattle.sial_worked.specs.Runs.{Final, Run, empty, spaces_of}
use Rattle.sial_meaning.specs.Course.{course}
use Rattle.sial_meaning.specs.Meaning.{by_epochs, sequential}
use Rattle.sial_meaning.specs.Rest.{Over}
use Rattle.sial_worked.specs.Runs.{final_state}

-- its tree
abbrev pub goes_on_program : Tree
goes_on_program =
    let i : ℕ = 0 in
    let t : ℕ = 0 in
    let d : ℕ = 1 in
    let t_i : BlockRef = record { array = t; at = i ∷ [] } in
    let d_i : BlockRef = record { array = d; at = i ∷ [] } in
    record {
      name = codes "goes_on";
      indices = record { name = codes "i"; line = 2; range = range.Segments kind.Index (bound.Number 1) (bound.Number 3) } ∷ [];
      arrays =
          record { name = codes "t"; line = 3; kind = array.Temp; dims = i ∷ [] } ∷
          record { name = codes "d"; line = 4; kind = array.Distributed; dims = i ∷ [] } ∷
          [];
      scalars = [];
      procedures = [];
      body =
          Then 5 (Create d) (
          Then 6 (Pardo (i ∷ []) [] (
          Then 7 (If (record { left = value.Index i; test = test.NotEqual; right = value.Number 2 }) (
          Then 8 (Assign (target.Block t_i) op.Set (One (operand.Number 7))) End)) (
          Then 10 (Put d_i access.Store t_i) End))) (
          Then 12 (Print (codes "after")) End));
    }

-- with its classes and its input
abbrev pub goes_on : Setting
goes_on = record {
  program = goes_on_program;
  scalars = [];
  sides = side.Unused ∷ side.Unused ∷ [];
  spaces = spaces_of [] [] (Segments kind.Index 1 3 ∷ []);
  numbers = [];
  blocks = [];
}

-- where it ends
abbrev pub goes_on_final : Final
goes_on_final = record empty {
  statics = [] ∷ [] ∷ [];
  distributed = (7 ∷ []) ∷ (0 ∷ []) ∷ (0 ∷ []) ∷ [];
  epochs = record { distributed = 2; served = 1 };
  accesses = 1;
}

-- how it runs
abbrev pub GoesOnRuns : Type 0
GoesOnRuns = Run goes_on goes_on_final (Some (Trapped record { kind = trap.UnsetBlock; line = 10 }))

-- its course: the trap ends one iteration, the others go on, and so does what follows the pardo
pub record GoesOnCourse : Type 0 where
  pub created : final_state (course goes_on 1).work.state
      ≡ record goes_on_final { distributed = (0 ∷ []) ∷ (0 ∷ []) ∷ (0 ∷ []) ∷ []; accesses = 0 }
  pub pardo : final_state (course goes_on 2).work.state
      ≡ record goes_on_final { distributed = (7 ∷ []) ∷ (0 ∷ []) ∷ (7 ∷ []) ∷ []; accesses = 2 }
  pub traps : (course goes_on 2).traps ≡ record { kind = trap.UnsetBlock; line = 10 } ∷ []
  pub printed : (course goes_on 3).work.state.lines ≡ codes "after" ∷ []
  pub over : (course goes_on 3).work.rest ≡ Over 8
  pub stays : course goes_on 4 ≡ course goes_on 3
  pub fold : by_epochs goes_on ≡ sequential goes_on
