-- Worked program: a range by two constants, and an empty one.
--
--     1  sial named
--     2  aoindex m = two, nao
--     3  aoindex n = nao, 2
--     4  static a(m)
--     5  scalar s
--     6  do m
--     7  execute compute_integrals a(m)
--     8  s = a(m) * a(m)
--     9  execute print_scalar s
--    10  enddo m
--    11  do n
--    12  execute print_scalar s
--    13  enddo n
--    14  endsial named
--
-- Its input:
--        const nao = 3
--        const two = 2
--        segments ao 2 1 2
use Rattle.std.specs.Prelude.{ℕ, [], ◌∷◌, codes, Some, None}
use Rattle.sial_syntax.specs.declared.array.ArrayKind.TheVariants as array
use Rattle.sial_syntax.specs.declared.classes.ScalarClass.TheVariants as scalar
use Rattle.sial_syntax.specs.declared.classes.Side.TheVariants as side
use Rattle.sial_syntax.specs.declared.index.Bound.TheVariants as bound
use Rattle.sial_syntax.specs.declared.index.Kind.TheVariants as kind
use Rattle.sial_syntax.specs.declared.index.Range.TheVariants as range
use Rattle.sial_syntax.specs.declared.operand.Bin.TheVariants as bin
use Rattle.sial_syntax.specs.declared.operand.BlockRef.{BlockRef}
use Rattle.sial_syntax.specs.declared.operand.Op.TheVariants as op
use Rattle.sial_syntax.specs.declared.operand.Operand.TheVariants as operand
use Rattle.sial_syntax.specs.declared.operand.Right.TheVariants.{Two}
use Rattle.sial_syntax.specs.declared.operand.Target.TheVariants as target
use Rattle.sial_syntax.specs.Spaces.{Segments}
use Rattle.sial_syntax.specs.Tree.{Tree, End, Then, Do, Assign, PrintScalar, Integrals}
use Rattle.sial_meaning.specs.Setting.{Setting}
use Rattle.sial_worked.specs.Runs.{Final, Run, empty, spaces_of}
use Rattle.sial_syntax.specs.Resolved.{Constants}

-- its tree
abbrev pub named_program : Tree
named_program =
    let m : ℕ = 0 in
    let n : ℕ = 1 in
    let a : ℕ = 0 in
    let s : ℕ = 0 in
    let a_m : BlockRef = record { array = a; at = m ∷ [] } in
    record {
      name = codes "named";
      indices =
          record { name = codes "m"; line = 2; range = range.Segments kind.Ao (bound.Named (codes "two")) (bound.Named (codes "nao")) } ∷
          record { name = codes "n"; line = 3; range = range.Segments kind.Ao (bound.Named (codes "nao")) (bound.Number 2) } ∷
          [];
      arrays = record { name = codes "a"; line = 4; kind = array.Static; dims = m ∷ [] } ∷ [];
      scalars = codes "s" ∷ [];
      procedures = [];
      body =
          Then 6 (Do m (
          Then 7 (Integrals a_m) (
          Then 8 (Assign (target.Scalar s) op.Set (Two (operand.Block a_m) bin.Times (operand.Block a_m))) (
          Then 9 (PrintScalar s) End)))) (
          Then 11 (Do n (
          Then 12 (PrintScalar s) End)) End);
    }

-- with its classes and its input
abbrev pub named : Setting
named = record {
  program = named_program;
  scalars = scalar.Replicated ∷ [];
  sides = side.Unused ∷ [];
  spaces = spaces_of (2 ∷ 1 ∷ 2 ∷ []) [] (Segments kind.Ao 2 2 ∷ Segments kind.Ao 1 0 ∷ []);
  numbers = 0 ∷ [];
  blocks = [];
}

-- its constants
abbrev pub named_constants : Constants
named_constants = (codes "nao", 3) ∷ (codes "two", 2) ∷ []

-- where it ends
abbrev pub named_final : Final
named_final = record empty {
  scalars = Some 41 ∷ [];
  partials = 0 ∷ [];
  statics = ((3 ∷ []) ∷ (4 ∷ 5 ∷ []) ∷ []) ∷ [];
  lines = codes "s 9" ∷ codes "s 41" ∷ [];
}

-- how it runs
abbrev pub NamedRuns : Type 0
NamedRuns = Run named named_final None
