-- Instructions of a sound program, where their statements break no rule and their indices have numbers in their ranges: what the calls of this crate require.
use Rattle.std.proofs.Common.{◌≡◌, ℕ, ◌^◌, ◌<◌, Bool, false, ◌&&◌, ◌||◌, nat_le, List, length, Some, Ok, refl}
use Rattle.std.specs.Prelude.{slice_get}
use Rattle.std.specs.List.{list_all}
use Rattle.std.proofs.lemmas.Bool.{leb-true}
use Rattle.sial_syntax.specs.declared.operand.BlockRef.{BlockRef}
use Rattle.sial_syntax.specs.declared.operand.Op.{Op}
use Rattle.sial_syntax.specs.declared.operand.Right.{Right}
use Rattle.sial_syntax.specs.declared.operand.Target.TheVariants as target
use Rattle.sial_syntax.specs.Agreeing.{has_twice}
use Rattle.sial_syntax.specs.Limits.{most_rank}
use Rattle.sial_syntax.specs.Proper.{has_array, has_index, has_length}
use Rattle.sial_syntax.specs.Tree.{Assign, Integrals}
use Rattle.sip_tables.specs.declared.instruction.Operation.TheVariants as op
use Rattle.sip_tables.specs.Code.{instruction}
use Rattle.sip_tables.specs.Flatten.{flatten}
use Rattle.sial_meaning.specs.LocalStep.{shared_in, side_read}
use Rattle.sial_meaning.specs.Own.{Own, sight}
use Rattle.sial_meaning.specs.Right.{Side}
use Rattle.sial_meaning.specs.Setting.{Setting}
use Rattle.sial_meaning.specs.Sound.{IsSound}
use Rattle.sial_meaning.specs.WholeStates.{OwnIsWhole}
use Rattle.sial_meaning.proofs.AcceptedInOtherWords.Pairs.{first-holds, second-holds}
use Rattle.sial_meaning.proofs.Granted.Ranges.{InRange}
use Rattle.sial_meaning.proofs.Granted.Visits.{Good}
use Rattle.sial_meaning.proofs.StepsReachTheFold.Rules.{neither}
use Rattle.exec_sides.specs.Fits.{Fits, FitsNumber, IsNamed}
use Rattle.exec_sides.specs.Short.{AreLong, IsShort, volume_now}
use Rattle.exec_sides.proofs.GrantedSides.{assignments-fit, numbers-fit}
use Rattle.exec_sides.proofs.Once.{instructions_once}

module _ (g : Setting) (own : Own) (at line : ℕ) (bound : List ℕ) (within : Bool) (sound : IsSound g) (in-range : InRange g bound own.values) (whole : OwnIsWhole g own) where
  -- an assignment to a block, with the right side that was read and the numbers of the target, as many as it has positions
  pub assigns-block : (to : BlockRef) (o : Op) (right : Right) (values : List (List ℕ)) (side : Side) (old : List ℕ)
      → slice_get (flatten g.program).code at ≡ Some (instruction line (op.Assign (target.Block to) o right))
      → Good g (record { line = line; form = Assign (target.Block to) o right; bound = bound; within = within })
      → AreLong g.spaces own.values (shared_in g right) values → side_read g own right values ≡ Ok side → IsShort side
      → length old ≡ volume_now g.spaces own.values to.at → length old < 2 ^ 32
      → Fits g.spaces own.values o (sight g own to old) side
  assigns-block to o right values side old there good long read short many few =
      assignments-fit g own line bound within to o right values side old sound in-range whole good
      (instructions_once g.program at (instruction line (op.Assign (target.Block to) o right)) sound.setting.granted there) long read short many few

  -- one to a scalar
  pub assigns-scalar : (s : ℕ) (o : Op) (right : Right) (values : List (List ℕ)) (side : Side)
      → slice_get (flatten g.program).code at ≡ Some (instruction line (op.Assign (target.Scalar s) o right))
      → Good g (record { line = line; form = Assign (target.Scalar s) o right; bound = bound; within = within })
      → AreLong g.spaces own.values (shared_in g right) values → side_read g own right values ≡ Ok side → IsShort side
      → FitsNumber g.spaces own.values side
  assigns-scalar s o right values side there good long read short =
      numbers-fit g own line bound within s o right values side sound in-range whole good
      (instructions_once g.program at (instruction line (op.Assign (target.Scalar s) o right)) sound.setting.granted there) long read short

-- a block of integrals
pub integrates : (g : Setting) (own : Own) (at line : ℕ) (bound : List ℕ) (within : Bool) (b : BlockRef) (old : List ℕ) → IsSound g
    → slice_get (flatten g.program).code at ≡ Some (instruction line (op.Integrals b))
    → Good g (record { line = line; form = Integrals b; bound = bound; within = within })
    → length old ≡ volume_now g.spaces own.values b.at → length old < 2 ^ 32
    → IsNamed g.spaces own.values (sight g own b old)
integrates g own at line bound within b old sound there good many few =
    let once = instructions_once g.program at (instruction line (op.Integrals b)) sound.setting.granted there in
    let rank = first-holds (has_length most_rank b.at) (list_all (has_index g.program) b.at) (second-holds (has_array g.program b.array) (has_length most_rank b.at && list_all (has_index g.program) b.at) good.proper) in
    record {
      once = (neither (has_twice b.at) false (neither (has_twice b.at || false) false once).0).0;
      some = leb-true 1 (length b.at) (first-holds (nat_le 1 (length b.at)) (nat_le (length b.at) most_rank) rank);
      most = leb-true (length b.at) most_rank (second-holds (nat_le 1 (length b.at)) (nat_le (length b.at) most_rank) rank);
      extents = refl;
      words = many;
      few = few;
    }
