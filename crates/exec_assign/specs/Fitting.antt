-- Right sides that fit their targets, in a state in which a worker is.
use Rattle.std.specs.Prelude.{◌≡◌, ℕ, List, length, true, Ok}
use Rattle.block_pool.specs.Memory.{Memory}
use Rattle.sial_syntax.specs.declared.operand.BlockRef.{BlockRef}
use Rattle.sial_syntax.specs.declared.operand.Op.{Op}
use Rattle.sial_syntax.specs.declared.operand.Right.{Right}
use Rattle.sial_meaning.specs.LocalStep.{old_words, side_read}
use Rattle.sial_meaning.specs.Own.{Own}
use Rattle.sial_meaning.specs.ReadBackLaws.{named_block}
use Rattle.sial_meaning.specs.Right.{Side}
use Rattle.sial_meaning.specs.Setting.{Setting, array_kind}
use Rattle.exec_blocks.specs.Kept.{Kept}
use Rattle.exec_blocks.specs.Standing.{BlocksStand}
use Rattle.exec_scalars.specs.Numbers.{Numbers}
use Rattle.exec_sides.specs.Fits.{Fits, FitsNumber}
use Rattle.exec_sides.specs.Short.{volume_now}
use Rattle.exec_assign.specs.declared.leases.Leases.{Leases}
use Rattle.exec_assign.specs.Lent.{side_values}
use Rattle.exec_assign.specs.Standing.{OwnStands}

-- a worker is in a state in which a right side, if it is read, fits a scalar
pub record NumberFits (g : Setting) (p : Memory) (n : Numbers) (b : Kept) (values : List ℕ) (leases : Leases) (right : Right) : Type 0 where
  pub own : Own
  pub partials : List ℕ
  pub stands : OwnStands g p n b values own partials
  pub fits : (side : Side) → side_read g own right (side_values g p values leases right) ≡ Ok side → FitsNumber g.spaces values side

-- a right side that was read fits a block, whose old elements, if they are needed, are as many as it has positions
pub record SideFits (g : Setting) (p : Memory) (b : Kept) (values : List ℕ) (to : BlockRef) (op : Op) (side : Side) : Type 0 where
  pub own : Own
  pub indices : own.values ≡ values
  pub blocks : BlocksStand g p b own
  pub fits : (words : List ℕ) → length words ≡ volume_now g.spaces values to.at → Fits g.spaces values op (named_block g.spaces values to.at words) side
  pub long : (words : List ℕ) → old_words g own to true (array_kind g to.array) ≡ Ok words → length words ≡ volume_now g.spaces values to.at

-- a worker is in a state in which a right side, if it is read, fits a block
pub record BlockFits (g : Setting) (p : Memory) (n : Numbers) (b : Kept) (values : List ℕ) (leases : Leases) (to : BlockRef) (op : Op) (right : Right) : Type 0 where
  pub own : Own
  pub partials : List ℕ
  pub stands : OwnStands g p n b values own partials
  pub fits : (side : Side) (words : List ℕ) → side_read g own right (side_values g p values leases right) ≡ Ok side → length words ≡ volume_now g.spaces values to.at
      → Fits g.spaces values op (named_block g.spaces values to.at words) side
  pub long : (words : List ℕ) → old_words g own to true (array_kind g to.array) ≡ Ok words → length words ≡ volume_now g.spaces values to.at
