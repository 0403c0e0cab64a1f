use Rattle.std.proofs.Common.{arith, length-set, [], ◌∙◌}
use Rattle.kernel_contract.proofs.Products.{Multiplied-row}
use Rattle.kernel_contract.proofs.Steps.{back_step}
use Rattle.kernel_contract.proofs.tiles.tile.Goals as goal

pub loop-i-preserved : goal.loop-i-preserved
loop-i-preserved g c = record {
  len = length-set _ _ _ ∙ c.loop-i.invariant.len;
  done = Multiplied-row _ _ _ _ _ _ _ _ (omega arith) c.loop-i.invariant.done
      (c.loop-i.invariant.rest c.loop-i.i (omega arith)) c.tile_row.ensures;
  rest = back_step c.loop-i.to c.args.to.now [] c.tile_row.result c.loop-i.i c.loop-i.invariant.rest;
}
