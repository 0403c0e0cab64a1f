use Rattle.std.proofs.Common.{◌≡◌, ◌<◌, ℕ, [], ◌∙◌, arith, get_or, length-set}
use Rattle.kernel_contract.specs.Panels.{loaded}
use Rattle.kernel_contract.proofs.Steps.{front_step}
use Rattle.kernel_contract.proofs.panel.pack.Goals as goal

pub loop-k-preserved : goal.loop-k-preserved
loop-k-preserved c = record {
  len = length-set _ _ _ ∙ c.loop-k.invariant.len;
  done = λ k i low lane.
      front_step (λ position row. (lane : ℕ) → lane < 4 → get_or row lane 0 ≡ loaded c.args.from.now c.args.lanes.now c.args.positions.now position lane)
      c.loop-k.panel [] c.packed_row.result c.loop-k.k (omega arith)
      (λ position before lane few. c.loop-k.invariant.done position lane before few) c.packed_row.ensures k low i lane;
}
