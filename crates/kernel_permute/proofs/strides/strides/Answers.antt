use Rattle.std.proofs.Common.{◌≡◌, ◌∙◌, length-set, ◌-◌, ◌*◌, ◌≤◌, get_or, drop, arith}
use Rattle.kernel_permute.specs.Positions.{product}
use Rattle.kernel_permute.proofs.ProductLemmas.{product-drop, product_turn, strides_turn}
use Rattle.kernel_permute.proofs.strides.strides.Goals as goal

pub overflow_mul-width : goal.overflow_mul-width
overflow_mul-width g c =
    let is : c.loop-k.width * get_or c.args.dims.now (c.loop-k.k - 1) 0 ≡ product (drop (c.loop-k.k - 1) c.args.dims.now) = product_turn c.args.dims.now (c.loop-k.k - 1) c.loop-k.k c.loop-k.width (omega arith) (omega arith) c.loop-k.invariant.width in
    let below : product (drop (c.loop-k.k - 1) c.args.dims.now) ≤ product c.args.dims.now = product-drop c.args.dims.now (c.loop-k.k - 1) c.requires.some in
    omega arith

pub loop-k-preserved : goal.loop-k-preserved
loop-k-preserved g c = record {
  done = strides_turn c.args.dims.now c.loop-k.strides (c.loop-k.k - 1) c.loop-k.k c.loop-k.width (omega arith) (omega arith) c.loop-k.invariant.long c.loop-k.invariant.width c.loop-k.invariant.done;
  width = product_turn c.args.dims.now (c.loop-k.k - 1) c.loop-k.k c.loop-k.width (omega arith) (omega arith) c.loop-k.invariant.width;
  long = length-set c.loop-k.strides (c.loop-k.k - 1) c.loop-k.width ∙ c.loop-k.invariant.long;
}
