use Rattle.std.proofs.Common.{◌≡◌, ◌*◌, ◌%◌, ◌^◌, ◌∙◌, arith, get_or, length, subst}
use Rattle.kernel_contract.specs.Product.{entry}
use Rattle.kernel_contract.specs.Sum.{sum_to}
use Rattle.kernel_contract.proofs.PanelLemmas.{first-column}
use Rattle.kernel_contract.proofs.panel.column_sums.Goals as goal

pub returns : goal.returns
returns c = λ i h.
    let whole : c.loop-position.position ≡ length c.args.a.now = omega (arith, c.loop-position-test.false, c.loop-position.auto.position-end) in
    first-column c.loop-position.sums i h
    ∙ subst (λ n. get_or c.loop-position.sums i 0 ≡ sum_to n (λ k. entry c.args.a.now k i * entry c.args.b.now k 0) % 2 ^ 64) whole (c.loop-position.invariant i h)
