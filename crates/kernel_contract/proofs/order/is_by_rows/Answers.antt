use Rattle.std.proofs.Common.{◌∙◌, sym}
use Rattle.kernel_contract.proofs.OrderLemmas.{Fits-by_rows}
use Rattle.kernel_contract.proofs.order.is_by_rows.Goals as goal

pub returns-clause-fits : goal.returns-clause-fits
returns-clause-fits c h =
    Fits-by_rows c.args.a c.args.b c.args.to c.args.free_a.now c.args.free_b.now c.args.shared.now (sym c.lies_by_rows.ensures ∙ h)
