use Rattle.std.proofs.Common.{◌-◌, length, rules}
use Rattle.kernel_contract.proofs.FilledLemmas.{Contracted-filled, Fits-filled}
use Rattle.kernel_contract.proofs.splits.contract_filled.Goals as goal

pub contract-requires : goal.contract-requires
contract-requires g c =
    let fits = Fits-filled (g.row.N - length c.args.free_a.now) (g.row.N - length c.args.free_b.now) (g.row.N - length c.args.shared.now)
    c.args.free_a.now c.args.free_b.now c.args.shared.now (length c.args.a.now) (length c.args.b.now) (length c.args.to.now) c.requires.fits in
    (search rules, (search rules, (search rules, rw (c.filled.ensures, c.filled-2.ensures, c.filled-3.ensures) fits)))

pub returns : goal.returns
returns g c =
    Contracted-filled (g.row.N - length c.args.free_a.now) (g.row.N - length c.args.free_b.now) (g.row.N - length c.args.shared.now)
    c.args.free_a.now c.args.free_b.now c.args.shared.now c.args.a.now c.args.b.now c.args.to.now c.contract.new.to c.args.how
    (rw (c.filled.ensures, c.filled-2.ensures, c.filled-3.ensures) at c.contract.ensures)
