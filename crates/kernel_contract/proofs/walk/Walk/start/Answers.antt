use Rattle.std.proofs.Common.{◌∙◌, sym}
use Rattle.kernel_contract.proofs.WalkLemmas.{IsPosition-zeros, offset-zeros, gone_none}
use Rattle.kernel_contract.proofs.walk.Walk.start.Goals as goal

pub returns-clause-stands : goal.returns-clause-stands
returns-clause-stands g c = record {
  position = λ left. IsPosition-zeros c.args.axes.now g.row.R (sym c.told-axes) (sym c.has_positions.ensures ∙ left);
  offsets = λ _. record {
    a = rw (offset-zeros (λ x. x.a) c.args.axes.now g.row.R);
    b = rw (offset-zeros (λ x. x.b) c.args.axes.now g.row.R);
    to = rw (offset-zeros (λ x. x.to) c.args.axes.now g.row.R);
  };
}

pub returns-clause-gone : goal.returns-clause-gone
returns-clause-gone g c = gone_none c.args.axes.now g.row.R c.has_positions.result c.has_positions.ensures
