use Rattle.std.proofs.Common.{subst}
use Rattle.sip_setting.specs.Seen.{setting_of}
use Rattle.sial_syntax.specs.declared.classes.ScalarClass.{ScalarClass}
use Rattle.sial_meaning.specs.LocalStep.{side_read, to_scalar}
use Rattle.exec_scalars.specs.Answers.{EndsWith}
use Rattle.exec_assign.specs.Lent.{side_values}
use Rattle.exec_assign.proofs.NumberLemmas.{assigned_trap, assigned_value}
use Rattle.exec_assign.proofs.numbers.assign_scalar.Goals as goal

pub returns-in-Ok : goal.returns-in-Ok
returns-in-Ok c = λ own partials stands.
    let g = setting_of c.args.job.now in
    assigned_value g c.args.scalars.now c.assign.new.self own partials c.args.scalar c.args.op
    (side_read g own c.args.right.now (side_values g c.args.pool.now c.args.values.now c.args.leases.now c.args.right.now)) c.number_of.result c.in-Ok.number c.assign.result
    (c.number_of.ensures own partials stands) c.in-Ok.is
    (λ side is. subst (λ (k : ScalarClass). EndsWith c.args.scalars.now c.assign.new.self own (to_scalar g k c.args.scalar c.args.op side own partials) c.assign.result) c.scalar_class.ensures (c.assign.ensures g side own partials stands.scalars is))

pub returns-in-Err : goal.returns-in-Err
returns-in-Err c = λ own partials stands.
    let g = setting_of c.args.job.now in
    assigned_trap g c.args.scalars.now own partials c.args.scalar c.args.op
    (side_read g own c.args.right.now (side_values g c.args.pool.now c.args.values.now c.args.leases.now c.args.right.now)) c.number_of.result c.in-Err.kind
    (c.number_of.ensures own partials stands) c.in-Err.is
