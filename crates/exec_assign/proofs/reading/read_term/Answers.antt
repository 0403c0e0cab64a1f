use Rattle.std.proofs.Common.{◌≡◌, ◌++◌, sym, subst}
use Rattle.sip_setting.specs.Seen.{setting_of}
use Rattle.sial_syntax.specs.declared.operand.Operand.{Operand}
use Rattle.sial_meaning.specs.LocalStep as spec
use Rattle.exec_sides.specs.Seen.{term_of}
use Rattle.exec_assign.specs.Answers.{answer_of}
use Rattle.exec_assign.specs.Lent.{operand_values, slot_of}
use Rattle.exec_assign.proofs.reading.read_term.Goals as goal

pub returns-in-Scalar : goal.returns-in-Scalar
returns-in-Scalar c = λ more own partials stands.
    let g = setting_of c.args.job.now in
    subst (λ (o : Operand). spec.term_of g own o (operand_values g c.args.pool.now c.args.values.now (slot_of c.args.lease) o ++ more) ≡ answer_of term_of c.read_scalar.result) (sym c.in-Scalar.is)
    (c.read_scalar.ensures g own more (sym stands.scalars.scalars))

pub returns-in-Block : goal.returns-in-Block
returns-in-Block c = λ more own partials stands.
    let g = setting_of c.args.job.now in
    subst (λ (o : Operand). spec.term_of g own o (operand_values g c.args.pool.now c.args.values.now (slot_of c.args.lease) o ++ more) ≡ answer_of term_of c.read_block.result) (sym c.in-Block.is)
    (c.read_block.ensures more own partials stands)
