use Rattle.std.proofs.Common.{◌≡◌, Ok, Err, sym, ap, ◌∙◌, subst}
use Rattle.sip_setting.specs.Seen.{setting_of}
use Rattle.sial_syntax.specs.declared.operand.Right.{Right}
use Rattle.sial_meaning.specs.LocalStep as spec
use Rattle.exec_sides.specs.Seen.{side_of, term_of}
use Rattle.exec_assign.specs.Answers.{answer_of}
use Rattle.exec_assign.specs.Lent.{side_values}
use Rattle.exec_assign.proofs.ReadLemmas.{one_read}
use Rattle.exec_assign.proofs.reading.read_side.Goals as goal

pub returns-in-Ok : goal.returns-in-Ok
returns-in-Ok c = λ own partials stands.
    one_read (setting_of c.args.job.now) c.args.pool.now c.args.values.now c.args.leases.now own c.args.right.now c.in-One.a (Ok (term_of c.in-Ok.term)) c.in-One.is
    (λ more. c.read_term.ensures more own partials stands ∙ ap (answer_of term_of) c.in-Ok.is)

pub returns-in-Err : goal.returns-in-Err
returns-in-Err c = λ own partials stands.
    one_read (setting_of c.args.job.now) c.args.pool.now c.args.values.now c.args.leases.now own c.args.right.now c.in-One.a (Err c.in-Err.kind) c.in-One.is
    (λ more. c.read_term.ensures more own partials stands ∙ ap (answer_of term_of) c.in-Err.is)

pub returns-in-Two : goal.returns-in-Two
returns-in-Two c = λ own partials stands.
    let g = setting_of c.args.job.now in
    subst (λ (r : Right). spec.side_read g own r (side_values g c.args.pool.now c.args.values.now c.args.leases.now r) ≡ answer_of side_of c.read_two.result) (sym c.in-Two.is)
    (c.read_two.ensures own partials stands)
