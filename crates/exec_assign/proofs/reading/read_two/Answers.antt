use Rattle.std.proofs.Common.{Ok, Err, ap, ◌∙◌}
use Rattle.sip_setting.specs.Seen.{setting_of}
use Rattle.exec_sides.specs.Seen.{term_of}
use Rattle.exec_assign.specs.Answers.{answer_of}
use Rattle.exec_assign.proofs.ReadLemmas.{first_read, two_read}
use Rattle.exec_assign.proofs.reading.read_two.Goals as goal

pub returns-in-Ok-read_term : goal.returns-in-Ok-read_term
returns-in-Ok-read_term c = λ own partials stands.
    two_read (setting_of c.args.job.now) c.args.pool.now c.args.values.now c.args.leases.now own c.args.a.now c.args.b.now c.args.bin (Ok (term_of c.in-Ok.first)) (Ok (term_of c.in-Ok-read_term.second))
    (λ more. c.read_term.ensures more own partials stands ∙ ap (answer_of term_of) c.in-Ok.is)
    (λ more. c.read_term-in-Ok.ensures more own partials stands ∙ ap (answer_of term_of) c.in-Ok-read_term.is)

pub returns-in-Err-read_term : goal.returns-in-Err-read_term
returns-in-Err-read_term c = λ own partials stands.
    two_read (setting_of c.args.job.now) c.args.pool.now c.args.values.now c.args.leases.now own c.args.a.now c.args.b.now c.args.bin (Ok (term_of c.in-Ok.first)) (Err c.in-Err-read_term.kind)
    (λ more. c.read_term.ensures more own partials stands ∙ ap (answer_of term_of) c.in-Ok.is)
    (λ more. c.read_term-in-Ok.ensures more own partials stands ∙ ap (answer_of term_of) c.in-Err-read_term.is)

pub returns-in-Err : goal.returns-in-Err
returns-in-Err c = λ own partials stands.
    first_read (setting_of c.args.job.now) c.args.pool.now c.args.values.now c.args.leases.now own c.args.a.now c.args.b.now c.args.bin (Err c.in-Err.kind)
    (λ more. c.read_term.ensures more own partials stands ∙ ap (answer_of term_of) c.in-Err.is)
