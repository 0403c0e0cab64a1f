use Rattle.std.proofs.Common.{ap}
use Rattle.sial_meaning.specs.Right as sides
use Rattle.exec_sides.specs.Seen.{sight_of, term_of}
use Rattle.exec_sides.proofs.Allowed.{number-assigned}
use Rattle.exec_sides.proofs.assigning.meet_term.Goals as goal

pub returns-in-Number : goal.returns-in-Number
returns-in-Number c = λ spaces values fits.
    number-assigned spaces c.args.how (sight_of c.args.to.now c.args.into.now) c.in-Number.number (sides.Alone (term_of c.args.term.now)) c.meet_number.new.into
    (ap (λ t. sides.Alone (term_of t)) c.in-Number.is)
    fits.target.words c.meet_number.ensures
