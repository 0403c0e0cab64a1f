use Rattle.std.proofs.Common.{ap, ◌∙◌}
use Rattle.sial_meaning.specs.Right as sides
use Rattle.exec_sides.specs.Seen.{side_of, sight_of, term_of}
use Rattle.exec_sides.proofs.Allowed.{multiple-assigned}
use Rattle.exec_sides.proofs.assigning.multiply.Goals as goal

pub returns : goal.returns
returns c = λ spaces values fits.
    multiple-assigned spaces (sight_of c.args.to.now c.args.into.now) c.in-Number.number (side_of c.args.side.now) c.scale.new.to
    (ap side_of c.in-Alone.is ∙ ap (λ t. sides.Alone (term_of t)) c.in-Number.is)
    fits.target.words c.scale.ensures.value
