use Rattle.sial_syntax.specs.Tree.{tree}
use Rattle.sip_grant.proofs.AnswerLemmas.{given, refused}
use Rattle.sip_grant.proofs.FittedLemmas.{blames_misfit}
use Rattle.sip_grant.proofs.fitted.fitted.Goals as goal

pub returns-in-Ok-clause-granted : goal.returns-in-Ok-clause-granted
returns-in-Ok-clause-granted c = given c.fit.result c.fit.ensures.granted (λ job is. (c.in-Ok.input, c.in-Ok.ensures.found, is))

pub returns-in-Ok-clause-blames : goal.returns-in-Ok-clause-blames
returns-in-Ok-clause-blames c =
    refused c.fit.result c.fit.ensures.misfit
    (λ r blames. blames_misfit (tree c.args.ruled.program) c.args.text.now c.in-Ok.input r c.in-Ok.ensures.found blames)
