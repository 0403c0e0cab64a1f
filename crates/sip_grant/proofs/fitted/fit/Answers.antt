use Rattle.std.proofs.Common.{List, subst}
use Rattle.index_spaces.specs.Refusing.{refusal, IsCause}
use Rattle.sial_syntax.specs.Sides.{scalar_classes}
use Rattle.sial_syntax.specs.Tree.{tree}
use Rattle.sial_syntax.specs.declared.classes.ScalarClass.{ScalarClass}
use Rattle.sip_grant.proofs.fitted.fit.Goals as goal

pub returns-in-Err-clause-misfit : goal.returns-in-Err-clause-misfit
returns-in-Err-clause-misfit c =
    let p = tree c.args.ruled.program in
    c.misfit.ensures (refusal p (scalar_classes p) c.args.input.now)
    (subst (λ (classes : List ScalarClass). IsCause (refusal p classes c.args.input.now) c.in-Err.fault) c.requires.kept.scalars c.in-Err.ensures.fault)
