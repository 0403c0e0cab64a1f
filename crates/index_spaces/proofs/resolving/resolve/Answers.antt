use Rattle.std.proofs.Common.{◌≡◌, List, None, sym, ap, ◌∙◌, subst}
use Rattle.sial_syntax.specs.declared.classes.ScalarClass.{ScalarClass}
use Rattle.sial_syntax.specs.Resolved.{AreSpacesBy}
use Rattle.sial_syntax.specs.Spaces.{Spaces}
use Rattle.sial_syntax.specs.Tree.{tree}
use Rattle.sip_input.specs.Given.{constants_of}
use Rattle.index_spaces.specs.Found.{seen}
use Rattle.index_spaces.specs.Given.{spaces_by}
use Rattle.index_spaces.specs.Placed.{Placed}
use Rattle.index_spaces.specs.Refusing.{refusal, refusal_by}
use Rattle.index_spaces.proofs.OwnLemmas.{granted-own}
use Rattle.index_spaces.proofs.resolving.resolve.Goals as goal

pub returns-in-Ok-placed-clause-own : goal.returns-in-Ok-placed-clause-own
returns-in-Ok-placed-clause-own c =
    let p = tree c.args.program.now in
    let input = c.args.input.now in
    let spaces : c.in-Ok-placed.found.0.spaces ≡ spaces_by p input = ap (λ (s : Placed). s.spaces) c.in-Ok-placed.ensures.spaces ∙ c.in-Ok.ensures in
    let none : refusal p c.args.classes.now.scalars.items input ≡ None =
    ap (λ (s : Spaces). refusal_by p s c.args.classes.now.scalars.items input) (sym c.in-Ok.ensures)
    ∙ (ap (λ (classes : List ScalarClass). refusal_by p c.in-Ok.spaces.spaces classes input) (sym c.as_slice.ensures.value)
    ∙ (sym c.refused.ensures ∙ ap seen c.in_default.is)) in
    subst (λ (s : Spaces). AreSpacesBy (constants_of input) p s) (sym spaces) (granted-own p c.args.classes.now.scalars.items input c.requires.input none)
