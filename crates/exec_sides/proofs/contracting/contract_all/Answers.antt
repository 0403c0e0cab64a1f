use Rattle.std.proofs.Common.{refl, ◌∙◌}
use Rattle.exec_sides.specs.Seen.{seen, sight_of}
use Rattle.exec_sides.proofs.Contractions.{listed-few, listed-fits, listed-meets}
use Rattle.exec_sides.proofs.contracting.contract_all.Goals as goal

pub contract_any-requires-clause-dimensions_a : goal.contract_any-requires-clause-dimensions_a
contract_any-requires-clause-dimensions_a c =
    (listed-few (sight_of c.args.to.now c.args.into.now) (seen c.args.left.now) (seen c.args.right.now) c.requires.fits c.listed.result.now c.listed-2.result.now c.listed-3.result.now
    (c.listed.ensures ∙ c.axes_of-rows.ensures.axes) (c.listed-2.ensures ∙ c.axes_of-columns.ensures.axes) (c.listed-3.ensures ∙ c.axes_of-shared.ensures.axes)).0

pub contract_any-requires-clause-dimensions_b : goal.contract_any-requires-clause-dimensions_b
contract_any-requires-clause-dimensions_b c =
    (listed-few (sight_of c.args.to.now c.args.into.now) (seen c.args.left.now) (seen c.args.right.now) c.requires.fits c.listed.result.now c.listed-2.result.now c.listed-3.result.now
    (c.listed.ensures ∙ c.axes_of-rows.ensures.axes) (c.listed-2.ensures ∙ c.axes_of-columns.ensures.axes) (c.listed-3.ensures ∙ c.axes_of-shared.ensures.axes)).1

pub contract_any-requires-clause-dimensions_to : goal.contract_any-requires-clause-dimensions_to
contract_any-requires-clause-dimensions_to c =
    (listed-few (sight_of c.args.to.now c.args.into.now) (seen c.args.left.now) (seen c.args.right.now) c.requires.fits c.listed.result.now c.listed-2.result.now c.listed-3.result.now
    (c.listed.ensures ∙ c.axes_of-rows.ensures.axes) (c.listed-2.ensures ∙ c.axes_of-columns.ensures.axes) (c.listed-3.ensures ∙ c.axes_of-shared.ensures.axes)).2

pub contract_any-requires-clause-fits : goal.contract_any-requires-clause-fits
contract_any-requires-clause-fits c =
    listed-fits (sight_of c.args.to.now c.args.into.now) (seen c.args.left.now) (seen c.args.right.now) c.requires.fits c.listed.result.now c.listed-2.result.now c.listed-3.result.now _
    (c.listed.ensures ∙ c.axes_of-rows.ensures.axes) (c.listed-2.ensures ∙ c.axes_of-columns.ensures.axes) (c.listed-3.ensures ∙ c.axes_of-shared.ensures.axes) refl

pub returns : goal.returns
returns c =
    listed-meets (sight_of c.args.to.now c.args.into.now) (seen c.args.left.now) (seen c.args.right.now) c.requires.fits c.args.how c.args.into.now c.contract_any.new.to c.listed.result.now c.listed-2.result.now c.listed-3.result.now
    (c.listed.ensures ∙ c.axes_of-rows.ensures.axes) (c.listed-2.ensures ∙ c.axes_of-columns.ensures.axes) (c.listed-3.ensures ∙ c.axes_of-shared.ensures.axes)
    (record { named = c.contract_any.ensures.named; others = c.contract_any.ensures.others; len = c.contract_any.ensures.len })
