use Rattle.std.proofs.Common.{ap, ◌∙◌}
use Rattle.sial_meaning.specs.Costs.{block_cost}
use Rattle.sial_meaning.specs.Meaning.{call_depth}
use Rattle.sial_syntax.specs.Tree.{block}
use Rattle.sip_setting.specs.Seen.{setting_of}
use Rattle.sequential_costs.specs.Called.{among}
use Rattle.sequential_costs.specs.Over.{over}
use Rattle.sequential_costs.proofs.CalledLemmas.{whole_over}
use Rattle.sequential_costs.proofs.steps.sequential_steps.Goals as goal

pub returns : goal.returns
returns c =
    let g = setting_of c.args.granted.now in
    c.body_steps.ensures.sum
    ∙ (ap (λ arrays. block_cost (over g.spaces arrays) (among c.as_slice-3.result.now) (block c.as_slice-body.result.now)) c.as_slice-arrays.ensures.value
    ∙ (ap (λ ss. block_cost (over g.spaces g.program.arrays) (among c.as_slice-3.result.now) (block ss)) c.as_slice-body.ensures.value
    ∙ whole_over g c.as_slice-3.result.now call_depth (c.as_slice-3.ensures.value ∙ c.in_ok-calls.ensures) g.program.body))
