use Rattle.std.proofs.Common.{◌++◌, List, ap, ◌∙◌, drop, map}
use Rattle.sial_meaning.specs.Costs.{block_cost}
use Rattle.sial_syntax.specs.Tree.{block}
use Rattle.sial_syntax.specs.declared.program.Proc.{Proc}
use Rattle.sequential_costs.specs.Over.{over}
use Rattle.sequential_costs.specs.Called.{among}
use Rattle.sequential_costs.proofs.CalledLemmas.{each_procedure}
use Rattle.sequential_costs.proofs.procedures.one_call_more.Goals as goal

pub loop-procedure-init : goal.loop-procedure-init
loop-procedure-init c =
    let steps = λ (ps : List Proc). map (λ (p : Proc). block_cost (over c.args.granted.now.spaces.spaces c.args.granted.now.program.arrays.items) (among c.args.calls.now) (block p.body.items)) ps in
    ap (λ xs. xs ++ steps (drop 0 c.as_slice-procedure-items.result.now)) c.in_ok-steps.ensures.items
    ∙ (ap steps c.as_slice-procedure-items.ensures.value ∙ each_procedure c.args.granted.now c.args.calls.now)
