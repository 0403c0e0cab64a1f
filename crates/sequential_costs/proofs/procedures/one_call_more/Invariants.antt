use Rattle.std.proofs.Common.{◌≡◌, ◌++◌, drop, map}
use Rattle.sial_meaning.specs.Costs.{block_cost}
use Rattle.sial_syntax.specs.Tree.{block}
use Rattle.sial_syntax.specs.declared.program.Proc.{Proc}
use Rattle.sip_setting.specs.Seen.{setting_of}
use Rattle.sequential_costs.specs.Over.{over}
use Rattle.sequential_costs.specs.Called.{among, with_calls}
use Rattle.sequential_costs.proofs.procedures.one_call_more.Given as goal

-- with those that are left there are all
abbrev pub invariant-loop-procedure : goal.invariant-loop-procedure
invariant-loop-procedure l =
    l.steps.items ++ map (λ (p : Proc). block_cost (over l.granted.spaces.spaces l.granted.program.arrays.items) (among l.calls) (block p.body.items)) (drop l.procedure-index l.procedure-items)
    ≡ with_calls (setting_of l.granted) l.calls
