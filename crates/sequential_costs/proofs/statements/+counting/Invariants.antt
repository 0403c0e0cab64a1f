use Rattle.std.proofs.Common.{◌≡◌, ◌+◌, ◌^◌, ◌≤◌, drop}
use Rattle.sial_meaning.specs.Costs.{block_cost, capped}
use Rattle.sial_syntax.specs.Tree.{block}
use Rattle.sequential_costs.specs.Called.{among}
use Rattle.sequential_costs.specs.Over.{over}
use Rattle.sequential_costs.proofs.statements.+counting.Given as goal

-- the steps so far and those that are left are those of all
abbrev pub invariant-body_steps-loop-stmt : goal.invariant-body_steps-loop-stmt
invariant-body_steps-loop-stmt l =
    (l.steps ≤ 2 ^ 62 + 1)
    × (capped (l.steps + block_cost (over l.spaces.spaces l.arrays) (among l.calls) (block (drop l.stmt-index l.stmts))) ≡ block_cost (over l.spaces.spaces l.arrays) (among l.calls) (block l.stmts))
