use Rattle.sial_syntax.specs.Tree.{tree}
use Rattle.index_spaces.specs.Refusing.{block_refusal}
use Rattle.index_spaces.proofs.SoonerLemmas.{soonest_turn}
use Rattle.index_spaces.proofs.starts.blocks_refused.Goals as goal

pub loop-line-preserved : goal.loop-line-preserved
loop-line-preserved c =
    soonest_turn (block_refusal (tree c.args.program.now) c.args.spaces.now.spaces) c.args.lines.now c.loop-line.line-index c.line-item.result _ _ _ _
    c.loop-line-test.true c.line-item.is c.block_refused.ensures c.sooner-first.ensures c.loop-line.invariant
