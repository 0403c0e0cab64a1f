use Rattle.exec_blocks.proofs.ClearLemmas.{clears-more}
use Rattle.exec_blocks.proofs.clearing.clear_run.Goals as goal

pub loop-turn-preserved : goal.loop-turn-preserved
loop-turn-preserved c = clears-more c.args.from c.loop-turn.turn c.loop-turn.invariant c.clear.ensures
