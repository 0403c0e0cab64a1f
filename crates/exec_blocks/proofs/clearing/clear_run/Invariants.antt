use Rattle.exec_blocks.specs.Clearing.{Clears}
use Rattle.exec_blocks.proofs.clearing.clear_run.Given as goal

-- the places up to here have no block
abbrev pub invariant-loop-turn : goal.invariant-loop-turn
invariant-loop-turn l = Clears l.fn.pool l.pool l.fn.seats l.seats l.from l.turn
