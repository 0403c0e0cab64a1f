-- The lemmas that each proof of the crate may use.
use Rattle.block_pool.proofs.CutLemmas.{length-with_front}

pub ruleset all = (length-with_front)
