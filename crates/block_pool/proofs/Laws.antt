-- The lemmas that each proof of the crate may use.
use Rattle.std.proofs.lemmas.List.{length-replicate}
use Rattle.block_pool.proofs.CutLemmas.{set_present, length-with_front, length-written_back, written_back_is}
use Rattle.block_pool.proofs.MixedLemmas.{length-mixed, mixed_step, mixed-Set, mixed-Set_all}

pub ruleset all = (set_present, length-with_front, length-written_back, written_back_is, length-mixed, mixed_step, mixed-Set, mixed-Set_all, length-replicate)
