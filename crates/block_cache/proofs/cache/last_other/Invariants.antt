use Rattle.std.proofs.Common.{◌≡◌, None, drop}
use Rattle.block_cache.specs.Recency.{spares}
use Rattle.block_cache.proofs.RecencyLemmas.{last_from}
use Rattle.block_cache.proofs.cache.last_other.Given as goal

abbrev pub invariant-loop-place : goal.invariant-loop-place
invariant-loop-place l = last_from (spares l.first l.second) l.place l.last (drop l.place l.blocks) ≡ last_from (spares l.first l.second) 0 None l.blocks
