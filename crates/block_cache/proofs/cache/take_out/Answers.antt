use Rattle.std.proofs.Common.{rules, ◌<◌, List, length, not, subst, sym}
use Rattle.arrayvec.proofs.ArrayVecLemmas.{filter-from_retain}
use Rattle.block_cache.specs.Recency.{Block, same_block}
use Rattle.block_cache.proofs.RecencyLemmas.{length-without-lt}
use Rattle.block_cache.proofs.cache.take_out.Goals as goal

pub returns-clause-items : goal.returns-clause-items
returns-clause-items c = filter-from_retain _ (λ other. not (same_block c.args.block other)) _ (λ x b f' y called. search rules) _ _ c.retain.ensures.filtered

pub returns-clause-fewer : goal.returns-clause-fewer
returns-clause-fewer c = λ has.
    subst (λ (left : List Block). length left < length c.args.blocks.now.items) (sym (returns-clause-items c)) (length-without-lt c.args.block c.args.blocks.now.items has)
