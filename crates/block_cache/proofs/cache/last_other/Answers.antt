use Rattle.std.proofs.Common.{◌≡◌, None, sym, ap, ◌∙◌, drop_of_length-le, arith}
use Rattle.block_cache.specs.Recency.{spares}
use Rattle.block_cache.proofs.RecencyLemmas.{last_from, last_from-whole}
use Rattle.block_cache.proofs.cache.last_other.Goals as goal

pub returns-clause-found : goal.returns-clause-found
returns-clause-found c =
    let whole : last_from (spares c.args.first c.args.second) 0 None c.args.blocks.now ≡ c.loop-place.last =
    sym c.loop-place.invariant ∙ ap (last_from (spares c.args.first c.args.second) c.loop-place.place c.loop-place.last) (drop_of_length-le c.args.blocks.now (omega arith)) in
    (last_from-whole (spares c.args.first c.args.second) c.args.blocks.now c.loop-place.last whole).0

pub returns-clause-none : goal.returns-clause-none
returns-clause-none c =
    let whole : last_from (spares c.args.first c.args.second) 0 None c.args.blocks.now ≡ c.loop-place.last =
    sym c.loop-place.invariant ∙ ap (last_from (spares c.args.first c.args.second) c.loop-place.place c.loop-place.last) (drop_of_length-le c.args.blocks.now (omega arith)) in
    (last_from-whole (spares c.args.first c.args.second) c.args.blocks.now c.loop-place.last whole).1
