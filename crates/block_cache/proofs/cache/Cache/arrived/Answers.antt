use Rattle.std.proofs.Common.{IsTrue, sym, subst}
use Rattle.block_cache.specs.Recency.{Recency, has_block}
use Rattle.block_cache.proofs.RecencyLemmas.{has_block_awaited}
use Rattle.block_cache.proofs.FitsLemmas.{fits_arrived}
use Rattle.block_cache.proofs.cache.Cache.arrived.Goals as goal

pub invariant_of-self : goal.invariant_of-self
invariant_of-self c =
    let has = subst (λ (cache : Recency). IsTrue (has_block cache.awaited (c.args.class, c.args.block))) (sym c.self.view_is) (has_block_awaited c.args.self.now (c.args.class, c.args.block) c.requires) in
    fits_arrived c.self.inside.cached.items c.self.inside.awaited.items c.insert.new.self.items c.take_out.new.blocks.items c.self.inside.places (c.args.class, c.args.block) c.self.invariant has
    c.insert.ensures.items c.take_out.ensures.items
