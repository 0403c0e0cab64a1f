use Rattle.std.proofs.Common.{◌≡◌, ◌+◌, ◌<◌, false, length, sym, subst}
use Rattle.block_cache.specs.Recency.{Recency, has_block}
use Rattle.block_cache.proofs.FitsLemmas.{absent_both, fits_awaited}
use Rattle.block_cache.proofs.cache.Cache.await_block.Goals as goal

pub invariant_of-self : goal.invariant_of-self
invariant_of-self c =
    let absent = absent_both c.args.self.now (c.args.class, c.args.block) c.requires.absent in
    fits_awaited c.self.inside.cached.items c.self.inside.awaited.items c.push.new.self.items c.self.inside.places (c.args.class, c.args.block) c.self.invariant
    (subst (λ (cache : Recency). has_block cache.cached (c.args.class, c.args.block) ≡ false) (sym c.self.view_is) absent.0)
    (subst (λ (cache : Recency). has_block cache.awaited (c.args.class, c.args.block) ≡ false) (sym c.self.view_is) absent.1)
    (subst (λ (cache : Recency). length cache.cached + length cache.awaited < cache.places) (sym c.self.view_is) c.requires.room)
    c.push.ensures.items
