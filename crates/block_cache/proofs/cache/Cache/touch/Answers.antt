use Rattle.std.proofs.Common.{List, ◌∷◌, IsTrue, ap, ◌∙◌, sym, subst}
use Rattle.block_cache.specs.Recency.{Block, Recency, has_block}
use Rattle.block_cache.proofs.RecencyLemmas.{has_block_cached}
use Rattle.block_cache.proofs.FitsLemmas.{fits_touched}
use Rattle.block_cache.proofs.cache.Cache.touch.Goals as goal

pub invariant_of-self : goal.invariant_of-self
invariant_of-self c =
    let has = subst (λ (cache : Recency). IsTrue (has_block cache.cached (c.args.class, c.args.block))) (sym c.self.view_is) (has_block_cached c.args.self.now (c.args.class, c.args.block) c.requires) in
    fits_touched c.self.inside.cached.items c.self.inside.awaited.items c.insert.new.self.items c.self.inside.places (c.args.class, c.args.block) c.self.invariant has
    (c.insert.ensures.items ∙ ap (λ (others : List Block). (c.args.class, c.args.block) ∷ others) c.take_out.ensures.items)
