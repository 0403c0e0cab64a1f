use Rattle.block_cache.proofs.FitsLemmas.{fits_filtered}
use Rattle.block_cache.proofs.cache.Cache.drop_class.Goals as goal

pub invariant_of-self : goal.invariant_of-self
invariant_of-self c = fits_filtered _ c.self.inside.cached.items c.self.inside.awaited.items c.take_class_out.new.blocks.items c.self.inside.places c.self.invariant c.take_class_out.ensures.items
