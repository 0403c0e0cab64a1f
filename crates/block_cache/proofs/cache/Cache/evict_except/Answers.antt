use Rattle.std.proofs.Common.{List, ◌∙◌, sym, ap, subst}
use Rattle.block_cache.specs.Recency.{Block, Recency, spares, IsLastFailing}
use Rattle.block_cache.proofs.RecencyLemmas.{evicts}
use Rattle.block_cache.proofs.FitsLemmas.{fits_between, gone_between, found_absent}
use Rattle.block_cache.proofs.cache.Cache.evict_except.Goals as goal

pub returns-clause-evicted : goal.returns-clause-evicted
returns-clause-evicted c =
    let found = subst (λ (blocks : List Block). IsLastFailing (spares c.args.first c.args.second) blocks c.in_ok-place.place) c.as_slice.ensures.value c.in_ok-place.ensures.found in
    evicts c.args.self.now _ c.args.first c.args.second c.self.inside.cached.items c.remove.new.self.items c.in_ok-place.place c.remove.result found
    (ap (λ (cache : Recency). cache.cached) (sym c.self.view_is)) c.remove.ensures.value c.remove.ensures.items
    (ap (λ (cache : Recency). record cache { cached = c.remove.new.self.items }) c.self.view_is)

pub invariant_of-self : goal.invariant_of-self
invariant_of-self c =
    let evicted = returns-clause-evicted c in
    fits_between evicted.front evicted.back c.self.inside.awaited.items c.self.inside.cached.items c.remove.new.self.items c.self.inside.places c.remove.result c.self.invariant
    (ap (λ (cache : Recency). cache.cached) c.self.view_is ∙ evicted.whole)
    (ap (λ (cache : Recency). cache.cached) evicted.without)

pub returns-clause-gone : goal.returns-clause-gone
returns-clause-gone c =
    let evicted = returns-clause-evicted c in
    let gone = gone_between evicted.front evicted.back c.self.inside.awaited.items c.self.inside.cached.items c.remove.new.self.items c.self.inside.places c.remove.result c.self.invariant
    (ap (λ (cache : Recency). cache.cached) c.self.view_is ∙ evicted.whole)
    (ap (λ (cache : Recency). cache.cached) evicted.without) in
    found_absent (record { cached = c.remove.new.self.items; awaited = c.self.inside.awaited.items; places = c.self.inside.places }) c.remove.result gone.0 gone.1
