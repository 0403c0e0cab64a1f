-- What each call leaves of the cache's invariant.
use Rattle.std.proofs.Common.{◌≡◌, ℕ, ◌+◌, ◌<◌, Bool, true, false, List, [], ◌∷◌, ◌++◌, length, if◌then◌else◌, refl, sym, ap, ◌∙◌, subst, append_assoc, length-append, arith}
use Rattle.std.specs.List.{filter}
use Rattle.block_cache.specs.declared.found.Found.TheVariants.{Cached, Awaited, Absent}
use Rattle.block_cache.specs.Recency.{Block, Recency, has_block, without, found_in, are_distinct, Fits}
use Rattle.block_cache.proofs.RecencyLemmas.{length-filter-le, length-without-lt}
use Rattle.block_cache.proofs.DistinctLemmas.{absent-append, absent_parts, absent-without, distinct-cons, distinct-filter_left, distinct-filter_right, distinct-push, distinct-apart, distinct-apart_left, distinct-between, absent-between}

-- a block that is found absent is in neither list
pub absent_both : (cache : Recency) (block : Block) → found_in cache block ≡ Absent → (has_block cache.cached block ≡ false) × (has_block cache.awaited block ≡ false)
absent_both cache block found =
    elim (has_block cache.cached block) as (λ b. (if b then Cached else if has_block cache.awaited block then Awaited else Absent) ≡ Absent → (b ≡ false) × (has_block cache.awaited block ≡ false)) [
      | true ↦ λ e. absurd cc
      | false ↦ λ e. elim (has_block cache.awaited block) as (λ a. (if a then Awaited else Absent) ≡ Absent → (false ≡ false) × (a ≡ false)) [ true ↦ λ e. absurd cc | false ↦ λ e. (refl, refl) ] e
    ] found

-- and the other way round
pub found_absent : (cache : Recency) (block : Block) → has_block cache.cached block ≡ false → has_block cache.awaited block ≡ false → found_in cache block ≡ Absent
found_absent cache block first second =
    ap (λ b. if b then Cached else if has_block cache.awaited block then Awaited else Absent) first ∙ ap (λ b. if b then Awaited else Absent) second

-- the block was used last
pub fits_touched : (cached awaited new : List Block) (places : ℕ) (block : Block) → Fits cached awaited places → has_block cached block ≡ true → new ≡ block ∷ without block cached → Fits new awaited places
fits_touched cached awaited new places block fits has is = subst (λ (list : List Block). Fits list awaited places) (sym is) (record {
  distinct = distinct-cons block (without block cached ++ awaited)
      (absent-append (without block cached) awaited block (absent-without block cached) (distinct-apart cached awaited block fits.distinct has))
      (distinct-filter_left _ cached awaited fits.distinct);
  room = omega (arith, fits.room, length-without-lt block cached has);
  most = fits.most;
})

-- the block is awaited
pub fits_awaited : (cached awaited new : List Block) (places : ℕ) (block : Block) → Fits cached awaited places → has_block cached block ≡ false → has_block awaited block ≡ false → length cached + length awaited < places → new ≡ awaited ++ block ∷ [] → Fits cached new places
fits_awaited cached awaited new places block fits first second room is = subst (λ (list : List Block). Fits cached list places) (sym is) (record {
  distinct = ap are_distinct (sym (append_assoc cached awaited (block ∷ []))) ∙ distinct-push (cached ++ awaited) block fits.distinct (absent-append cached awaited block first second);
  room = omega (arith, room, length-append awaited (block ∷ []));
  most = fits.most;
})

-- the awaited block has come
pub fits_arrived : (cached awaited new left : List Block) (places : ℕ) (block : Block) → Fits cached awaited places → has_block awaited block ≡ true → new ≡ block ∷ cached → left ≡ without block awaited → Fits new left places
fits_arrived cached awaited new left places block fits has new_is left_is =
    subst (λ (list : List Block). Fits list left places) (sym new_is) (subst (λ (list : List Block). Fits (block ∷ cached) list places) (sym left_is) (record {
      distinct = distinct-cons block (cached ++ without block awaited)
          (absent-append cached (without block awaited) block (distinct-apart_left cached awaited block fits.distinct has) (absent-without block awaited))
          (distinct-filter_right _ cached awaited fits.distinct);
      room = omega (arith, fits.room, length-without-lt block awaited has);
      most = fits.most;
    }))

-- some cached blocks are left
pub fits_filtered : (test : Block → Bool) (cached awaited new : List Block) (places : ℕ) → Fits cached awaited places → new ≡ filter test cached → Fits new awaited places
fits_filtered test cached awaited new places fits is = subst (λ (list : List Block). Fits list awaited places) (sym is) (record {
  distinct = distinct-filter_left test cached awaited fits.distinct;
  room = omega (arith, fits.room, length-filter-le test cached);
  most = fits.most;
})

-- one cached block was taken out
pub fits_between : (front back awaited cached new : List Block) (places : ℕ) (block : Block) → Fits cached awaited places → cached ≡ front ++ block ∷ back → new ≡ front ++ back → Fits new awaited places
fits_between front back awaited cached new places block fits whole is =
    let held = subst (λ (list : List Block). Fits list awaited places) whole fits in
    subst (λ (list : List Block). Fits list awaited places) (sym is) (record {
      distinct = ap are_distinct (append_assoc front back awaited) ∙ distinct-between front block (back ++ awaited) (ap are_distinct (sym (append_assoc front (block ∷ back) awaited)) ∙ held.distinct);
      room = omega (arith, held.room, length-append front (block ∷ back), length-append front back);
      most = held.most;
    })

-- and it is nowhere now
pub gone_between : (front back awaited cached new : List Block) (places : ℕ) (block : Block) → Fits cached awaited places → cached ≡ front ++ block ∷ back → new ≡ front ++ back → (has_block new block ≡ false) × (has_block awaited block ≡ false)
gone_between front back awaited cached new places block fits whole is =
    let held = subst (λ (list : List Block). Fits list awaited places) whole fits in
    let nowhere = absent-between front block (back ++ awaited) (ap are_distinct (sym (append_assoc front (block ∷ back) awaited)) ∙ held.distinct) in
    let parts = absent_parts (front ++ back) awaited block (ap (λ list. has_block list block) (append_assoc front back awaited) ∙ nowhere) in
    (ap (λ list. has_block list block) is ∙ parts.0, parts.1)
