-- Taking a block out of a list, and the last block that fails a test.
use Rattle.std.proofs.Common.{◌≡◌, ℕ, suc, ◌+◌, ◌<◌, ◌≤◌, Bool, true, false, cond, if◌then◌else◌, not, ◌||◌, ◌&&◌, List, [], ◌∷◌, ◌++◌, length, get_or, Option, Some, None, IfSome, IfNone, IsTrue, ◌⊎◌, inl, inr, refl, sym, ap, ◌∙◌, subst, arith}
use Rattle.std.proofs.Math.Seq.{get_or-append_seam}
use Rattle.std.specs.List.{list_all, filter, remove}
use Rattle.block_cache.specs.declared.found.Found.TheVariants.{Cached, Awaited, Absent}
use Rattle.block_cache.specs.Recency.{Block, Recency, found_in, same_block, has_block, without, spares, IsLastFailing, Evicts}

-- taking out leaves no more
pub length-filter-le : (test : Block → Bool) (blocks : List Block) → length (filter test blocks) ≤ length blocks
length-filter-le test [] = omega arith
length-filter-le test (block ∷ blocks) =
    elim (test block) as (λ b. length (cond b (block ∷ filter test blocks) (filter test blocks)) ≤ suc (length blocks)) [
      | true ↦ omega (arith, length-filter-le test blocks)
      | false ↦ omega (arith, length-filter-le test blocks)
    ]

-- taking out a block that is there leaves fewer
pub length-without-lt : (block : Block) (blocks : List Block) → IsTrue (has_block blocks block) → length (without block blocks) < length blocks
length-without-lt block [] has = absurd cc
length-without-lt block (other ∷ blocks) has =
    elim (same_block block other) as (λ b. IsTrue (b || has_block blocks block) → length (cond (not b) (other ∷ without block blocks) (without block blocks)) < suc (length blocks)) [
      | true ↦ λ _. omega (arith, length-filter-le (λ one. not (same_block block one)) blocks)
      | false ↦ λ has. omega (arith, length-without-lt block blocks has)
    ] has

-- a block that is found cached is one of the cached
pub has_block_cached : (cache : Recency) (block : Block) → found_in cache block ≡ Cached → IsTrue (has_block cache.cached block)
has_block_cached cache block found =
    elim (has_block cache.cached block) as (λ b. (if b then Cached else if has_block cache.awaited block then Awaited else Absent) ≡ Cached → IsTrue b) [
      | true ↦ λ _. refl
      | false ↦ λ found. elim (has_block cache.awaited block) as (λ a. (if a then Awaited else Absent) ≡ Cached → IsTrue false) [ true ↦ λ e. absurd cc | false ↦ λ e. absurd cc ] found
    ] found

-- a block that is found awaited is one of the awaited
pub has_block_awaited : (cache : Recency) (block : Block) → found_in cache block ≡ Awaited → IsTrue (has_block cache.awaited block)
has_block_awaited cache block found =
    elim (has_block cache.cached block) as (λ b. (if b then Cached else if has_block cache.awaited block then Awaited else Absent) ≡ Awaited → IsTrue (has_block cache.awaited block)) [
      | true ↦ λ found. absurd cc
      | false ↦ λ found. elim (has_block cache.awaited block) as (λ a. (if a then Awaited else Absent) ≡ Awaited → IsTrue a) [ true ↦ λ e. refl | false ↦ λ e. absurd cc ] found
    ] found

-- the place of the last block that fails a test, or one found before, where these follow at a place
abbrev pub last_from : (Block → Bool) → ℕ → Option ℕ → List Block → Option ℕ
last_from passes place found [] = found
last_from passes place found (block ∷ blocks) = last_from passes (place + 1) (cond (passes block) found (Some place)) blocks

-- what was found before, where none of these fails
pub record StaysFound (passes : Block → Bool) (found : Option ℕ) (blocks : List Block) (place : ℕ) : Type 0 where
  pub found_is : found ≡ Some place
  pub all : IsTrue (list_all passes blocks)

-- one of these, from a place on
pub record FoundLater (passes : Block → Bool) (from : ℕ) (blocks : List Block) (place : ℕ) : Type 0 where
  pub front : List Block
  pub block : Block
  pub back : List Block
  pub whole : blocks ≡ front ++ block ∷ back
  pub at : place ≡ from + length front
  pub fails : passes block ≡ false
  pub rest : IsTrue (list_all passes back)

-- by which of two holds
cases : {A B C : Type 0} → (A → C) → (B → C) → A ⊎ B → C
cases f g (inl a) = f a
cases f g (inr b) = g b

-- a block that passes, before blocks that do
both : (passes : Block → Bool) (block : Block) (blocks : List Block) → passes block ≡ true → IsTrue (list_all passes blocks) → IsTrue (list_all passes (block ∷ blocks))
both passes block blocks is all = subst (λ (b : Bool). IsTrue (b && list_all passes blocks)) (sym is) all

-- the place of the first of these
here : (from place : ℕ) → Some from ≡ Some place → place ≡ from + 0
here from place is = let same : from ≡ place = cc in omega (arith, same)

-- one more block in front
later : (passes : Block → Bool) (from : ℕ) (block : Block) (blocks : List Block) (place : ℕ) → FoundLater passes (from + 1) blocks place → FoundLater passes from (block ∷ blocks) place
later passes from block blocks place found = record {
  front = block ∷ found.front;
  block = found.block;
  back = found.back;
  whole = ap (λ rest. block ∷ rest) found.whole;
  at = omega (arith, found.at);
  fails = found.fails;
  rest = found.rest;
}

-- a found place is the one from before or that of the last block that fails
last_from-is : (passes : Block → Bool) (from : ℕ) (found : Option ℕ) (blocks : List Block) (place : ℕ) → last_from passes from found blocks ≡ Some place → StaysFound passes found blocks place ⊎ FoundLater passes from blocks place
last_from-is passes from found [] place h = inl (record { found_is = h; all = refl })
last_from-is passes from found (block ∷ blocks) place h =
    elim (passes block) as (λ b. passes block ≡ b → last_from passes (from + 1) (cond b found (Some from)) blocks ≡ Some place → StaysFound passes found (block ∷ blocks) place ⊎ FoundLater passes from (block ∷ blocks) place) [
      | true ↦ λ is h. cases (λ (all : StaysFound passes found blocks place). inl (record { found_is = all.found_is; all = both passes block blocks is all.all })) (λ found. inr (later passes from block blocks place found)) (last_from-is passes (from + 1) found blocks place h)
      | false ↦ λ is h. cases (λ (all : StaysFound passes (Some from) blocks place). inr (record { front = []; block = block; back = blocks; whole = refl; at = here from place all.found_is; fails = is; rest = all.all })) (λ found. inr (later passes from block blocks place found)) (last_from-is passes (from + 1) (Some from) blocks place h)
    ] refl h

-- a found place stays found
last_from-Some : (passes : Block → Bool) (from place : ℕ) (blocks : List Block) → last_from passes from (Some place) blocks ≡ None → ⊥
last_from-Some passes from place [] h = absurd cc
last_from-Some passes from place (block ∷ blocks) h =
    elim (passes block) as (λ b. last_from passes (from + 1) (cond b (Some place) (Some from)) blocks ≡ None → ⊥) [
      | true ↦ λ h. last_from-Some passes (from + 1) place blocks h
      | false ↦ λ h. last_from-Some passes (from + 1) from blocks h
    ] h

-- where no place is found, all pass
last_from-None : (passes : Block → Bool) (from : ℕ) (blocks : List Block) → last_from passes from None blocks ≡ None → IsTrue (list_all passes blocks)
last_from-None passes from [] h = refl
last_from-None passes from (block ∷ blocks) h =
    elim (passes block) as (λ b. passes block ≡ b → last_from passes (from + 1) (cond b None (Some from)) blocks ≡ None → IsTrue (list_all passes (block ∷ blocks))) [
      | true ↦ λ is h. both passes block blocks is (last_from-None passes (from + 1) blocks h)
      | false ↦ λ is h. absurd (last_from-Some passes (from + 1) from blocks h)
    ] refl h

-- the place that a whole list gives
pub last_from-zero : (passes : Block → Bool) (blocks : List Block) (place : ℕ) → last_from passes 0 None blocks ≡ Some place → IsLastFailing passes blocks place
last_from-zero passes blocks place h =
    cases (λ (all : StaysFound passes None blocks place). absurd (cc all.found_is)) (λ (found : FoundLater passes 0 blocks place). record {
      front = found.front;
      block = found.block;
      back = found.back;
      whole = found.whole;
      at = omega (arith, found.at);
      fails = found.fails;
      rest = found.rest;
    }) (last_from-is passes 0 None blocks place h)

-- what a whole list gives
pub last_from-whole : (passes : Block → Bool) (blocks : List Block) (result : Option ℕ) → last_from passes 0 None blocks ≡ result → IfSome result (IsLastFailing passes blocks) × IfNone result (IsTrue (list_all passes blocks))
last_from-whole passes blocks None h = (tt, last_from-None passes 0 blocks h)
last_from-whole passes blocks (Some place) h = (last_from-zero passes blocks place h, tt)

-- taking out what stands between
remove-between : (front : List Block) (block : Block) (back : List Block) → remove (front ++ block ∷ back) (length front) ≡ front ++ back
remove-between [] block back = refl
remove-between (first ∷ front) block back = ap (λ rest. first ∷ rest) (remove-between front block back)

-- taking out the last failing block evicts it
pub evicts : (old new : Recency) (first second : Option Block) (blocks rest : List Block) (place : ℕ) (evicted : Block) → IsLastFailing (spares first second) blocks place → old.cached ≡ blocks → evicted ≡ get_or blocks place evicted → rest ≡ remove blocks place → new ≡ record old { cached = rest } → Evicts old new first second evicted
evicts old new first second blocks rest place evicted found old_is value rest_is new_is =
    let block_is : evicted ≡ found.block = value
    ∙ ap (λ all. get_or all place evicted) found.whole
    ∙ ap (λ k. get_or (found.front ++ found.block ∷ found.back) k evicted) found.at
    ∙ get_or-append_seam found.front found.block found.back evicted in
    let left : rest ≡ found.front ++ found.back = rest_is
    ∙ ap (λ all. remove all place) found.whole
    ∙ ap (λ k. remove (found.front ++ found.block ∷ found.back) k) found.at
    ∙ remove-between found.front found.block found.back in
    record {
      front = found.front;
      back = found.back;
      whole = old_is ∙ found.whole ∙ ap (λ block. found.front ++ block ∷ found.back) (sym block_is);
      other = subst (λ (block : Block). spares first second block ≡ false) (sym block_is) found.fails;
      rest = found.rest;
      without = new_is ∙ ap (λ cached. record old { cached = cached }) left;
    }
