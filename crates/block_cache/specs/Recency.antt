-- What a contract sees of a cache: its blocks in the order of their last use, and those that are awaited.
use Rattle.std.specs.Prelude.{◌≡◌, ℕ, ◌+◌, ◌≤◌, ◌==◌, ◌&&◌, ◌||◌, if◌then◌else◌, Bool, true, false, not, List, [], ◌∷◌, ◌++◌, length, IsTrue, Option, Some, None}
use Rattle.std.specs.List.{list_any, list_all, filter}
use Rattle.sial_syntax.specs.declared.access.Class.{Class}
use Rattle.block_cache.specs.declared.found.Found.{Found}
use Rattle.block_cache.specs.declared.found.Found.TheVariants.{Cached, Awaited, Absent}
use Rattle.sial_syntax.specs.Spaces.{same_class}

-- a shared block: its class and its number
abbrev pub Block : Type 0
Block = Class × ℕ

-- the cached blocks, most recently used first, the awaited ones, and how many there may be together
pub record Recency : Type 0 where
  pub cached : List Block
  pub awaited : List Block
  pub places : ℕ

-- whether two blocks are one
abbrev pub same_block : Block → Block → Bool
same_block a b = same_class a.0 b.0 && a.1 == b.1

-- whether a block is one of these
abbrev pub has_block : List Block → Block → Bool
has_block blocks block = list_any (same_block block) blocks

-- the other blocks, in their order
abbrev pub without : Block → List Block → List Block
without block blocks = filter (λ other. not (same_block block other)) blocks

-- the blocks of the other class, in their order
abbrev pub without_class : Class → List Block → List Block
without_class class blocks = filter (λ block. not (same_class class block.0)) blocks

-- whether a block is this one, if there is one
abbrev pub is_it : Option Block → Block → Bool
is_it None block = false
is_it (Some one) block = same_block one block

-- whether a block is one of these two
abbrev pub spares : Option Block → Option Block → Block → Bool
spares first second block = is_it first block || is_it second block

-- whether each block stands once
abbrev pub are_distinct : List Block → Bool
are_distinct [] = true
are_distinct (block ∷ blocks) = not (has_block blocks block) && are_distinct blocks

-- no block is cached or awaited twice, and they have their places
pub record Fits (cached awaited : List Block) (places : ℕ) : Type 0 where
  pub distinct : IsTrue (are_distinct (cached ++ awaited))
  pub room : length cached + length awaited ≤ places
  pub most : places ≤ 64

-- whether a block is cached, awaited or neither
abbrev pub found_in : Recency → Block → Found
found_in cache block =
    if has_block cache.cached block then Cached else if has_block cache.awaited block then Awaited else Absent

-- nothing cached or awaited
abbrev pub empty_cache : ℕ → Recency
empty_cache places = record { cached = []; awaited = []; places = places }

-- the block was used last
abbrev pub after_touch : Recency → Block → Recency
after_touch cache block = record cache { cached = block ∷ without block cache.cached }

-- the block is awaited
abbrev pub after_await : Recency → Block → Recency
after_await cache block = record cache { awaited = cache.awaited ++ block ∷ [] }

-- the awaited block is there, and was used last
abbrev pub after_arrival : Recency → Block → Recency
after_arrival cache block = record { cached = block ∷ cache.cached; awaited = without block cache.awaited; places = cache.places }

-- the blocks of a class are dropped
abbrev pub after_drop : Recency → Class → Recency
after_drop cache class = record cache { cached = without_class class cache.cached }

-- of these blocks this is the last that doesn't pass the test, with so many before it
pub record IsLastFailing (passes : Block → Bool) (blocks : List Block) (place : ℕ) : Type 0 where
  pub front : List Block
  pub block : Block
  pub back : List Block
  pub whole : blocks ≡ front ++ block ∷ back
  pub at : place ≡ length front
  pub fails : passes block ≡ false
  pub rest : IsTrue (list_all passes back)

-- the last cached block that isn't one of two was taken out
pub record Evicts (old new : Recency) (first second : Option Block) (evicted : Block) : Type 0 where
  pub front : List Block
  pub back : List Block
  pub whole : old.cached ≡ front ++ evicted ∷ back
  pub other : spares first second evicted ≡ false
  pub rest : IsTrue (list_all (spares first second) back)
  pub without : new ≡ record old { cached = front ++ back }
