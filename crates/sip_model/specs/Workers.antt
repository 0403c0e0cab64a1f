-- A worker: its work, what it holds, what it waits for, its cache and its puts.
use Rattle.std.specs.Prelude.{ℕ, ◌+◌, List, [], ◌∷◌, map, length, replicate, Bool, false, ◌==◌, ◌&&◌, ◌||◌, not, if◌then◌else◌, is_some, Option, Some, None, find, filter}
use Rattle.std.specs.List.{list_any}
use Rattle.sial_syntax.specs.declared.access.Class.{Class}
use Rattle.sial_syntax.specs.Numbering.{stop_at}
use Rattle.sial_syntax.specs.Spaces.{same_class}
use Rattle.sial_meaning.specs.Own.{Own, start_own}
use Rattle.sial_meaning.specs.Passed.{Passed}
use Rattle.sial_meaning.specs.Rest.{Rest, Over, push}
use Rattle.sial_meaning.specs.Setting.{Setting}
use Rattle.sial_meaning.specs.State.{Epochs}
use Rattle.sial_meaning.specs.Statement.{Named}

-- what a worker waits for
pub data Waits : Type 0 where
  ForNothing : Waits
  ForGive : Waits
  ForRelease : Waits
  ForTotal : Waits

-- numbers of a pardo's box that were given and not yet taken up: so many from the first on
pub record Chunk : Type 0 where
  pub first : ℕ
  pub count : ℕ

-- a block in a worker's cache, with the number of its last use
pub record Cached : Type 0 where
  pub block : Named
  pub words : List ℕ
  pub used : ℕ

-- a put that isn't acknowledged, with the class of its block
pub record Posted : Type 0 where
  pub put : ℕ
  pub class : Class

-- a worker; inside a pardo `own` is that of its iteration
pub record Worker : Type 0 where
  pub rest : Rest
  pub own : Own
  -- its own copy of each partial scalar, and 0 for the others
  pub partials : List ℕ
  pub epochs : Epochs
  -- sync points and pardos that it passed
  pub passed : Passed
  -- the lines that it printed
  pub lines : List (List ℕ)
  pub waits : Waits
  pub chunk : Chunk
  -- whether it was told that no number of its pardo is left
  pub told : Bool
  -- the number of its iteration, and how many puts this iteration posted
  pub iteration : ℕ
  pub ordinal : ℕ
  pub cache : List Cached
  -- its uses of cached blocks so far, by which they are numbered from 0
  pub uses : ℕ
  pub awaited : List Named
  pub puts : List Posted

-- no numbers
abbrev pub no_chunk : Chunk
no_chunk = record { first = 0; count = 0 }

-- a worker as the program begins
abbrev pub start_worker : Setting → Worker
start_worker g = record {
  rest = push 0 g.program.body (Over (stop_at g.program));
  own = start_own g;
  partials = replicate (length g.program.scalars) 0;
  epochs = record { distributed = 1; served = 1 };
  passed = record { syncs = 0; instances = 0 };
  lines = [];
  waits = ForNothing;
  chunk = no_chunk;
  told = false;
  iteration = 0;
  ordinal = 0;
  cache = [];
  uses = 0;
  awaited = [];
  puts = [];
}

-- whether two names are of one block
abbrev pub same_named : Named → Named → Bool
same_named a b = same_class a.class b.class && (a.block == b.block)

-- a block among cached ones
abbrev pub found_in : List Cached → Named → Option Cached
found_in cache block = find (λ (c : Cached). same_named c.block block) cache

-- whether a worker has a block in its cache
abbrev pub is_cached : Worker → Named → Bool
is_cached x block = is_some (found_in x.cache block)

-- whether a worker awaits a block
abbrev pub is_awaited : Worker → Named → Bool
is_awaited x block = list_any (same_named block) x.awaited

-- how many places of the cache are taken: by cached blocks and by awaited ones
abbrev pub places_taken : Worker → ℕ
places_taken x = length x.cache + length x.awaited

-- a cached block used once more, as the use of this number
abbrev pub used_once : (number : ℕ) → Named → Cached → Cached
used_once number block c = if same_named c.block block then record c { used = number } else c

-- a worker after it used a cached block
abbrev pub used : Named → Worker → Worker
used block x = record x { cache = map (used_once x.uses block) x.cache; uses = x.uses + 1 }

-- a worker after it used cached blocks in order
abbrev pub all_used : List Named → Worker → Worker
all_used [] x = x
all_used (b ∷ bs) x = all_used bs (used b x)

-- a cache without a block
abbrev pub without_block : Named → List Cached → List Cached
without_block block cache = filter (λ (c : Cached). not (same_named c.block block)) cache

-- a cache without one block, where one is named
abbrev pub without_dropped : Option Named → List Cached → List Cached
without_dropped None cache = cache
without_dropped (Some block) cache = without_block block cache

-- a cache without the blocks of a class
abbrev pub without_class : Class → List Cached → List Cached
without_class class cache = filter (λ (c : Cached). not (same_class c.block.class class)) cache

-- whether a worker has a transfer of a class under way: an awaited block, or a put that isn't acknowledged
abbrev pub is_transferring : Worker → Class → Bool
is_transferring x class =
    list_any (λ (b : Named). same_class b.class class) x.awaited || list_any (λ (p : Posted). same_class p.class class) x.puts
