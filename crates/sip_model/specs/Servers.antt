-- A server: the blocks that it caches before the store, and what a delivery and a flush make of both.
use Rattle.std.specs.Prelude.{ℕ, ◌+◌, List, [], ◌∷◌, ◌++◌, map, length, Bool, true, false, ◌==◌, ◌&&◌, not, if◌then◌else◌, nat_lt, is_some, slice_set, Option, Some, None, find, filter}
use Rattle.std.specs.List.{list_any}
use Rattle.sial_syntax.specs.declared.access.Access.{Access}
use Rattle.sial_syntax.specs.declared.access.Access.TheVariants.{Read, Add, Max, Store}
use Rattle.sip_model.specs.declared.options.Options.{Options}
use Rattle.sip_model.specs.Owners.{Cell, Accessing, cell_at, marked, words_after}

-- a block that a server caches: whether the store has it so, and the number of the delivery that used it last
pub record Kept : Type 0 where
  pub block : ℕ
  pub words : List ℕ
  pub written : Bool
  pub used : ℕ

-- a server, with the deliveries so far, by which they are numbered from 0
pub record Server : Type 0 where
  pub kept : List Kept
  pub deliveries : ℕ

-- a server with the store
pub record Serving : Type 0 where
  pub server : Server
  pub stored : List Cell

-- a server as the program begins
abbrev pub start_server : Server
start_server = record { kept = []; deliveries = 0 }

-- whether a cached block is this one
abbrev pub is_kept_block : (block : ℕ) → Kept → Bool
is_kept_block block k = k.block == block

-- the cached block of this number
abbrev pub kept_at : Server → (block : ℕ) → Option Kept
kept_at server block = find (is_kept_block block) server.kept

-- whether a server caches a block
abbrev pub keeps : Server → (block : ℕ) → Bool
keeps server block = is_some (kept_at server block)

-- the elements of a block: the cached ones, or else the store's
abbrev pub served_words : Option Kept → Cell → List ℕ
served_words None cell = cell.words
served_words (Some k) cell = k.words

-- a block of the store written
abbrev pub stored_at : (block : ℕ) → (words : List ℕ) → List Cell → List Cell
stored_at block words stored = slice_set stored block (record (cell_at stored block) { words = words })

-- the store after a cached block left: one that it doesn't have so is written
abbrev pub written_out : Option Kept → List Cell → List Cell
written_out None stored = stored
written_out (Some k) stored = if k.written then stored else stored_at k.block k.words stored

-- a cached block that leaves, where one is named
abbrev pub evicted : Option ℕ → Serving → Serving
evicted None s = s
evicted (Some block) s = record {
  server = record s.server { kept = filter (λ (k : Kept). not (is_kept_block block k)) s.server.kept };
  stored = written_out (kept_at s.server block) s.stored;
}

-- whether an access leaves a block as the store has it
abbrev pub stays_written : Access → (written : Bool) → Bool
stays_written Read written = written
stays_written Add written = false
stays_written Max written = false
stays_written Store written = false

-- a block brought into the cache by an access
abbrev pub brought : Accessing → (block : ℕ) → (old : List ℕ) → (number : ℕ) → Kept
brought access block old number =
    record { block = block; words = words_after access.kind old access.words; written = stays_written access.kind true; used = number }

-- a cached block used once more
abbrev pub used_again : Accessing → (block number : ℕ) → Kept → Kept
used_again access block number k =
    if is_kept_block block k
    then record k { words = words_after access.kind k.words access.words; written = stays_written access.kind k.written; used = number }
    else k

-- the cached blocks after an access
abbrev pub kept_after : Accessing → (block : ℕ) → Serving → (cached : Bool) → List Kept
kept_after access block s true = map (used_again access block s.server.deliveries) s.server.kept
kept_after access block s false = s.server.kept ++ brought access block (cell_at s.stored block).words s.server.deliveries ∷ []

-- a server and the store after an access that stands, behind the eviction
abbrev pub after_access : Accessing → (block : ℕ) → Serving → Serving
after_access access block s = record {
  server = record { kept = kept_after access block s (keeps s.server block); deliveries = s.server.deliveries + 1 };
  stored = slice_set s.stored block (marked (cell_at s.stored block) access);
}

-- whether a delivery for a block evicts another: where it isn't cached, and as many are as may be
abbrev pub must_evict : Options → Server → (block : ℕ) → Bool
must_evict o server block = not (keeps server block) && not (nat_lt (length server.kept) o.server_cache)

-- whether a server has a block that the store doesn't have so
abbrev pub is_unwritten : Server → Bool
is_unwritten server = list_any (λ (k : Kept). not k.written) server.kept

-- the lesser of a number and a block's, where there is one
abbrev pub least_of : Kept → Option Kept → Kept
least_of k None = k
least_of k (Some other) = if nat_lt other.block k.block then other else k

-- the unwritten block of the least number
abbrev pub first_unwritten : List Kept → Option Kept
first_unwritten [] = None
first_unwritten (k ∷ ks) = if k.written then first_unwritten ks else Some (least_of k (first_unwritten ks))

-- a cached block that was written
abbrev pub written_now : (block : ℕ) → Kept → Kept
written_now block k = if is_kept_block block k then record k { written = true } else k

-- a block written to the store, where one is unwritten
abbrev pub flushed_block : Option Kept → Serving → Serving
flushed_block None s = s
flushed_block (Some k) s = record {
  server = record s.server { kept = map (written_now k.block) s.server.kept };
  stored = stored_at k.block k.words s.stored;
}

-- a flush
abbrev pub flushed : Serving → Serving
flushed s = flushed_block (first_unwritten s.server.kept) s
