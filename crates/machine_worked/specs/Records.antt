-- Entries as they are recorded, written shortly, and what an LRU run of some entries is.
use Rattle.std.specs.Prelude.{◌≡◌, ℕ, suc, List, [], length}
use Rattle.sial_meaning.specs.Setting.{Setting}
use Rattle.sip_model.specs.declared.entry.Entry.{Entry}
use Rattle.sip_model.specs.declared.options.Options.{Options}
use Rattle.sip_model.specs.Legal.{Standing, choices_of, least_recent_run}
use Rattle.sip_model.specs.Recorded.{unused_block}
use Rattle.sip_model.specs.Results.{lines}

-- an entry about no block: enabled, place, action, actor and peer
abbrev pub quiet : (enabled place action actor peer : ℕ) → Entry
quiet enabled place action actor peer = record {
  enabled = enabled;
  place = place;
  action = action;
  actor = actor;
  peer = peer;
  class = 0;
  block = unused_block;
  dropped = unused_block;
  instance = 0;
  iteration = 0;
  ordinal = 0;
}

-- an entry about a block of a class
abbrev pub about : (enabled place action actor peer class block : ℕ) → Entry
about enabled place action actor peer class block = record (quiet enabled place action actor peer) { class = class; block = block }

-- an entry that dropped a block
abbrev pub dropping : (dropped : ℕ) → Entry → Entry
dropping dropped e = record e { dropped = dropped }

-- an entry about a put of this origin
abbrev pub from : (instance iteration ordinal : ℕ) → Entry → Entry
from instance iteration ordinal e = record e { instance = instance; iteration = iteration; ordinal = ordinal }

-- options of so many workers, the others by default
abbrev pub of_workers : ℕ → Options
of_workers workers = record { workers = workers; servers = 1; cache = 16; puts = 4; server_cache = 16; place = [] }

-- the LRU run under these choices has these entries, stands so, and has printed these lines
pub record Recorded
    (g : Setting) (o : Options) (choices : List ℕ) (entries : List Entry) (standing : Standing) (printed : List (List ℕ))
    : Type 0 where
  pub entries_are : (least_recent_run g o (choices_of choices) (suc (length entries))).entries ≡ entries
  pub stands : (least_recent_run g o (choices_of choices) (suc (length entries))).standing ≡ standing
  pub lines_are : lines g (least_recent_run g o (choices_of choices) (suc (length entries))).state ≡ printed
