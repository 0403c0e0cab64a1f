-- What the record says of an entry: its fields, and their 32 bytes.
use Rattle.std.specs.Prelude.{ℕ, zero, suc, ◌+◌, ◌-◌, ◌/◌, ◌%◌, ◌^◌, List, [], ◌∷◌, ◌++◌, flat_map, Option, Some, None, option_map, unwrap_or}
use Rattle.sial_syntax.specs.declared.access.Class.{Class}
use Rattle.sial_syntax.specs.declared.access.Class.TheVariants.{Distributed, Served}
use Rattle.sial_meaning.specs.Setting.{Setting}
use Rattle.sial_meaning.specs.Statement.{Named}
use Rattle.sip_model.specs.declared.entry.Entry.{Entry}
use Rattle.sip_model.specs.declared.message.Body.{Body}
use Rattle.sip_model.specs.declared.message.Body.TheVariants as body
use Rattle.sip_model.specs.declared.message.Origin.{Origin}
use Rattle.sip_model.specs.declared.options.Options.{Options}
use Rattle.sip_model.specs.Acting.{Action, Idle, Halt, Run, Fetch, Get, Have, Put, Arrive, Contribute, Ask, action}
use Rattle.sip_model.specs.Doing.{origin_of}
use Rattle.sip_model.specs.Enabled.{Choice, ByWorker, ByMessage, ByServer}
use Rattle.sip_model.specs.Flight.{Flying, server_actor}
use Rattle.sip_model.specs.Machines.{Machine, at_place, worker_at, server_at}
use Rattle.sip_model.specs.Servers.{Kept, first_unwritten}
use Rattle.sip_model.specs.Workers.{Worker}

-- what the record says of an entry beside its place and what it dropped
pub record Seen : Type 0 where
  pub kind : ℕ
  pub actor : ℕ
  pub peer : ℕ
  pub named : Option Named
  pub origin : Option Origin

-- the number of an action
abbrev pub action_number : Action → ℕ
action_number Idle = 0
action_number (Run to) = 1
action_number (Fetch block line) = 2
action_number (Get block line to) = 3
action_number (Have block to) = 3
action_number (Put block line how words to) = 4
action_number (Arrive class creates) = 5
action_number (Contribute value) = 6
action_number Ask = 7
action_number (Halt trap) = 8

-- the block of an action
abbrev pub action_block : Action → Option Named
action_block (Fetch block line) = Some block
action_block (Get block line to) = Some block
action_block (Have block to) = Some block
action_block (Put block line how words to) = Some block
action_block _ = None

-- the origin of an action
abbrev pub action_origin : Worker → Action → Option Origin
action_origin x (Put block line how words to) = Some (origin_of x)
action_origin x _ = None

-- the number of a delivery
abbrev pub delivery_number : Body → ℕ
delivery_number (body.Request class block epoch line) = 16
delivery_number (body.Reply class block) = 17
delivery_number (body.Put class block epoch line how put origin) = 18
delivery_number (body.Ack put) = 19
delivery_number (body.Ask instance place) = 20
delivery_number (body.Give given) = 21
delivery_number (body.Arrive sync place) = 22
delivery_number (body.Release sync) = 23
delivery_number (body.Contribute sync place value) = 24
delivery_number (body.Total sync sum) = 25

-- the block of a delivery
abbrev pub delivery_block : Body → Option Named
delivery_block (body.Request class block epoch line) = Some (record { class = class; block = block })
delivery_block (body.Reply class block) = Some (record { class = class; block = block })
delivery_block (body.Put class block epoch line how put origin) = Some (record { class = class; block = block })
delivery_block _ = None

-- the origin of a delivery
abbrev pub delivery_origin : Body → Option Origin
delivery_origin (body.Put class block epoch line how put origin) = Some origin
delivery_origin _ = None

-- what is seen of a worker's action
abbrev pub seen_action : (worker : ℕ) → Worker → Action → Seen
seen_action worker x a = record { kind = action_number a; actor = worker; peer = 0; named = action_block a; origin = action_origin x a }

-- what is seen of a delivery, where a message is at its place
abbrev pub seen_delivery : Option Flying → Seen
seen_delivery None = record { kind = 0; actor = 0; peer = 0; named = None; origin = None }
seen_delivery (Some f) = record {
  kind = delivery_number f.message.body;
  actor = f.message.from;
  peer = f.message.to;
  named = delivery_block f.message.body;
  origin = delivery_origin f.message.body;
}

-- what is seen of a flush
abbrev pub seen_flush : (server : ℕ) → Option Kept → Seen
seen_flush server kept = record {
  kind = 32;
  actor = server_actor server;
  peer = 0;
  named = option_map (λ (k : Kept). record { class = Served; block = k.block }) kept;
  origin = None;
}

-- what is seen of an entry
abbrev pub seen : Setting → Options → Machine → Choice → Seen
seen g o s (ByWorker w) = seen_action w (worker_at g s w) (action g o (worker_at g s w))
seen g o s (ByMessage place) = seen_delivery (at_place s.flight place)
seen g o s (ByServer v) = seen_flush v (first_unwritten (server_at s v).kept)

-- the number that stands for no block
abbrev pub unused_block : ℕ
unused_block = 2 ^ 32 - 1

-- the number of a class
abbrev pub class_number : Class → ℕ
class_number Distributed = 1
class_number Served = 2

-- a dropped block: a served one has the highest bit set
abbrev pub dropped_number : Class → (block : ℕ) → ℕ
dropped_number Distributed block = block
dropped_number Served block = 2 ^ 31 + block

-- the entry that the record has of one that was taken at this place of so many, and dropped this
abbrev pub entry_of : (enabled place : ℕ) → Option Named → Seen → Entry
entry_of enabled place dropped e = record {
  enabled = enabled;
  place = place;
  action = e.kind;
  actor = e.actor;
  peer = e.peer;
  class = unwrap_or (option_map (λ (b : Named). class_number b.class) e.named) 0;
  block = unwrap_or (option_map (λ (b : Named). b.block) e.named) unused_block;
  dropped = unwrap_or (option_map (λ (b : Named). dropped_number b.class b.block) dropped) unused_block;
  instance = unwrap_or (option_map (λ (from : Origin). from.instance % 2 ^ 32) e.origin) 0;
  iteration = unwrap_or (option_map (λ (from : Origin). from.iteration) e.origin) 0;
  ordinal = unwrap_or (option_map (λ (from : Origin). from.ordinal % 2 ^ 32) e.origin) 0;
}

-- the last so many bytes of a number, the most significant first
abbrev pub big_endian : (count : ℕ) → ℕ → List ℕ
big_endian zero n = []
big_endian (suc count) n = big_endian count (n / 256) ++ n % 256 ∷ []

-- the 32 bytes of an entry
abbrev pub entry_bytes : Entry → List ℕ
entry_bytes e =
    big_endian 4 e.enabled
    ++ (big_endian 4 e.place
    ++ (e.action ∷ e.actor ∷ e.peer ∷ e.class ∷ big_endian 4 e.block
    ++ (big_endian 4 e.dropped
    ++ (big_endian 4 e.instance
    ++ (big_endian 4 e.iteration
    ++ big_endian 4 e.ordinal)))))

-- the bytes of a record
abbrev pub record_bytes : List Entry → List ℕ
record_bytes entries = flat_map entry_bytes entries
