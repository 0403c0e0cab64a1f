-- One entry of the enabled list performed, and which block it may drop.
use Rattle.std.specs.Prelude.{◌≡◌, ℕ, List, [], ◌∷◌, map, filter, Bool, false, if◌then◌else◌, nat_lt, is_none, IsTrue, Option, Some, None, option_map, slice_set, ◌++◌}
use Rattle.std.specs.List.{list_any}
use Rattle.sial_syntax.specs.declared.access.Access.{Access}
use Rattle.sial_syntax.specs.declared.access.Access.TheVariants.{Read}
use Rattle.sial_syntax.specs.declared.access.Class.{Class}
use Rattle.sial_syntax.specs.declared.access.Class.TheVariants.{Distributed, Served}
use Rattle.sial_meaning.specs.declared.clash.Clash.{Clash}
use Rattle.sial_meaning.specs.Next as next
use Rattle.sial_meaning.specs.Next.{Task, next_of, Asks, asked}
use Rattle.sial_meaning.specs.Own.{Own}
use Rattle.sial_meaning.specs.Access.{clash_of}
use Rattle.sial_meaning.specs.Setting.{Setting}
use Rattle.sial_meaning.specs.Statement.{Named, named}
use Rattle.sip_model.specs.declared.message.Body.{Body}
use Rattle.sip_model.specs.declared.message.Body.TheVariants as body
use Rattle.sip_model.specs.declared.options.Options.{Options}
use Rattle.sip_model.specs.Acting.{Action, Halt, Fetch, Get, action, is_full, is_spare}
use Rattle.sip_model.specs.Delivering.{Performed, Moved, Trapped, number_dropped, delivered}
use Rattle.sip_model.specs.Doing.{Acted, acted}
use Rattle.sip_model.specs.Enabled.{Choice, ByWorker, ByMessage, ByServer}
use Rattle.sip_model.specs.Flight.{Flying}
use Rattle.sip_model.specs.Machines.{Machine, at_place, worker_at, server_at, serving_at, with_serving, taking_out}
use Rattle.sip_model.specs.Owners.{made_if, cell_at}
use Rattle.sip_model.specs.Placement.{server_of}
use Rattle.sip_model.specs.Servers.{Kept, Server, must_evict, flushed}
use Rattle.sip_model.specs.Workers.{Cached, Worker, same_named}

-- a block that may be dropped, with the number of its last use
pub record Candidate : Type 0 where
  pub block : Named
  pub used : ℕ

-- the operands of the statement that comes next, if it has shared ones
abbrev pub operands_of : Setting → Own → Asks → List Named
operands_of g own (next.Operands blocks) = map (named g own) blocks
operands_of g own _ = []

-- the operands of what comes next
abbrev pub operands_at : Setting → Own → Task → List Named
operands_at g own (next.Statement line form more) = operands_of g own (asked g form)
operands_at g own _ = []

-- the cached blocks that a worker may drop: none where it has room, else each that is no operand of the next statement
abbrev pub worker_candidates : Setting → Options → Worker → List Candidate
worker_candidates g o x =
    if is_full o x
    then map (λ (c : Cached). record { block = c.block; used = c.used }) (filter (is_spare (operands_at g x.own (next_of x.rest))) x.cache)
    else []

-- the blocks that may be dropped by an action: one that asks for a block may drop one
abbrev pub dropped_by : Setting → Options → Worker → Action → List Candidate
dropped_by g o x (Fetch block line) = worker_candidates g o x
dropped_by g o x (Get block line to) = worker_candidates g o x
dropped_by g o x _ = []

-- the cached blocks of a server
abbrev pub server_candidates : Server → List Candidate
server_candidates server = map (λ (k : Kept). record { block = record { class = Served; block = k.block }; used = k.used }) server.kept

-- the blocks that may be evicted for an access that stands
abbrev pub evicted_for : Options → Machine → (block : ℕ) → Option Clash → List Candidate
evicted_for o s block None =
    if must_evict o (server_at s (server_of o block)) block then server_candidates (server_at s (server_of o block)) else []
evicted_for o s block (Some clash) = []

-- the blocks that may be evicted for an access to a block of this class
abbrev pub evicted_by : Options → Machine → Class → (block epoch : ℕ) → Access → (line : ℕ) → List Candidate
evicted_by o s Distributed block epoch how line = []
evicted_by o s Served block epoch how line = evicted_for o s block (clash_of (cell_at s.stored block).mark epoch how line)

-- the blocks that may be evicted at a delivery
abbrev pub evicted_at : Options → Machine → Body → List Candidate
evicted_at o s (body.Request class block epoch line) = evicted_by o s class block epoch Read line
evicted_at o s (body.Put class block epoch line how put origin) = evicted_by o s class block epoch how line
evicted_at o s _ = []

-- the same where a message is at this place
abbrev pub evicted_if : Options → Machine → Option Flying → List Candidate
evicted_if o s None = []
evicted_if o s (Some f) = evicted_at o s f.message.body

-- the blocks of which an entry drops one; none where it drops nothing
abbrev pub candidates : Setting → Options → Machine → Choice → List Candidate
candidates g o s (ByWorker w) = dropped_by g o (worker_at g s w) (action g o (worker_at g s w))
candidates g o s (ByMessage place) = evicted_if o s (at_place s.flight place)
candidates g o s (ByServer v) = []

-- whether a drop is permitted: exactly one candidate, where there is any
abbrev pub is_permitted : List Candidate → Option Named → Bool
is_permitted [] dropped = is_none dropped
is_permitted (c ∷ cs) None = false
is_permitted (c ∷ cs) (Some block) = list_any (λ (d : Candidate). same_named d.block block) (c ∷ cs)

-- of a candidate and another, where there is one, that which was used longer ago
abbrev pub older_of : Candidate → Option Candidate → Candidate
older_of c None = c
older_of c (Some other) = if nat_lt other.used c.used then other else c

-- the candidate used longest ago
abbrev pub oldest : List Candidate → Option Candidate
oldest [] = None
oldest (c ∷ cs) = Some (older_of c (oldest cs))

-- the LRU drop: the candidate used longest ago
abbrev pub least_recent_of : List Candidate → Option Named
least_recent_of cs = option_map (λ (c : Candidate). c.block) (oldest cs)

-- an entry may drop this
abbrev pub Permits : Setting → Options → Machine → Choice → Option Named → Type 0
Permits g o s choice dropped = IsTrue (is_permitted (candidates g o s choice) dropped)

-- the LRU drop of an entry
abbrev pub least_recent_drop : Setting → Options → Machine → Choice → Option Named
least_recent_drop g o s choice = least_recent_of (candidates g o s choice)

-- an entry drops the candidate used longest ago
abbrev pub IsLeastRecent : Setting → Options → Machine → Choice → Option Named → Type 0
IsLeastRecent g o s choice dropped = dropped ≡ least_recent_drop g o s choice

-- the machine after what an action does
abbrev pub acted_in : Setting → Options → Machine → (worker : ℕ) → Acted → Machine
acted_in g o s worker a = record s {
  workers = slice_set s.workers worker a.to;
  homed = made_if g o worker a.makes s.homed;
  flight = s.flight ++ a.posts;
}

-- a worker's action performed
abbrev pub performed_by : Setting → Options → Machine → (worker : ℕ) → Option Named → Action → Performed
performed_by g o s worker dropped (Halt trap) = Trapped trap worker
performed_by g o s worker dropped action = Moved (acted_in g o s worker (acted o worker (worker_at g s worker) dropped action))

-- the message at a place delivered, where there is one
abbrev pub delivered_at : Setting → Options → Machine → (place : ℕ) → Option Named → Option Flying → Performed
delivered_at g o s place dropped None = Moved s
delivered_at g o s place dropped (Some f) =
    delivered g o (taking_out place s) (number_dropped dropped) f.message.from f.message.to f.words f.message.body

-- an entry performed, with a block dropped where one is named
unfoldable pub perform : Setting → Options → Machine → Choice → Option Named → Performed
perform g o s (ByWorker w) dropped = performed_by g o s w dropped (action g o (worker_at g s w))
perform g o s (ByMessage place) dropped = delivered_at g o s place dropped (at_place s.flight place)
perform g o s (ByServer v) dropped = Moved (with_serving v (flushed (serving_at s v)) s)
