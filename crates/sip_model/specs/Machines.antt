-- The machine's state: workers, homed blocks, servers with their store, the master, and the messages in flight.
use Rattle.std.specs.Prelude.{ℕ, zero, suc, List, [], ◌∷◌, ◌++◌, ◌+◌, replicate, take, drop, slice_index_or, slice_set, Option, Some, None}
use Rattle.sial_meaning.specs.Setting.{Setting}
use Rattle.sip_model.specs.declared.options.Options.{Options}
use Rattle.sip_model.specs.Flight.{Flying}
use Rattle.sip_model.specs.Masters.{Master, start_master}
use Rattle.sip_model.specs.Owners.{Cell, start_homed, start_stored}
use Rattle.sip_model.specs.Servers.{Server, Serving, start_server}
use Rattle.sip_model.specs.Workers.{Worker, start_worker}

-- the machine; lists go by the numbers of workers, blocks and servers, and messages by the order of their posting
pub record Machine : Type 0 where
  pub workers : List Worker
  pub homed : List Cell
  -- served blocks as the store has them, with their marks
  pub stored : List Cell
  pub servers : List Server
  pub master : Master
  pub flight : List Flying

-- the machine as the program begins
abbrev pub start_machine : Setting → Options → Machine
start_machine g o = record {
  workers = replicate o.workers (start_worker g);
  homed = start_homed g;
  stored = start_stored g;
  servers = replicate o.servers start_server;
  master = start_master o.workers;
  flight = [];
}

-- the worker of this number
abbrev pub worker_at : Setting → Machine → (worker : ℕ) → Worker
worker_at g s worker = slice_index_or s.workers worker (start_worker g)

-- the machine with a worker replaced
abbrev pub with_worker : (worker : ℕ) → Worker → Machine → Machine
with_worker worker x s = record s { workers = slice_set s.workers worker x }

-- the server of this number
abbrev pub server_at : Machine → (server : ℕ) → Server
server_at s server = slice_index_or s.servers server start_server

-- a server with the store
abbrev pub serving_at : Machine → (server : ℕ) → Serving
serving_at s server = record { server = server_at s server; stored = s.stored }

-- the machine with a server and the store replaced
abbrev pub with_serving : (server : ℕ) → Serving → Machine → Machine
with_serving server serving s = record s { servers = slice_set s.servers server serving.server; stored = serving.stored }

-- the machine with messages posted
abbrev pub posting : List Flying → Machine → Machine
posting posts s = record s { flight = s.flight ++ posts }

-- the member at a place, if there is one
abbrev pub at_place : {X : Type 0} → List X → (place : ℕ) → Option X
at_place [] place = None
at_place (x ∷ xs) zero = Some x
at_place (x ∷ xs) (suc place) = at_place xs place

-- a list without the member at a place
abbrev pub without_at : {X : Type 0} → (place : ℕ) → List X → List X
without_at place xs = take place xs ++ drop (place + 1) xs

-- the machine with the message at a place taken out
abbrev pub taking_out : (place : ℕ) → Machine → Machine
taking_out place s = record s { flight = without_at place s.flight }
