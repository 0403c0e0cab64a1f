-- The enabled list: what the machine may do next, in order.
use Rattle.std.specs.Prelude.{ℕ, ◌%◌, List, ◌++◌, map, filter, length, Bool, true, false, Option}
use Rattle.std.specs.List.{enumerate_from}
use Rattle.sial_syntax.specs.Boxes.{numbers_from}
use Rattle.sial_meaning.specs.Setting.{Setting}
use Rattle.sip_model.specs.declared.message.Body.{Body}
use Rattle.sip_model.specs.declared.message.Body.TheVariants as body
use Rattle.sip_model.specs.declared.options.Options.{Options}
use Rattle.sip_model.specs.Acting.{Action, Idle, action}
use Rattle.sip_model.specs.Flight.{Flying}
use Rattle.sip_model.specs.Machines.{Machine, at_place, worker_at, server_at}
use Rattle.sip_model.specs.Masters.{may_ask}
use Rattle.sip_model.specs.Servers.{is_unwritten}

-- an entry of the enabled list: a worker's action, the delivery of the message at a place, or a server's flush
pub data Choice : Type 0 where
  ByWorker : (worker : ℕ) → Choice
  ByMessage : (place : ℕ) → Choice
  ByServer : (server : ℕ) → Choice

-- whether there is something to do
abbrev pub is_something : Action → Bool
is_something Idle = false
is_something _ = true

-- whether a message may be delivered: each but an Ask that the master holds back
abbrev pub may_go : Options → Machine → Body → Bool
may_go o s (body.Ask instance place) = may_ask o.workers s.master instance place
may_go o s _ = true

-- the workers that have an action
abbrev pub able_workers : Setting → Options → Machine → List ℕ
able_workers g o s = filter (λ w. is_something (action g o (worker_at g s w))) (numbers_from 0 o.workers)

-- the places of the messages that may be delivered
abbrev pub ready_places : Options → Machine → List ℕ
ready_places o s = map (λ (e : ℕ × Flying). e.0) (filter (λ (e : ℕ × Flying). may_go o s e.1.message.body) (enumerate_from 0 s.flight))

-- the servers with an unwritten block
abbrev pub unwritten_servers : Options → Machine → List ℕ
unwritten_servers o s = filter (λ v. is_unwritten (server_at s v)) (numbers_from 0 o.servers)

-- the enabled list: workers by number, then messages in order, then servers by number
unfoldable pub enabled : Setting → Options → Machine → List Choice
enabled g o s = map ByWorker (able_workers g o s) ++ (map ByMessage (ready_places o s) ++ map ByServer (unwritten_servers o s))

-- the place of the enabled list that a choice takes
abbrev pub place_taken : (choice : ℕ) → List Choice → ℕ
place_taken choice entries = choice % length entries

-- the entry that a choice takes, if any is enabled
abbrev pub taken : (choice : ℕ) → List Choice → Option Choice
taken choice entries = at_place entries (place_taken choice entries)
