-- What a delivery does: at the owner of a block, at the master, and at a worker.
use Rattle.std.specs.Prelude.{ℕ, List, [], ◌∷◌, map, Bool, true, false, slice_set, Option, Some, None, option_map}
use Rattle.sial_syntax.specs.declared.access.Class.{Class}
use Rattle.sial_syntax.specs.declared.access.Class.TheVariants.{Distributed, Served}
use Rattle.sial_syntax.specs.Boxes.{numbers_from, volume}
use Rattle.sial_syntax.specs.Spaces.{box_of}
use Rattle.sial_meaning.specs.declared.clash.Clash.{Clash}
use Rattle.sial_meaning.specs.declared.trap.Trap.{Trap}
use Rattle.sial_meaning.specs.Access.{Found}
use Rattle.sial_meaning.specs.Rest.{Rest, Over, Next, Turn, Join, Back, Within}
use Rattle.sial_meaning.specs.Setting.{Setting}
use Rattle.sial_meaning.specs.Statement.{Named}
use Rattle.sip_model.specs.declared.message.Body.{Body}
use Rattle.sip_model.specs.declared.message.Body.TheVariants as body
use Rattle.sip_model.specs.declared.options.Options.{Options}
use Rattle.sip_model.specs.Flight.{Flying, master_actor, carrying, bare}
use Rattle.sip_model.specs.Hearing.{replied, acknowledged, given_while, released_while, totalled_while, deleted_while}
use Rattle.sip_model.specs.Machines.{Machine, worker_at, with_worker, serving_at, with_serving, posting}
use Rattle.sip_model.specs.Masters.{Master, Answered, answered, with_arrival, is_met, after_meeting, sum_of_shares}
use Rattle.sip_model.specs.Owners.{Accessing, reading, writing, cell_at, clash_at, accessed_at, taken_away_if}
use Rattle.sip_model.specs.Placement.{server_of}
use Rattle.sip_model.specs.Servers.{kept_at, served_words, evicted, after_access}
use Rattle.sip_model.specs.Workers.{Worker}

-- where an entry leads: on, or to a worker's trap, or to an access that finds its block in a conflicting state
pub data Performed : Type 0 where
  Moved : Machine → Performed
  Trapped : Trap → (worker : ℕ) → Performed
  Conflict : Found → Performed

-- the block that was dropped, by its number
abbrev pub number_dropped : Option Named → Option ℕ
number_dropped dropped = option_map (λ (b : Named). b.block) dropped

-- an access to a distributed block that stands, with the answer made of the block's elements before it
abbrev pub at_home : Machine → (block : ℕ) → Accessing → (List ℕ → Flying) → Machine
at_home s block access answer =
    posting
    (answer (cell_at s.homed block).words ∷ [])
    (record s { homed = slice_set s.homed block (accessed_at (cell_at s.homed block) access) })

-- an access to a served block that stands, behind an eviction where a block is named
abbrev pub at_server : Options → Machine → (block : ℕ) → Accessing → (evicts : Option ℕ) → (List ℕ → Flying) → Machine
at_server o s block access evicts answer =
    posting
    (answer (served_words (kept_at (serving_at s (server_of o block)).server block) (cell_at s.stored block)) ∷ [])
    (with_serving (server_of o block) (after_access access block (evicted evicts (serving_at s (server_of o block)))) s)

-- an access to a block by its mark: it stands, or it conflicts
abbrev pub unless_clash : Class → (block epoch : ℕ) → Option Clash → Machine → Performed
unless_clash class block epoch None s = Moved s
unless_clash class block epoch (Some clash) s = Conflict (record { class = class; block = block; epoch = epoch; clash = clash })

-- an access delivered to the owner of its block
abbrev pub accessed_by : Options → Machine → Class → (block : ℕ) → Accessing → (evicts : Option ℕ) → (List ℕ → Flying) → Performed
accessed_by o s Distributed block access evicts answer =
    unless_clash Distributed block access.epoch (clash_at (cell_at s.homed block) access) (at_home s block access answer)
accessed_by o s Served block access evicts answer =
    unless_clash Served block access.epoch (clash_at (cell_at s.stored block) access) (at_server o s block access evicts answer)

-- how many numbers the box of the pardo has at whose end the work stands
abbrev pub box_at : Setting → Rest → ℕ
box_at g (Within pardo number rest) = volume (box_of g.spaces pardo.indices)
box_at g (Over at) = 0
box_at g (Next at line form rest) = 0
box_at g (Turn loop last rest) = 0
box_at g (Join at rest) = 0
box_at g (Back at values rest) = 0

-- the master's answer posted to a worker
abbrev pub with_answer : (worker : ℕ) → Answered → Machine → Machine
with_answer worker a s = posting (bare master_actor worker (body.Give a.given) ∷ []) (record s { master = a.master })

-- messages of the master to all workers, by number
abbrev pub to_all : (workers : ℕ) → Body → List Flying
to_all workers what = map (λ w. bare master_actor w what) (numbers_from 0 workers)

-- a sync point passed where all have arrived, with this answer to all; else the arrival alone
abbrev pub met_by : Options → Machine → Master → (met : Bool) → Body → Machine
met_by o s m true answer = posting (to_all o.workers answer) (record s { master = after_meeting o.workers m })
met_by o s m false answer = record s { master = m }

-- an arrival at the master
abbrev pub arrived_by : Options → Machine → (sync place : ℕ) → Master → Machine
arrived_by o s sync place m = met_by o s m (is_met o.workers sync place m) (body.Release sync)

-- a contribution at the master
abbrev pub contributed_by : Options → Machine → (sync place : ℕ) → Master → Machine
contributed_by o s sync place m = met_by o s m (is_met o.workers sync place m) (body.Total sync (sum_of_shares o.workers m))

-- a worker after a delivery to it
abbrev pub heard_by : Setting → Machine → (worker : ℕ) → (Worker → Worker) → Machine
heard_by g s worker hears = with_worker worker (hears (worker_at g s worker)) s

-- a Release at a worker, with the blocks of a deleted array taken away at its home
abbrev pub released_by : Setting → Options → Machine → (worker : ℕ) → Worker → Machine
released_by g o s worker x = record s {
  workers = slice_set s.workers worker (released_while g x.waits x);
  homed = taken_away_if g o worker (deleted_while g x.waits x) s.homed;
}

-- what the delivery of a message does to the machine out of which it was taken, with a block evicted where one is named
abbrev pub delivered : Setting → Options → Machine → (evicts : Option ℕ) → (from to : ℕ) → (words : List ℕ) → Body → Performed
delivered g o s evicts from to words (body.Request class block epoch line) =
    accessed_by o s class block (reading epoch line) evicts (carrying to from (body.Reply class block))
delivered g o s evicts from to words (body.Put class block epoch line how put origin) =
    accessed_by o s class block (writing epoch how line words) evicts (λ old. bare to from (body.Ack put))
delivered g o s evicts from to words (body.Reply class block) =
    Moved (heard_by g s to (replied (record { class = class; block = block }) words))
delivered g o s evicts from to words (body.Ack put) = Moved (heard_by g s to (acknowledged put))
delivered g o s evicts from to words (body.Ask instance place) =
    Moved (with_answer from (answered o.workers from instance place (box_at g (worker_at g s from).rest) s.master) s)
delivered g o s evicts from to words (body.Give given) = Moved (heard_by g s to (λ x. given_while x.waits given x))
delivered g o s evicts from to words (body.Arrive sync place) =
    Moved (arrived_by o s sync place (with_arrival from (record { sync = sync; place = place; value = 0 }) s.master))
delivered g o s evicts from to words (body.Release sync) = Moved (released_by g o s to (worker_at g s to))
delivered g o s evicts from to words (body.Contribute sync place value) =
    Moved (contributed_by o s sync place (with_arrival from (record { sync = sync; place = place; value = value }) s.master))
delivered g o s evicts from to words (body.Total sync sum) = Moved (heard_by g s to (λ x. totalled_while g sum x.waits x))
