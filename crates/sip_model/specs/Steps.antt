-- One entry of the machine as a relation: one case for each kind of entry; and the states that entries lead to.
use Rattle.std.specs.Prelude.{◌≡◌, ℕ, ◌-◌, ◌<◌, List, ◌∷◌, ◌++◌, true, false, nat_lt, IsTrue, Option, Some, None}
use Rattle.sial_syntax.specs.declared.access.Access.{Access}
use Rattle.sial_syntax.specs.declared.access.Class.{Class}
use Rattle.sial_syntax.specs.declared.access.Class.TheVariants.{Distributed, Served}
use Rattle.sial_meaning.specs.declared.clash.Clash.{Clash}
use Rattle.sial_meaning.specs.declared.trap.Trap.{Trap}
use Rattle.sial_meaning.specs.Access.{Found}
use Rattle.sial_meaning.specs.Setting.{Setting}
use Rattle.sial_meaning.specs.Statement.{Named}
use Rattle.sip_model.specs.declared.message.Body.{Body}
use Rattle.sip_model.specs.declared.message.Body.TheVariants as body
use Rattle.sip_model.specs.declared.message.Origin.{Origin}
use Rattle.sip_model.specs.declared.options.Options.{Options}
use Rattle.sip_model.specs.Acting.{Action}
use Rattle.sip_model.specs.Acts.{Acts, Stops}
use Rattle.sip_model.specs.Delivering.{Performed, Moved, Trapped, Conflict, number_dropped, at_home, at_server, box_at, with_answer, to_all}
use Rattle.sip_model.specs.Doing.{acted}
use Rattle.sip_model.specs.Flight.{Flying, carrying, bare}
use Rattle.sip_model.specs.Hears.{Hears, Released}
use Rattle.sip_model.specs.Machines.{Machine, start_machine, worker_at, with_worker, server_at, serving_at, with_serving, posting}
use Rattle.sip_model.specs.Masters.{Master, instance_at, may_ask, chunk_of, chunk_given, none_given, with_arrival, is_met, after_meeting, sum_of_shares}
use Rattle.sip_model.specs.Owners.{Accessing, reading, writing, cell_at, clash_at, taken_away_if}
use Rattle.sip_model.specs.Performing.{is_permitted, dropped_by, evicted_for, acted_in}
use Rattle.sip_model.specs.Servers.{is_unwritten, flushed}
use Rattle.sip_model.specs.Workers.{Worker}

-- the machine with these messages in flight
abbrev pub flying : List Flying → Machine → Machine
flying flight s = record s { flight = flight }

-- how many numbers the master gives next to the worker that asks
abbrev pub next_chunk : Setting → Options → Machine → (asking : Flying) → (instance : ℕ) → ℕ
next_chunk g o s f instance = chunk_of o.workers (box_at g (worker_at g s f.message.from).rest - (instance_at s.master instance).next)

-- a message is an access to a block, with the answer made of the block's elements before it
pub data Accesses (f : Flying) : Class → (block : ℕ) → Accessing → (List ℕ → Flying) → Type 0 where
  reads : (class : Class) (block epoch line : ℕ) → f.message.body ≡ body.Request class block epoch line
      → Accesses f class block (reading epoch line) (carrying f.message.to f.message.from (body.Reply class block))
  writes : (class : Class) (block epoch line : ℕ) (how : Access) (put : ℕ) (origin : Origin)
      → f.message.body ≡ body.Put class block epoch line how put origin
      → Accesses f class block (writing epoch how line f.words) (λ old. bare f.message.to f.message.from (body.Ack put))

-- a message is an arrival at a sync point: the master with it, where the worker is, and the answer to all once all are there
pub data Meets (o : Options) (m : Master) (f : Flying) : Master → (sync place : ℕ) → (answer : Body) → Type 0 where
  arriving : (sync place : ℕ) → f.message.body ≡ body.Arrive sync place
      → Meets o m f (with_arrival f.message.from (record { sync = sync; place = place; value = 0 }) m) sync place (body.Release sync)
  contributing : (sync place value : ℕ) → f.message.body ≡ body.Contribute sync place value
      → Meets o m f (with_arrival f.message.from (record { sync = sync; place = place; value = value }) m) sync place
      (body.Total sync (sum_of_shares o.workers (with_arrival f.message.from (record { sync = sync; place = place; value = value }) m)))

-- the machine after one entry
pub data Step (g : Setting) (o : Options) (s : Machine) : Machine → Type 0 where
  -- a worker acts
  acts : (w : ℕ) (action : Action) (dropped : Option Named) → w < o.workers → Acts g o (worker_at g s w) action
      → IsTrue (is_permitted (dropped_by g o (worker_at g s w) action) dropped)
      → Step g o s (acted_in g o s w (acted o w (worker_at g s w) dropped action))
  -- an access comes to the home of its block
  comes_home : (xs : List Flying) (f : Flying) (ys : List Flying) (block : ℕ) (access : Accessing) (answer : List ℕ → Flying)
      → s.flight ≡ xs ++ f ∷ ys
      → Accesses f Distributed block access answer → clash_at (cell_at s.homed block) access ≡ None
      → Step g o s (at_home (flying (xs ++ ys) s) block access answer)
  -- an access comes to its block's server
  comes_to_server : (xs : List Flying) (f : Flying) (ys : List Flying) (block : ℕ) (access : Accessing) (answer : List ℕ → Flying)
      (dropped : Option Named) → s.flight ≡ xs ++ f ∷ ys
      → Accesses f Served block access answer → clash_at (cell_at s.stored block) access ≡ None
      → IsTrue (is_permitted (evicted_for o s block None) dropped)
      → Step g o s (at_server o (flying (xs ++ ys) s) block access (number_dropped dropped) answer)
  -- a worker hears
  hears : (xs : List Flying) (f : Flying) (ys : List Flying) (x : Worker) → s.flight ≡ xs ++ f ∷ ys
      → Hears g (worker_at g s f.message.to) f.message.body f.words x → Step g o s (with_worker f.message.to x (flying (xs ++ ys) s))
  -- a worker hears a Release
  releases : (xs : List Flying) (f : Flying) (ys : List Flying) (sync : ℕ) (x : Worker) (deleted : Option ℕ) → s.flight ≡ xs ++ f ∷ ys
      → f.message.body ≡ body.Release sync
      → Released g (worker_at g s f.message.to) x deleted
      → Step g o s (record (with_worker f.message.to x (flying (xs ++ ys) s)) { homed = taken_away_if g o f.message.to deleted s.homed })
  -- the master gives numbers of a box
  gives : (xs : List Flying) (f : Flying) (ys : List Flying) (instance place : ℕ) → s.flight ≡ xs ++ f ∷ ys
      → f.message.body ≡ body.Ask instance place
      → may_ask o.workers s.master instance place ≡ true
      → nat_lt (instance_at s.master instance).next (box_at g (worker_at g s f.message.from).rest) ≡ true
      → Step g o s (with_answer f.message.from (chunk_given instance place (next_chunk g o s f instance) s.master) (flying (xs ++ ys) s))
  -- the master says that none is left
  says_none : (xs : List Flying) (f : Flying) (ys : List Flying) (instance place : ℕ) → s.flight ≡ xs ++ f ∷ ys
      → f.message.body ≡ body.Ask instance place
      → may_ask o.workers s.master instance place ≡ true
      → nat_lt (instance_at s.master instance).next (box_at g (worker_at g s f.message.from).rest) ≡ false
      → Step g o s (with_answer f.message.from (none_given f.message.from instance place s.master) (flying (xs ++ ys) s))
  -- a worker has arrived, and not all have
  waits : (xs : List Flying) (f : Flying) (ys : List Flying) (m : Master) (sync place : ℕ) (answer : Body) → s.flight ≡ xs ++ f ∷ ys
      → Meets o s.master f m sync place answer
      → is_met o.workers sync place m ≡ false → Step g o s (record (flying (xs ++ ys) s) { master = m })
  -- all have arrived
  meets : (xs : List Flying) (f : Flying) (ys : List Flying) (m : Master) (sync place : ℕ) (answer : Body) → s.flight ≡ xs ++ f ∷ ys
      → Meets o s.master f m sync place answer
      → is_met o.workers sync place m ≡ true
      → Step g o s (posting (to_all o.workers answer) (record (flying (xs ++ ys) s) { master = after_meeting o.workers m }))
  -- a server flushes
  flushes : (v : ℕ) → v < o.servers → is_unwritten (server_at s v) ≡ true → Step g o s (with_serving v (flushed (serving_at s v)) s)

-- the states that entries lead to
pub data Reach (g : Setting) (o : Options) : Machine → Type 0 where
  at_start : Reach g o (start_machine g o)
  then_step : {s t : Machine} → Reach g o s → Step g o s t → Reach g o t

-- a worker of the machine comes to a trap
abbrev pub IsTrap : Setting → Options → Machine → Trap → (worker : ℕ) → Type 0
IsTrap g o s trap worker = (worker < o.workers) × Stops g o (worker_at g s worker) trap

-- the clash of an access in flight with the mark of its block
abbrev pub clash_by : Machine → Class → (block : ℕ) → Accessing → Option Clash
clash_by s Distributed block access = clash_at (cell_at s.homed block) access
clash_by s Served block access = clash_at (cell_at s.stored block) access

-- a message in flight finds its block in a conflicting state
pub data IsConflict (s : Machine) : Found → Type 0 where
  clashes : (xs : List Flying) (f : Flying) (ys : List Flying) (class : Class) (block : ℕ) (access : Accessing)
      (answer : List ℕ → Flying) (clash : Clash) → s.flight ≡ xs ++ f ∷ ys
      → Accesses f class block access answer → clash_by s class block access ≡ Some clash
      → IsConflict s (record { class = class; block = block; epoch = access.epoch; clash = clash })

-- where an entry leads, by the relations
abbrev pub Leads : Setting → Options → Machine → Performed → Type 0
Leads g o s (Moved t) = Step g o s t
Leads g o s (Trapped trap worker) = IsTrap g o s trap worker
Leads g o s (Conflict found) = IsConflict s found
