-- What the machine promises of all its runs. Each is a named statement; one that no public function ensures is claimed nowhere.
use Rattle.std.specs.Prelude.{◌≡◌, ◌≢◌, ℕ, ◌+◌, ◌≤◌, ◌<◌, List, [], length, count_by, false, ◌⊎◌, Option, Some, None}
use Rattle.std.specs.List.{Contains}
use Rattle.sial_syntax.specs.declared.access.Class.{Class}
use Rattle.sial_syntax.specs.declared.access.Class.TheVariants.{Distributed}
use Rattle.sial_syntax.specs.Tree.{Plain}
use Rattle.sial_meaning.specs.Accepted.{Accepts}
use Rattle.sial_meaning.specs.Access.{Mark}
use Rattle.sial_meaning.specs.Meaning.{sequential}
use Rattle.sial_meaning.specs.Next as next
use Rattle.sial_meaning.specs.Next.{next_of, asked}
use Rattle.sial_meaning.specs.Rest.{Rest}
use Rattle.sial_meaning.specs.Setting.{Setting}
use Rattle.sial_meaning.specs.Sound.{IsSound}
use Rattle.sial_meaning.specs.State.{epoch_of}
use Rattle.sial_meaning.specs.Statement.{Outcome, Went, Stopped}
use Rattle.sip_model.specs.declared.entry.Entry.{Entry}
use Rattle.sip_model.specs.declared.message.Body.{Body}
use Rattle.sip_model.specs.declared.message.Body.TheVariants as body
use Rattle.sip_model.specs.declared.options.Options.{Options}
use Rattle.sip_model.specs.CountsOf.{most_steps}
use Rattle.sip_model.specs.Flight.{Flying}
use Rattle.sip_model.specs.Legal as run
use Rattle.sip_model.specs.Legal.{Standing, Open, AllDone, Stuck, InTrap, InConflict, Legal}
use Rattle.sip_model.specs.Machines.{Machine, worker_at}
use Rattle.sip_model.specs.Owners.{cell_at}
use Rattle.sip_model.specs.Results.{lines, result, sequential_result}
use Rattle.sip_model.specs.SizeClasses.{widest_class}
use Rattle.sip_model.specs.Slots.{slots_of, held, at_class}
use Rattle.sip_model.specs.StepBound.{step_bound}
use Rattle.sip_model.specs.Traffic.{is_control_of, is_transfer_of}
use Rattle.sip_model.specs.Workers.{ForRelease, places_taken}

-- options within the limits
pub record IsWithin (o : Options) : Type 0 where
  pub some_workers : 1 ≤ o.workers
  pub workers : o.workers ≤ 32
  pub some_servers : 1 ≤ o.servers
  pub servers : o.servers ≤ 8
  pub two_places : 2 ≤ o.cache
  pub cache : o.cache ≤ 64
  pub some_puts : 1 ≤ o.puts
  pub puts : o.puts ≤ 16
  pub some_room : 1 ≤ o.server_cache
  pub server_cache : o.server_cache ≤ 64
  pub place : length o.place ≤ 65536

-- a fact of every legal run, with its entries, its last state and how it stands: of each sound setting, accepted or not, all options
-- within the limits, all choices, LRU or not
abbrev pub OfRuns : (Setting → Options → List Entry → Machine → Standing → Type 0) → Type 0
OfRuns fact =
    (g : Setting) (o : Options) → IsSound g → IsWithin o
    → (choices : ℕ → ℕ) (entries : List Entry) (s : Machine) (standing : Standing) → Legal g o choices entries s standing
    → fact g o entries s standing

-- a fact of every state that a legal run comes to
abbrev pub OfStates : (Setting → Options → Machine → Type 0) → Type 0
OfStates fact = OfRuns (λ g o entries s standing. fact g o s)

-- the sync points that a worker passed: Releases and Totals that it was given
abbrev pub syncs : Setting → Machine → (worker : ℕ) → ℕ
syncs g s worker = (worker_at g s worker).passed.syncs

-- two workers in lockstep: where both passed as many sync points they have the same epochs and created flags, and neither passed two
-- more than the other
pub record InLockstep (g : Setting) (s : Machine) (v w : ℕ) : Type 0 where
  pub epochs : syncs g s v ≡ syncs g s w → (worker_at g s v).epochs ≡ (worker_at g s w).epochs
  pub created : syncs g s v ≡ syncs g s w → (worker_at g s v).own.created ≡ (worker_at g s w).own.created
  pub near : syncs g s v ≤ syncs g s w + 1

-- lockstep: any two workers are
abbrev pub Lockstep : Type 0
Lockstep = OfStates (λ g o s. (v w : ℕ) → v < o.workers → w < o.workers → InLockstep g s v w)

-- no message of a class that a worker asked for is in flight
abbrev pub IsQuiet : Setting → Machine → (worker : ℕ) → Class → Type 0
IsQuiet g s worker class =
    (f : Flying) → Contains s.flight f
    → is_transfer_of worker (worker_at g s worker) class f.message.from f.message.to f.message.body ≡ false

-- quiet class at a barrier: a worker that waits for the Release of a sync point that ends a class's epoch has no message of that class
-- in flight
abbrev pub QuietAtBarriers : Type 0
QuietAtBarriers = OfStates (λ g o s.
    (w line : ℕ) (form : Plain) (more : Rest) (class : Class) → w < o.workers → (worker_at g s w).waits ≡ ForRelease
    → next_of (worker_at g s w).rest ≡ next.Statement line form more → asked g form ≡ next.Sync class → IsQuiet g s w class)

-- an epoch isn't below that of a mark
abbrev pub IsNotBelow : (epoch : ℕ) → Option Mark → Type 0
IsNotBelow epoch None = Unit {0}
IsNotBelow epoch (Some mark) = mark.epoch ≤ epoch

-- the mark of a shared block
abbrev pub mark_of : Machine → Class → (block : ℕ) → Option Mark
mark_of s Distributed block = (cell_at s.homed block).mark
mark_of s _ block = (cell_at s.stored block).mark

-- an epoch in a message is its worker's present one of that class, and not below the mark of the block
pub record IsPresent (g : Setting) (s : Machine) (worker : ℕ) (class : Class) (block epoch : ℕ) : Type 0 where
  pub epoch_is : epoch ≡ epoch_of (worker_at g s worker).epochs class
  pub mark : IsNotBelow epoch (mark_of s class block)

-- a message that accesses a block carries its worker's epoch
abbrev pub CarriesEpoch : Setting → Machine → (from : ℕ) → Body → Type 0
CarriesEpoch g s from (body.Request class block epoch line) = IsPresent g s from class block epoch
CarriesEpoch g s from (body.Put class block epoch line how put origin) = IsPresent g s from class block epoch
CarriesEpoch g s from _ = Unit {0}

-- each Request and each Put in flight does
abbrev pub MessagesCarryEpochs : Type 0
MessagesCarryEpochs = OfStates (λ g o s. (f : Flying) → Contains s.flight f → CarriesEpoch g s f.message.from f.message.body)

-- a distributed block is there
abbrev pub IsThere : Machine → Class → (block : ℕ) → Type 0
IsThere s Distributed block = (cell_at s.homed block).words ≢ []
IsThere s _ block = Unit {0}

-- the block of a message is there
abbrev pub FindsBlock : Machine → Body → Type 0
FindsBlock s (body.Request class block epoch line) = IsThere s class block
FindsBlock s (body.Put class block epoch line how put origin) = IsThere s class block
FindsBlock s _ = Unit {0}

-- addressed block is present: the block of each Request and each Put in flight is at its home
abbrev pub AddressedBlocksAreThere : Type 0
AddressedBlocksAreThere = OfStates (λ g o s. (f : Flying) → Contains s.flight f → FindsBlock s f.message.body)

-- the traffic of a worker is bounded: its cached and awaited blocks, its puts, and the messages of control from or to it
pub record HasBoundedTraffic (g : Setting) (o : Options) (s : Machine) (w : ℕ) : Type 0 where
  pub cache : places_taken (worker_at g s w) ≤ o.cache
  pub puts : length (worker_at g s w).puts ≤ o.puts
  pub control : count_by (is_control_of w) s.flight ≤ 1

-- bounded traffic: that of each worker is
abbrev pub BoundedTraffic : Type 0
BoundedTraffic = OfStates (λ g o s. (w : ℕ) → w < o.workers → HasBoundedTraffic g o s w)

-- a run has ended
abbrev pub HasEnded : Standing → Type 0
HasEnded Open = ⊥
HasEnded _ = Unit {0}

-- two runs of as many entries are one, as far as they went
pub record IsOneRun (entries other : List Entry) (s t : Machine) (standing ending : Standing) : Type 0 where
  pub entries_are : entries ≡ other
  pub states_are : s ≡ t
  pub standings_are : HasEnded standing → HasEnded ending → standing ≡ ending

-- there is an LRU run of so many entries, or one that has ended before
abbrev pub HasLeastRecentRun : Setting → Options → (choices : ℕ → ℕ) → (count : ℕ) → Type 0
HasLeastRecentRun g o choices count =
    (entries : List Entry) × ((s : Machine) × ((standing : Standing) × (run.LeastRecent g o choices entries s standing
    × ((length entries ≡ count) ⊎ ((length entries < count) × HasEnded standing)))))

-- there is one LRU run of each length up to the end
pub record OneLeastRecentRun : Type 0 where
  pub some : (g : Setting) (o : Options) (choices : ℕ → ℕ) (count : ℕ) → HasLeastRecentRun g o choices count
  pub one : (g : Setting) (o : Options) (choices : ℕ → ℕ) (entries other : List Entry) (s t : Machine) (standing ending : Standing)
      → run.LeastRecent g o choices entries s standing → run.LeastRecent g o choices other t ending → length entries ≡ length other
      → IsOneRun entries other s t standing ending

-- lines and result are those of the outcome of the sequential meaning
abbrev pub IsResultOf : Setting → Options → Machine → Outcome → Type 0
IsResultOf g o s (Went t) = (lines g s ≡ t.lines) × (result g o s ≡ sequential_result g t)
IsResultOf g o s (Stopped trap t) = ⊥

-- a run stands as one that agrees: no trap and no conflict, and the sequential result where it is done
abbrev pub Agrees : Setting → Options → Machine → Standing → Type 0
Agrees g o s Open = Unit {0}
Agrees g o s AllDone = IsResultOf g o s (sequential g)
Agrees g o s Stuck = Unit {0}
Agrees g o s (InTrap trap worker) = ⊥
Agrees g o s (InConflict found) = ⊥

-- agreement: each run of an accepted program does
abbrev pub Agreement : Type 0
Agreement = OfRuns (λ g o entries s standing. Accepts g → Agrees g o s standing)

-- never stuck: no run of an accepted program is
abbrev pub NeverStuck : Type 0
NeverStuck = OfRuns (λ g o entries s standing. Accepts g → standing ≢ Stuck)

-- pools suffice: a worker holds no more than its slots of each size class, and of the widest one less, which is left for a right side
abbrev pub PoolsSuffice : Type 0
PoolsSuffice =
    OfStates (λ g o s. (w class : ℕ) → w < o.workers → held g o w class s + at_class class (widest_class g) 1 ≤ slots_of g o w class)

-- ending: a run has no more entries than the bound, where that is within its limit
abbrev pub Ending : Type 0
Ending = OfRuns (λ g o entries s standing. step_bound g o.workers ≤ most_steps → length entries ≤ step_bound g o.workers)

-- the rule is tight: only an accepted program has a run that is done
abbrev pub OnlyAcceptedEndWell : Type 0
OnlyAcceptedEndWell = OfRuns (λ g o entries s standing. standing ≡ AllDone → Accepts g)
