-- Laws that lead from the functions to the relations, and from LRU runs to legal ones.
use Rattle.std.specs.Prelude.{◌≡◌, ℕ, List, length, Option, Some}
use Rattle.sial_meaning.specs.Setting.{Setting}
use Rattle.sial_meaning.specs.Statement.{Named}
use Rattle.sip_model.specs.declared.entry.Entry.{Entry}
use Rattle.sip_model.specs.declared.options.Options.{Options}
use Rattle.sip_model.specs.Acting.{action}
use Rattle.sip_model.specs.Acts.{ActsBy}
use Rattle.sip_model.specs.Enabled.{Choice, enabled, taken}
use Rattle.sip_model.specs.Legal as run
use Rattle.sip_model.specs.Legal.{Standing, Legal, Course, least_recent_run}
use Rattle.sip_model.specs.Machines.{Machine}
use Rattle.sip_model.specs.Performing.{Permits, perform}
use Rattle.sip_model.specs.Steps.{Reach, Leads}
use Rattle.sip_model.specs.Workers.{Worker}

-- a worker's action is one that the relation has
abbrev pub ActionsAreActs : Type 0
ActionsAreActs = (g : Setting) (o : Options) (x : Worker) → ActsBy g o x (action g o x)

-- an entry that a choice takes, performed with a permitted drop, leads where the relations say
abbrev pub EntriesAreSteps : Type 0
EntriesAreSteps =
    (g : Setting) (o : Options) (s : Machine) (choice : ℕ) (c : Choice) (dropped : Option Named)
    → taken choice (enabled g o s) ≡ Some c → Permits g o s c dropped → Leads g o s (perform g o s c dropped)

-- the state of a legal run is one that entries lead to
abbrev pub RunsReach : Type 0
RunsReach =
    (g : Setting) (o : Options) (choices : ℕ → ℕ) (entries : List Entry) (s : Machine) (standing : Standing)
    → Legal g o choices entries s standing → Reach g o s

-- an LRU run is legal
abbrev pub LeastRecentRunsAreLegal : Type 0
LeastRecentRunsAreLegal =
    (g : Setting) (o : Options) (choices : ℕ → ℕ) (entries : List Entry) (s : Machine) (standing : Standing)
    → run.LeastRecent g o choices entries s standing → Legal g o choices entries s standing

-- an LRU run has the entries and the state of the computed run of as many entries
pub record IsComputed (g : Setting) (o : Options) (choices : ℕ → ℕ) (entries : List Entry) (s : Machine) : Type 0 where
  pub entries_are : entries ≡ (least_recent_run g o choices (length entries)).entries
  pub state_is : s ≡ (least_recent_run g o choices (length entries)).state

-- each LRU run is computed
abbrev pub LeastRecentRunsAreComputed : Type 0
LeastRecentRunsAreComputed =
    (g : Setting) (o : Options) (choices : ℕ → ℕ) (entries : List Entry) (s : Machine) (standing : Standing)
    → run.LeastRecent g o choices entries s standing → IsComputed g o choices entries s
