-- Legal runs: entries with states under choices; those that drop the block used longest ago (LRU), and how a run stands.
use Rattle.std.specs.Prelude.{◌≡◌, ℕ, zero, suc, List, [], ◌∷◌, ◌++◌, length, Bool, true, false, Option, Some, None, slice_index_or}
use Rattle.std.specs.List.{list_all}
use Rattle.sial_syntax.specs.Boxes.{numbers_from}
use Rattle.sial_meaning.specs.declared.trap.Trap.{Trap}
use Rattle.sial_meaning.specs.Access.{Found}
use Rattle.sial_meaning.specs.Rest.{Rest, Over, Next, Turn, Join, Back, Within}
use Rattle.sial_meaning.specs.Setting.{Setting}
use Rattle.sial_meaning.specs.Statement.{Named}
use Rattle.sip_model.specs.declared.entry.Entry.{Entry}
use Rattle.sip_model.specs.declared.options.Options.{Options}
use Rattle.sip_model.specs.Delivering.{Performed, Moved, Trapped, Conflict}
use Rattle.sip_model.specs.Enabled.{Choice, enabled, place_taken, taken}
use Rattle.sip_model.specs.Machines.{Machine, start_machine, worker_at}
use Rattle.sip_model.specs.Performing.{Permits, IsLeastRecent, least_recent_drop, perform}
use Rattle.sip_model.specs.Recorded.{entry_of, seen}

-- how a run stands: it goes on, or it has ended
pub data Standing : Type 0 where
  Open : Standing
  AllDone : Standing
  Stuck : Standing
  InTrap : Trap → (worker : ℕ) → Standing
  InConflict : Found → Standing

-- whether the work is at the program's end
abbrev pub is_over : Rest → Bool
is_over (Over at) = true
is_over (Next at line form rest) = false
is_over (Turn loop last rest) = false
is_over (Join at rest) = false
is_over (Back at values rest) = false
is_over (Within pardo number rest) = false

-- whether all workers are at the program's end
abbrev pub all_over : Setting → Options → Machine → Bool
all_over g o s = list_all (λ w. is_over (worker_at g s w).rest) (numbers_from 0 o.workers)

-- the choices of a list: behind its end each is 0
abbrev pub choices_of : List ℕ → ℕ → ℕ
choices_of list k = slice_index_or list k 0

-- what the record has of an entry taken by a choice
abbrev pub recorded : Setting → Options → Machine → (choice : ℕ) → Choice → Option Named → Entry
recorded g o s choice c dropped = entry_of (length (enabled g o s)) (place_taken choice (enabled g o s)) dropped (seen g o s c)

-- what an entry may drop: in each legal run what is permitted, in an LRU one what was used longest ago
abbrev pub Allowing : Type 1
Allowing = Machine → Choice → Option Named → Type 0

-- an entry at hand: enabled, taken by the choice, with a drop that is allowed
pub record Takes
    (allows : Allowing) (g : Setting) (o : Options) (s : Machine) (choice : ℕ) (c : Choice) (dropped : Option Named)
    : Type 0 where
  pub taken_by : taken choice (enabled g o s) ≡ Some c
  pub allowed : allows s c dropped

-- a run under choices, with its entries, its last state and how it stands; a trap or a conflict is its last entry and leaves the state
pub data RunBy (allows : Allowing) (g : Setting) (o : Options) (choices : ℕ → ℕ) : List Entry → Machine → Standing → Type 0 where
  begins : RunBy allows g o choices [] (start_machine g o) Open
  goes : {entries : List Entry} {s : Machine} (c : Choice) (dropped : Option Named) (t : Machine)
      → RunBy allows g o choices entries s Open → Takes allows g o s (choices (length entries)) c dropped
      → perform g o s c dropped ≡ Moved t
      → RunBy allows g o choices (entries ++ recorded g o s (choices (length entries)) c dropped ∷ []) t Open
  traps : {entries : List Entry} {s : Machine} (c : Choice) (dropped : Option Named) (trap : Trap) (worker : ℕ)
      → RunBy allows g o choices entries s Open → Takes allows g o s (choices (length entries)) c dropped
      → perform g o s c dropped ≡ Trapped trap worker
      → RunBy allows g o choices (entries ++ recorded g o s (choices (length entries)) c dropped ∷ []) s (InTrap trap worker)
  conflicts : {entries : List Entry} {s : Machine} (c : Choice) (dropped : Option Named) (found : Found)
      → RunBy allows g o choices entries s Open → Takes allows g o s (choices (length entries)) c dropped
      → perform g o s c dropped ≡ Conflict found
      → RunBy allows g o choices (entries ++ recorded g o s (choices (length entries)) c dropped ∷ []) s (InConflict found)
  ends : {entries : List Entry} {s : Machine} → RunBy allows g o choices entries s Open → enabled g o s ≡ [] → all_over g o s ≡ true
      → RunBy allows g o choices entries s AllDone
  stops : {entries : List Entry} {s : Machine} → RunBy allows g o choices entries s Open → enabled g o s ≡ [] → all_over g o s ≡ false
      → RunBy allows g o choices entries s Stuck

-- a legal run
abbrev pub Legal : (g : Setting) (o : Options) (choices : ℕ → ℕ) → List Entry → Machine → Standing → Type 0
Legal g o choices entries s standing = RunBy (Permits g o) g o choices entries s standing

-- an LRU run
abbrev pub LeastRecent : (g : Setting) (o : Options) (choices : ℕ → ℕ) → List Entry → Machine → Standing → Type 0
LeastRecent g o choices entries s standing = RunBy (IsLeastRecent g o) g o choices entries s standing

-- entries with the state behind them and how that run stands
pub record Course : Type 0 where
  pub entries : List Entry
  pub state : Machine
  pub standing : Standing

-- a run behind one more entry, by where it leads
abbrev pub with_entry : Course → Entry → Performed → Course
with_entry r e (Moved t) = record { entries = r.entries ++ e ∷ []; state = t; standing = Open }
with_entry r e (Trapped trap worker) = record { entries = r.entries ++ e ∷ []; state = r.state; standing = InTrap trap worker }
with_entry r e (Conflict found) = record { entries = r.entries ++ e ∷ []; state = r.state; standing = InConflict found }

-- a run at which nothing is enabled
abbrev pub ended : Course → (over : Bool) → Course
ended r true = record r { standing = AllDone }
ended r false = record r { standing = Stuck }

-- a run behind the entry that a choice takes, with the LRU drop
abbrev pub entry_taken : Setting → Options → (choice : ℕ) → Course → Option Choice → Course
entry_taken g o choice r None = ended r (all_over g o r.state)
entry_taken g o choice r (Some c) =
    with_entry
    r
    (recorded g o r.state choice c (least_recent_drop g o r.state c))
    (perform g o r.state c (least_recent_drop g o r.state c))

-- a run one entry on, or at its end
abbrev pub one_on : Setting → Options → (choice : ℕ) → Course → Standing → Course
one_on g o choice r Open = entry_taken g o choice r (taken choice (enabled g o r.state))
one_on g o choice r _ = r

-- the LRU run of so many entries, or up to its end
abbrev pub least_recent_run : Setting → Options → (choices : ℕ → ℕ) → (count : ℕ) → Course
least_recent_run g o choices zero = record { entries = []; state = start_machine g o; standing = Open }
least_recent_run g o choices (suc n) = (λ (r : Course). one_on g o (choices n) r r.standing) (least_recent_run g o choices n)
