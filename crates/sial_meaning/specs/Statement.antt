-- The meaning of one statement that holds no other: its tests in order, its reads, and its effect.
use Rattle.std.specs.Prelude.{ℕ, List, [], ◌∷◌, ◌++◌, map, Bool, true, false, ◌&&◌, not, if◌then◌else◌, Option, Some, None, Ok, Err, unwrap_or, slice_index_or}
use Rattle.std.specs.List.{list_any}
use Rattle.sial_syntax.specs.declared.access.Access.{Access}
use Rattle.sial_syntax.specs.declared.access.Access.TheVariants.{Read}
use Rattle.sial_syntax.specs.declared.access.Class.{Class}
use Rattle.sial_syntax.specs.declared.access.Class.TheVariants.{Distributed, Served}
use Rattle.sial_syntax.specs.declared.array.ArrayKind.{ArrayKind}
use Rattle.sial_syntax.specs.declared.array.ArrayKind.TheVariants as array
use Rattle.sial_syntax.specs.declared.operand.BlockRef.{BlockRef}
use Rattle.sial_syntax.specs.Tree.{Plain, Assign, Get, Request, Put, Prepare, Create, Delete, Collective, SipBarrier, ServerBarrier}
use Rattle.sial_meaning.specs.declared.trap.Trap.{Trap}
use Rattle.sial_meaning.specs.declared.trap.TrapKind.{TrapKind}
use Rattle.sial_meaning.specs.declared.trap.TrapKind.TheVariants.{NotCreated, AlreadyCreated}
use Rattle.sial_meaning.specs.Number.{plus}
use Rattle.sial_meaning.specs.Setting.{Setting, array_kind, class_of}
use Rattle.sial_meaning.specs.Own.{Own, scalar_of, with_scalar, is_created, with_created}
use Rattle.sial_meaning.specs.State.{Shared, State, shared_block, with_block, accessed_words, with_own, logged, epoch_ended, shared_number, with_zeros, without}
use Rattle.sial_meaning.specs.LocalStep.{Done, Answer, words_of, shared_in, local_step}

-- where statements lead: to a state, or to a trap with the state that it met
pub data Outcome : Type 0 where
  Went : State → Outcome
  Stopped : Trap → State → Outcome

-- what follows where no trap came
abbrev pub after : Outcome → (State → Outcome) → Outcome
after (Went s) next = next s
after (Stopped trap s) next = Stopped trap s

-- which shared blocks a read sees: those of now, or the copies from the beginning of the epoch
pub data Reading : Type 0 where
  Present : Reading
  Copied : Reading

-- the shared blocks that reads see
abbrev pub seen_by : Reading → State → Shared
seen_by Present s = s.shared
seen_by Copied s = s.copies

-- a shared block that a statement names
pub record Named : Type 0 where
  pub class : Class
  pub block : ℕ

-- the class of a shared array; other arrays aren't asked for it
abbrev pub class_or : Option Class → Class
class_or None = Distributed
class_or (Some class) = class

-- the shared block of a reference
abbrev pub named : Setting → Own → BlockRef → Named
named g own block = record { class = class_or (class_of g block.array); block = shared_number g own block }

-- the shared blocks that a statement reads, in order
abbrev pub reads_of : Setting → Plain → List BlockRef
reads_of g (Assign target op right) = shared_in g right
reads_of g (Get block) = block ∷ []
reads_of g (Request block) = block ∷ []
reads_of g _ = []

-- the arrays that a statement wants created
abbrev pub wants_created : Setting → Plain → List ℕ
wants_created g (Put block how from) = block.array ∷ []
wants_created g (Delete array) = array ∷ []
wants_created g form = map (λ (b : BlockRef). b.array) (reads_of g form)

-- whether a kind of array is distributed
abbrev pub is_distributed : ArrayKind → Bool
is_distributed array.Distributed = true
is_distributed _ = false

-- whether a distributed array isn't created
abbrev pub is_missing : Setting → Own → ℕ → Bool
is_missing g own array = is_distributed (array_kind g array) && not (is_created own array)

-- the trap of the created flags, if any
abbrev pub created_trap : Setting → Plain → Own → Option TrapKind
created_trap g (Create array) own = if is_created own array then Some AlreadyCreated else None
created_trap g form own = if list_any (is_missing g own) (wants_created g form) then Some NotCreated else None

-- the state after the reads of a statement were logged, in order
abbrev pub reads_logged : Setting → (line : ℕ) → List BlockRef → State → State
reads_logged g line [] s = s
reads_logged g line (b ∷ bs) s = reads_logged g line bs (logged s (named g s.own b).class (named g s.own b).block Read line)

-- the values of shared operands, in order
abbrev pub values_of : Setting → Reading → State → List BlockRef → List (List ℕ)
values_of g reading s blocks = map (λ b. shared_block (seen_by reading s) (named g s.own b).class (named g s.own b).block) blocks

-- a trap at a line
abbrev pub trap_at : (line : ℕ) → TrapKind → Trap
trap_at line kind = record { kind = kind; line = line }

-- where a local statement leads from the state in which its reads were logged
abbrev pub local_done : (line : ℕ) → State → Answer Done → Outcome
local_done line s (Ok done) = Went (record s { own = done.own; partials = done.partials; lines = s.lines ++ done.printed })
local_done line s (Err kind) = Stopped (trap_at line kind) s

-- a shared block after an access with these elements, which is logged
abbrev pub stored : (line : ℕ) → Named → Access → List ℕ → State → State
stored line place how words s =
    logged
    (record s { shared = with_block s.shared place.class place.block (accessed_words how (shared_block s.shared place.class place.block) words) })
    place.class
    place.block
    how
    line

-- where `put` and `prepare` lead
abbrev pub put_done : (line : ℕ) → Named → Access → State → Answer (List ℕ) → Outcome
put_done line place how s (Ok words) = Went (stored line place how words s)
put_done line place how s (Err kind) = Stopped (trap_at line kind) s

-- an array created: its blocks are zeros, and a distributed epoch ends
abbrev pub created : Setting → (array : ℕ) → State → State
created g array s = epoch_ended Distributed (record s { own = with_created array true s.own; shared = with_zeros g array Distributed s.shared })

-- an array deleted: its blocks are gone, and a distributed epoch ends
abbrev pub deleted : Setting → (array : ℕ) → State → State
deleted g array s = epoch_ended Distributed (record s { own = with_created array false s.own; shared = without g array Distributed s.shared })

-- a partial scalar added to a scalar
abbrev pub collected : (into from : ℕ) → State → State
collected into from s = with_own s (with_scalar into (plus (unwrap_or (scalar_of s.own into) 0) (slice_index_or s.partials from 0)) s.own)

-- the effect of a statement that holds no other, where its created flags are as it wants them
abbrev pub effect : Reading → Setting → (line : ℕ) → Plain → State → Outcome
effect reading g line (Get block) s = Went (reads_logged g line (block ∷ []) s)
effect reading g line (Request block) s = Went (reads_logged g line (block ∷ []) s)
effect reading g line (Put block how from) s = put_done line (named g s.own block) how s (words_of g s.own from [])
effect reading g line (Prepare block how from) s = put_done line (named g s.own block) how s (words_of g s.own from [])
effect reading g line (Create array) s = Went (created g array s)
effect reading g line (Delete array) s = Went (deleted g array s)
effect reading g line SipBarrier s = Went (epoch_ended Distributed s)
effect reading g line ServerBarrier s = Went (epoch_ended Served s)
effect reading g line (Collective into from) s = Went (collected into from s)
effect reading g line form s =
    local_done line (reads_logged g line (reads_of g form) s) (local_step g form (values_of g reading s (reads_of g form)) s.own s.partials)

-- the trap of the created flags, or what follows
abbrev pub unless_trapped : (line : ℕ) → State → Option TrapKind → (State → Outcome) → Outcome
unless_trapped line s None next = next s
unless_trapped line s (Some kind) next = Stopped (trap_at line kind) s

-- where a statement that holds no other leads
abbrev pub statement : Reading → Setting → (line : ℕ) → Plain → State → Outcome
statement reading g line form s = unless_trapped line s (created_trap g form s.own) (effect reading g line form)
