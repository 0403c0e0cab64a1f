-- What a worker does next by itself: at most one action, by the first item of its work.
use Rattle.std.specs.Prelude.{ℕ, zero, suc, ◌+◌, List, [], ◌∷◌, ◌++◌, map, length, Bool, true, false, ◌==◌, ◌&&◌, not, if◌then◌else◌, nat_lt, Option, Some, None, Ok, Err, find, unwrap_or, slice_index_or}
use Rattle.std.specs.List.{list_any, list_all}
use Rattle.sial_syntax.specs.declared.access.Access.{Access}
use Rattle.sial_syntax.specs.declared.access.Class.{Class}
use Rattle.sial_syntax.specs.Boxes.{numbers_from}
use Rattle.sial_syntax.specs.Tree as tree
use Rattle.sial_syntax.specs.Tree.{Plain}
use Rattle.sial_meaning.specs.declared.trap.Trap.{Trap}
use Rattle.sial_meaning.specs.declared.trap.TrapKind.{TrapKind}
use Rattle.sial_meaning.specs.Closed as closed
use Rattle.sial_meaning.specs.Control.{Led, Goes, Halts, control, went_within}
use Rattle.sial_meaning.specs.LocalStep.{Answer, Done, words_of}
use Rattle.sial_meaning.specs.Next as next
use Rattle.sial_meaning.specs.Next.{Task, next_of, Asks, asked}
use Rattle.sial_meaning.specs.Passed.{with_task}
use Rattle.sial_meaning.specs.Rest.{Rest, Over, Next, Turn, Join, Back, Within, PardoAt}
use Rattle.sial_meaning.specs.Setting.{Setting}
use Rattle.sial_meaning.specs.Statement.{Named, named, created_trap, trap_at}
use Rattle.sip_model.specs.declared.options.Options.{Options}
use Rattle.sip_model.specs.Workers.{Waits, ForNothing, ForGive, ForRelease, ForTotal, Cached, Posted, Worker, no_chunk, same_named, found_in, is_cached, is_awaited, places_taken, used, all_used, is_transferring}

-- what a worker does next
pub data Action : Type 0 where
  -- nothing: it waits, or the program is over
  Idle : Action
  -- the trap of what comes next
  Halt : Trap → Action
  -- a step of its own work; the worker after it
  Run : (to : Worker) → Action
  -- a missing operand asked for, at a statement of this line
  Fetch : (block : Named) → (line : ℕ) → Action
  -- `get` or `request`: the block asked for, and on to what follows
  Get : (block : Named) → (line : ℕ) → (to : Worker) → Action
  -- `get` or `request` of a block that is cached or awaited: on to what follows
  Have : (block : Named) → (to : Worker) → Action
  -- `put` or `prepare`: the elements posted, and on to what follows
  Put : (block : Named) → (line : ℕ) → (how : Access) → (words : List ℕ) → (to : Worker) → Action
  -- at a sync point that ends an epoch of this class; `create` makes its array's blocks
  Arrive : Class → (creates : Option ℕ) → Action
  -- at a `collective`, with the worker's part of the sum
  Contribute : (value : ℕ) → Action
  -- at the end of a pardo's body, for numbers of its box
  Ask : Action

-- whether a cached block is none of these
abbrev pub is_spare : (spared : List Named) → Cached → Bool
is_spare spared c = not (list_any (same_named c.block) spared)

-- whether a worker has as many cached and awaited blocks as it may
abbrev pub is_full : Options → Worker → Bool
is_full o x = not (nat_lt (places_taken x) o.cache)

-- whether there is room for one more block, where these are kept
abbrev pub has_room : Options → Worker → (spared : List Named) → Bool
has_room o x spared = if is_full o x then list_any (is_spare spared) x.cache else true

-- an action that takes a place of the cache, where there is room
abbrev pub if_room : Bool → Action → Action
if_room true action = action
if_room false action = Idle

-- the elements of a cached block
abbrev pub words_in : Option Cached → List ℕ
words_in None = []
words_in (Some c) = c.words

-- the elements of a block in a worker's cache
abbrev pub cached_words : Worker → Named → List ℕ
cached_words x block = words_in (found_in x.cache block)

-- whether a block is neither cached nor awaited
abbrev pub is_absent : Worker → Named → Bool
is_absent x block = not (is_cached x block) && not (is_awaited x block)

-- where control leads a worker
abbrev pub led : Worker → Led → Action
led x (Goes rest own) = Run (record x { rest = rest; own = own })
led x (Halts trap) = Halt trap

-- a pardo entered: the worker has no chunk
abbrev pub entering : Worker → Worker
entering x = record x { chunk = no_chunk; told = false }

-- the next number of the chunk taken up, where so many are left behind it
abbrev pub taking : (more : ℕ) → Worker → Worker
taking more x = record x { chunk = record { first = x.chunk.first + 1; count = more }; iteration = x.chunk.first; ordinal = 0 }

-- a pardo left
abbrev pub leaving : Setting → Worker → Worker
leaving g x = record x { passed = with_task g next.Pardo x.passed }

-- the end of a pardo's body: the next number of the chunk, or the pardo's end where none is left, or more are asked for
abbrev pub at_end : Setting → Worker → PardoAt → (number : ℕ) → Rest → (left : ℕ) → (told : Bool) → Action
at_end g x pardo number rest (suc more) told = led (taking more x) (went_within g true pardo x.chunk.first rest x.own)
at_end g x pardo number rest zero true = led (leaving g x) (went_within g false pardo number rest x.own)
at_end g x pardo number rest zero false = Ask

-- the end of a pardo's body, where the work stands there
abbrev pub ending : Setting → Worker → Rest → Action
ending g x (Within pardo number rest) = at_end g x pardo number rest x.chunk.count x.told
ending g x (Over at) = Idle
ending g x (Next at line form rest) = Idle
ending g x (Turn loop last rest) = Idle
ending g x (Join at rest) = Idle
ending g x (Back at values rest) = Idle

-- a worker behind a statement of its own
abbrev pub behind : Worker → (more : Rest) → Done → Worker
behind x more done = record x { rest = more; own = done.own; partials = done.partials; lines = x.lines ++ done.printed }

-- a worker behind a statement of its own, or the trap
abbrev pub local_led : Worker → (line : ℕ) → (more : Rest) → Answer Done → Action
local_led x line more (Ok done) = Run (behind x more done)
local_led x line more (Err kind) = Halt (trap_at line kind)

-- the first missing operand asked for, where there is room beside the operands
abbrev pub fetching : Options → Worker → (line : ℕ) → (operands : List Named) → Option Named → Action
fetching o x line operands None = Idle
fetching o x line operands (Some block) = if_room (has_room o x operands) (Fetch block line)

-- a statement with shared operands: done where all are cached, and else the first that is neither cached nor awaited is asked for
abbrev pub with_operands : Setting → Options → Worker → (line : ℕ) → Plain → (more : Rest) → (operands : List Named) → (ready : Bool)
    → Action
with_operands g o x line form more operands true =
    local_led (all_used operands x) line more (closed.local_step g form (map (cached_words x) operands) x.own x.partials)
with_operands g o x line form more operands false = fetching o x line operands (find (is_absent x) operands)

-- `get` and `request`; only a cached block is used by it
abbrev pub getting : Options → Worker → (line : ℕ) → (more : Rest) → (block : Named) → (cached awaited : Bool) → Action
getting o x line more block true awaited = Have block (used block (record x { rest = more }))
getting o x line more block false true = Have block (record x { rest = more })
getting o x line more block false false = if_room (has_room o x []) (Get block line (record x { rest = more }))

-- the least number that no put has
abbrev pub free_put : List Posted → ℕ
free_put puts = unwrap_or (find (λ n. not (list_any (λ (p : Posted). p.put == n) puts)) (numbers_from 0 (length puts))) (length puts)

-- a worker behind a put
abbrev pub behind_put : Worker → (more : Rest) → Class → Worker
behind_put x more class =
    record x { rest = more; ordinal = x.ordinal + 1; puts = x.puts ++ record { put = free_put x.puts; class = class } ∷ [] }

-- `put` and `prepare`, where not all puts are under way; a missing source traps at once
abbrev pub putting : Worker → (line : ℕ) → (more : Rest) → (block : Named) → Access → (may : Bool) → Answer (List ℕ) → Action
putting x line more block how may (Err kind) = Halt (trap_at line kind)
putting x line more block how true (Ok words) = Put block line how words (behind_put x more block.class)
putting x line more block how false (Ok words) = Idle

-- the array that a statement creates
abbrev pub creates : Plain → Option ℕ
creates (tree.Create array) = Some array
creates form = None

-- a sync point, where no transfer of its class is under way
abbrev pub arriving : Class → Plain → (busy : Bool) → Action
arriving class form true = Idle
arriving class form false = Arrive class (creates form)

-- a statement whose created flags are as it wants them, by what it asks for
abbrev pub asking : Setting → Options → Worker → (line : ℕ) → Plain → (more : Rest) → Asks → Action
asking g o x line form more next.Local = local_led x line more (closed.local_step g form [] x.own x.partials)
asking g o x line form more (next.Operands blocks) =
    with_operands g o x line form more (map (named g x.own) blocks) (list_all (is_cached x) (map (named g x.own) blocks))
asking g o x line form more (next.Get block) =
    getting o x line more (named g x.own block) (is_cached x (named g x.own block)) (is_awaited x (named g x.own block))
asking g o x line form more (next.Put block how from) =
    putting x line more (named g x.own block) how (nat_lt (length x.puts) o.puts) (words_of g x.own from [])
asking g o x line form more (next.Sync class) = arriving class form (is_transferring x class)
asking g o x line form more (next.Collect into from) = Contribute (slice_index_or x.partials from 0)

-- the trap of the created flags, or what the statement asks for
abbrev pub unless_missing : (line : ℕ) → Option TrapKind → Action → Action
unless_missing line None action = action
unless_missing line (Some kind) action = Halt (trap_at line kind)

-- a worker that waits for nothing, by what comes next
abbrev pub acting : Setting → Options → Worker → Task → Action
acting g o x next.Over = Idle
acting g o x next.Control = led x (control g x.rest x.own)
acting g o x next.Pardo = led (entering x) (control g x.rest x.own)
acting g o x next.End = ending g x x.rest
acting g o x (next.Statement line form more) = unless_missing line (created_trap g form x.own) (asking g o x line form more (asked g form))

-- a worker's action, by what it waits for
abbrev pub action_while : Setting → Options → Worker → Waits → Action
action_while g o x ForNothing = acting g o x (next_of x.rest)
action_while g o x ForGive = Idle
action_while g o x ForRelease = Idle
action_while g o x ForTotal = Idle

-- a worker's action
unfoldable pub action : Setting → Options → Worker → Action
action g o x = action_while g o x x.waits
