-- What a worker may do by itself, as a relation: one case for each kind of action, and one for each trap.
use Rattle.std.specs.Prelude.{◌≡◌, ℕ, suc, List, [], map, length, true, false, nat_lt, Some, None, Ok, Err, find, slice_index_or}
use Rattle.std.specs.List.{list_all}
use Rattle.sial_syntax.specs.declared.access.Access.{Access}
use Rattle.sial_syntax.specs.declared.access.Class.{Class}
use Rattle.sial_syntax.specs.declared.operand.BlockRef.{BlockRef}
use Rattle.sial_syntax.specs.Tree.{Plain}
use Rattle.sial_meaning.specs.declared.trap.Trap.{Trap}
use Rattle.sial_meaning.specs.declared.trap.TrapKind.{TrapKind}
use Rattle.sial_meaning.specs.Closed as closed
use Rattle.sial_meaning.specs.Control.{Goes, Halts, control, went_within}
use Rattle.sial_meaning.specs.LocalStep.{Done, words_of}
use Rattle.sial_meaning.specs.Next as next
use Rattle.sial_meaning.specs.Next.{next_of, asked}
use Rattle.sial_meaning.specs.Own.{Own}
use Rattle.sial_meaning.specs.Rest.{Rest, Within, PardoAt}
use Rattle.sial_meaning.specs.Setting.{Setting}
use Rattle.sial_meaning.specs.Statement.{Named, named, created_trap, trap_at}
use Rattle.sip_model.specs.declared.options.Options.{Options}
use Rattle.sip_model.specs.Acting.{Action, Idle, Halt, Run, Fetch, Get, Have, Put, Arrive, Contribute, Ask, has_room, cached_words, is_absent, entering, taking, leaving, behind, behind_put, creates}
use Rattle.sip_model.specs.Workers.{ForNothing, Worker, is_cached, is_awaited, used, all_used, is_transferring}

-- a worker that waits for nothing stands at a statement that holds no other, and its created flags are as that wants them
pub record StandsAt (g : Setting) (x : Worker) (line : ℕ) (form : Plain) (more : Rest) : Type 0 where
  pub free : x.waits ≡ ForNothing
  pub comes : next_of x.rest ≡ next.Statement line form more
  pub flags : created_trap g form x.own ≡ None

-- a worker that waits for nothing stands at the end of a pardo's body, with so many numbers of its chunk left
pub record StandsWithin (x : Worker) (pardo : PardoAt) (number : ℕ) (rest : Rest) (left : ℕ) : Type 0 where
  pub free : x.waits ≡ ForNothing
  pub within : x.rest ≡ Within pardo number rest
  pub count : x.chunk.count ≡ left

-- the operands of a statement that asks for the values of these blocks
abbrev pub operands : Setting → Worker → List BlockRef → List Named
operands g x blocks = map (named g x.own) blocks

-- what a worker may do by itself
pub data Acts (g : Setting) (o : Options) (x : Worker) : Action → Type 0 where
  -- a loop, a branch or a call goes on
  goes : (rest : Rest) (own : Own) → x.waits ≡ ForNothing → next_of x.rest ≡ next.Control → control g x.rest x.own ≡ Goes rest own
      → Acts g o x (Run (record x { rest = rest; own = own }))
  -- a pardo is entered
  enters : (rest : Rest) (own : Own) → x.waits ≡ ForNothing → next_of x.rest ≡ next.Pardo → control g x.rest x.own ≡ Goes rest own
      → Acts g o x (Run (record (entering x) { rest = rest; own = own }))
  -- the next number of the chunk is taken up
  takes : (pardo : PardoAt) (number : ℕ) (behind : Rest) (more : ℕ) (rest : Rest) (own : Own)
      → StandsWithin x pardo number behind (suc more)
      → went_within g true pardo x.chunk.first behind x.own ≡ Goes rest own
      → Acts g o x (Run (record (taking more x) { rest = rest; own = own }))
  -- the pardo is left
  leaves : (pardo : PardoAt) (number : ℕ) (behind : Rest) (rest : Rest) (own : Own) → StandsWithin x pardo number behind 0 → x.told ≡ true
      → went_within g false pardo number behind x.own ≡ Goes rest own → Acts g o x (Run (record (leaving g x) { rest = rest; own = own }))
  -- more numbers are asked for
  asks : (pardo : PardoAt) (number : ℕ) (behind : Rest) → StandsWithin x pardo number behind 0 → x.told ≡ false → Acts g o x Ask
  -- a statement without shared operands is done
  does : (line : ℕ) (form : Plain) (more : Rest) (done : Done) → StandsAt g x line form more → asked g form ≡ next.Local
      → closed.local_step g form [] x.own x.partials ≡ Ok done
      → Acts g o x (Run (behind x more done))
  -- one whose shared operands are all cached is done
  reads : (line : ℕ) (form : Plain) (more : Rest) (blocks : List BlockRef) (done : Done) → StandsAt g x line form more
      → asked g form ≡ next.Operands blocks
      → list_all (is_cached x) (operands g x blocks) ≡ true
      → closed.local_step g form (map (cached_words x) (operands g x blocks)) x.own x.partials ≡ Ok done
      → Acts g o x (Run (behind (all_used (operands g x blocks) x) more done))
  -- the first operand that is neither cached nor awaited is asked for
  fetches : (line : ℕ) (form : Plain) (more : Rest) (blocks : List BlockRef) (block : Named) → StandsAt g x line form more
      → asked g form ≡ next.Operands blocks
      → list_all (is_cached x) (operands g x blocks) ≡ false → find (is_absent x) (operands g x blocks) ≡ Some block
      → has_room o x (operands g x blocks) ≡ true → Acts g o x (Fetch block line)
  -- `get` or `request` of a cached block
  has : (line : ℕ) (form : Plain) (more : Rest) (block : BlockRef) → StandsAt g x line form more → asked g form ≡ next.Get block
      → is_cached x (named g x.own block) ≡ true
      → Acts g o x (Have (named g x.own block) (used (named g x.own block) (record x { rest = more })))
  -- of an awaited one
  awaits : (line : ℕ) (form : Plain) (more : Rest) (block : BlockRef) → StandsAt g x line form more → asked g form ≡ next.Get block
      → is_cached x (named g x.own block) ≡ false → is_awaited x (named g x.own block) ≡ true
      → Acts g o x (Have (named g x.own block) (record x { rest = more }))
  -- of another one
  gets : (line : ℕ) (form : Plain) (more : Rest) (block : BlockRef) → StandsAt g x line form more → asked g form ≡ next.Get block
      → is_cached x (named g x.own block) ≡ false → is_awaited x (named g x.own block) ≡ false → has_room o x [] ≡ true
      → Acts g o x (Get (named g x.own block) line (record x { rest = more }))
  -- `put` or `prepare`
  puts : (line : ℕ) (form : Plain) (more : Rest) (block : BlockRef) (how : Access) (from : BlockRef) (words : List ℕ)
      → StandsAt g x line form more
      → asked g form ≡ next.Put block how from → nat_lt (length x.puts) o.puts ≡ true → words_of g x.own from [] ≡ Ok words
      → Acts g o x (Put (named g x.own block) line how words (behind_put x more (named g x.own block).class))
  -- a sync point that ends an epoch, with no transfer of its class under way
  arrives : (line : ℕ) (form : Plain) (more : Rest) (class : Class) → StandsAt g x line form more → asked g form ≡ next.Sync class
      → is_transferring x class ≡ false → Acts g o x (Arrive class (creates form))
  -- a `collective`
  contributes : (line : ℕ) (form : Plain) (more : Rest) (into from : ℕ) → StandsAt g x line form more
      → asked g form ≡ next.Collect into from
      → Acts g o x (Contribute (slice_index_or x.partials from 0))

-- the traps that a worker may come to by itself
pub data Stops (g : Setting) (o : Options) (x : Worker) : Trap → Type 0 where
  -- of a condition
  by_control : (trap : Trap) → x.waits ≡ ForNothing → control g x.rest x.own ≡ Halts trap → Stops g o x trap
  -- of the created flags
  by_flags : (line : ℕ) (form : Plain) (more : Rest) (kind : TrapKind) → x.waits ≡ ForNothing
      → next_of x.rest ≡ next.Statement line form more
      → created_trap g form x.own ≡ Some kind → Stops g o x (trap_at line kind)
  -- of a statement without shared operands
  by_itself : (line : ℕ) (form : Plain) (more : Rest) (kind : TrapKind) → StandsAt g x line form more → asked g form ≡ next.Local
      → closed.local_step g form [] x.own x.partials ≡ Err kind → Stops g o x (trap_at line kind)
  -- of one whose shared operands are all cached
  by_operands : (line : ℕ) (form : Plain) (more : Rest) (blocks : List BlockRef) (kind : TrapKind) → StandsAt g x line form more
      → asked g form ≡ next.Operands blocks
      → list_all (is_cached x) (operands g x blocks) ≡ true
      → closed.local_step g form (map (cached_words x) (operands g x blocks)) x.own x.partials ≡ Err kind
      → Stops g o x (trap_at line kind)
  -- of the source of a put
  by_source : (line : ℕ) (form : Plain) (more : Rest) (block : BlockRef) (how : Access) (from : BlockRef) (kind : TrapKind)
      → StandsAt g x line form more
      → asked g form ≡ next.Put block how from → words_of g x.own from [] ≡ Err kind → Stops g o x (trap_at line kind)

-- what the relations say of an action: nothing where there is none
abbrev pub ActsBy : Setting → Options → Worker → Action → Type 0
ActsBy g o x Idle = Unit {0}
ActsBy g o x (Halt trap) = Stops g o x trap
ActsBy g o x action = Acts g o x action
