-- A worker's action is one that the relation has.
use Rattle.std.proofs.Common.{◌≡◌, ℕ, zero, suc, List, [], Bool, true, false, Option, Some, None, Ok, Err, refl}
use Rattle.std.specs.Prelude.{map, length, nat_lt, find}
use Rattle.std.specs.List.{list_all}
use Rattle.sial_syntax.specs.declared.access.Access.{Access}
use Rattle.sial_syntax.specs.declared.access.Class.{Class}
use Rattle.sial_syntax.specs.declared.operand.BlockRef.{BlockRef}
use Rattle.sial_syntax.specs.Tree.{Plain}
use Rattle.sial_meaning.specs.declared.trap.Trap.{Trap}
use Rattle.sial_meaning.specs.declared.trap.TrapKind.{TrapKind}
use Rattle.sial_meaning.specs.Closed as closed
use Rattle.sial_meaning.specs.Control.{Led, Goes, Halts, control, went_within, begun}
use Rattle.sial_meaning.specs.LocalStep.{Answer, Done, words_of}
use Rattle.sial_meaning.specs.Next as next
use Rattle.sial_meaning.specs.Next.{Task, next_of, Asks, asked}
use Rattle.sial_meaning.specs.Own.{Own}
use Rattle.sial_meaning.specs.Rest.{Rest, Over, Next, Turn, Join, Back, Within, PardoAt}
use Rattle.sial_meaning.specs.Setting.{Setting}
use Rattle.sial_meaning.specs.Statement.{Named, named, created_trap}
use Rattle.sip_model.specs.declared.options.Options.{Options}
use Rattle.sip_model.specs.Acting.{Fetch, Get, has_room, if_room, cached_words, is_absent, led, entering, taking, at_end, ending, local_led, fetching, with_operands, getting, putting, arriving, asking, unless_missing, acting, action_while, action}
use Rattle.sip_model.specs.Acts.{StandsAt, StandsWithin, operands, goes, enters, takes, leaves, asks, does, reads, fetches, has, awaits, gets, puts, arrives, contributes, by_control, by_flags, by_itself, by_operands, by_source, ActsBy}
use Rattle.sip_model.specs.RunLaws.{ActionsAreActs}
use Rattle.sip_model.specs.Workers.{Waits, ForNothing, ForGive, ForRelease, ForTotal, Worker, is_cached, is_awaited, is_transferring}

-- taking a tuple up leads on
begun-goes : (met : Bool) (pardo : PardoAt) (number : ℕ) (rest : Rest) (own : Own) (trap : Trap)
    → begun met pardo number rest own ≡ Halts trap → ⊥
begun-goes true pardo number rest own trap e = absurd cc
begun-goes false pardo number rest own trap e = absurd cc

module _ (g : Setting) (o : Options) (x : Worker) where
  -- control of a loop, a branch or a call
  by-control : x.waits ≡ ForNothing → next_of x.rest ≡ next.Control → ActsBy g o x (led x (control g x.rest x.own))
  by-control free comes = go (control g x.rest x.own) refl
    where
      go : (l : Led) → control g x.rest x.own ≡ l → ActsBy g o x (led x l)
      go (Goes rest own) e = goes rest own free comes e
      go (Halts trap) e = by_control trap free e

  -- a pardo entered
  by-pardo : x.waits ≡ ForNothing → next_of x.rest ≡ next.Pardo → ActsBy g o x (led (entering x) (control g x.rest x.own))
  by-pardo free comes = go (control g x.rest x.own) refl
    where
      go : (l : Led) → control g x.rest x.own ≡ l → ActsBy g o x (led (entering x) l)
      go (Goes rest own) e = enters rest own free comes e
      go (Halts trap) e = by_control trap free e

  -- the end of a pardo's body
  by-end : (pardo : PardoAt) (number : ℕ) (behind : Rest) (left : ℕ) (told : Bool) → StandsWithin x pardo number behind left → x.told ≡ told
      → ActsBy g o x (at_end g x pardo number behind left told)
  by-end pardo number behind (suc more) told st t = go (went_within g true pardo x.chunk.first behind x.own) refl
    where
      go : (l : Led) → went_within g true pardo x.chunk.first behind x.own ≡ l → ActsBy g o x (led (taking more x) l)
      go (Goes rest own) e = takes pardo number behind more rest own st e
      go (Halts trap) e = absurd (begun-goes _ _ _ _ _ trap e)
  by-end pardo number behind zero true st t = leaves pardo number behind _ _ st t refl
  by-end pardo number behind zero false st t = asks pardo number behind st t

  -- the end of a body where the work stands there
  by-ending : (r : Rest) → x.waits ≡ ForNothing → x.rest ≡ r → ActsBy g o x (ending g x r)
  by-ending (Within pardo number rest) free e =
      by-end pardo number rest x.chunk.count x.told (record { free = free; within = e; count = refl }) refl
  by-ending (Over at) free e = tt
  by-ending (Next at line form rest) free e = tt
  by-ending (Turn loop last rest) free e = tt
  by-ending (Join at rest) free e = tt
  by-ending (Back at values rest) free e = tt

  module _ (line : ℕ) (form : Plain) (more : Rest) (st : StandsAt g x line form more) where
    -- a statement without shared operands
    by-local : asked g form ≡ next.Local → ActsBy g o x (local_led x line more (closed.local_step g form [] x.own x.partials))
    by-local q = go (closed.local_step g form [] x.own x.partials) refl
      where
        go : (a : Answer Done) → closed.local_step g form [] x.own x.partials ≡ a → ActsBy g o x (local_led x line more a)
        go (Ok done) e = does line form more done st q e
        go (Err kind) e = by_itself line form more kind st q e

    -- one with shared operands, all of them cached
    by-values : (blocks : List BlockRef) → asked g form ≡ next.Operands blocks → list_all (is_cached x) (operands g x blocks) ≡ true
        → ActsBy g o x (with_operands g o x line form more (operands g x blocks) true)
    by-values blocks q all = go (closed.local_step g form (map (cached_words x) (operands g x blocks)) x.own x.partials) refl
      where
        go : (a : Answer Done) → closed.local_step g form (map (cached_words x) (operands g x blocks)) x.own x.partials ≡ a
            → ActsBy g o x (with_operands g o x line form more (operands g x blocks) true)
        go (Ok done) e = rw e (reads line form more blocks done st q all e)
        go (Err kind) e = rw e (by_operands line form more blocks kind st q all e)

    -- one with a missing operand
    by-missing : (blocks : List BlockRef) → asked g form ≡ next.Operands blocks → list_all (is_cached x) (operands g x blocks) ≡ false
        → ActsBy g o x (with_operands g o x line form more (operands g x blocks) false)
    by-missing blocks q all = go (find (is_absent x) (operands g x blocks)) refl
      where
        room : (block : Named) (b : Bool) → find (is_absent x) (operands g x blocks) ≡ Some block → has_room o x (operands g x blocks) ≡ b
            → ActsBy g o x (if_room b (Fetch block line))
        room block true e r = fetches line form more blocks block st q all e r
        room block false e r = tt

        go : (f : Option Named) → find (is_absent x) (operands g x blocks) ≡ f → ActsBy g o x (fetching o x line (operands g x blocks) f)
        go None e = tt
        go (Some block) e = room block (has_room o x (operands g x blocks)) e refl

    -- either
    by-operands : (blocks : List BlockRef) → asked g form ≡ next.Operands blocks
        → ActsBy g o x (with_operands g o x line form more (operands g x blocks) (list_all (is_cached x) (operands g x blocks)))
    by-operands blocks q = go (list_all (is_cached x) (operands g x blocks)) refl
      where
        go : (b : Bool) → list_all (is_cached x) (operands g x blocks) ≡ b
            → ActsBy g o x (with_operands g o x line form more (operands g x blocks) b)
        go true e = by-values blocks q e
        go false e = by-missing blocks q e

    -- `get` and `request`
    by-get : (block : BlockRef) → asked g form ≡ next.Get block → (cached awaited : Bool) → is_cached x (named g x.own block) ≡ cached
        → is_awaited x (named g x.own block) ≡ awaited
        → ActsBy g o x (getting o x line more (named g x.own block) cached awaited)
    by-get block q true awaited c a = has line form more block st q c
    by-get block q false true c a = awaits line form more block st q c a
    by-get block q false false c a = room (has_room o x []) refl
      where
        room : (b : Bool) → has_room o x [] ≡ b → ActsBy g o x (if_room b (Get (named g x.own block) line (record x { rest = more })))
        room true r = gets line form more block st q c a r
        room false r = tt

    -- `put` and `prepare`
    by-put : (block : BlockRef) (how : Access) (from : BlockRef) → asked g form ≡ next.Put block how from
        → (may : Bool) (a : Answer (List ℕ)) → nat_lt (length x.puts) o.puts ≡ may
        → words_of g x.own from [] ≡ a → ActsBy g o x (putting x line more (named g x.own block) how may a)
    by-put block how from q may (Err kind) m e = by_source line form more block how from kind st q e
    by-put block how from q true (Ok words) m e = puts line form more block how from words st q m e
    by-put block how from q false (Ok words) m e = tt

    -- a sync point
    by-sync : (class : Class) → asked g form ≡ next.Sync class → (busy : Bool) → is_transferring x class ≡ busy
        → ActsBy g o x (arriving class form busy)
    by-sync class q true e = tt
    by-sync class q false e = arrives line form more class st q e

    -- by what the statement asks for
    by-asked : (a : Asks) → asked g form ≡ a → ActsBy g o x (asking g o x line form more a)
    by-asked next.Local q = by-local q
    by-asked (next.Operands blocks) q = by-operands blocks q
    by-asked (next.Get block) q = by-get block q (is_cached x (named g x.own block)) (is_awaited x (named g x.own block)) refl refl
    by-asked (next.Put block how from) q = by-put block how from q (nat_lt (length x.puts) o.puts) (words_of g x.own from []) refl refl
    by-asked (next.Sync class) q = by-sync class q (is_transferring x class) refl
    by-asked (next.Collect into from) q = contributes line form more into from st q

  -- a statement
  by-statement : (line : ℕ) (form : Plain) (more : Rest) → x.waits ≡ ForNothing → next_of x.rest ≡ next.Statement line form more
      → (t : Option TrapKind) → created_trap g form x.own ≡ t
      → ActsBy g o x (unless_missing line t (asking g o x line form more (asked g form)))
  by-statement line form more free comes None e =
      by-asked line form more (record { free = free; comes = comes; flags = e }) (asked g form) refl
  by-statement line form more free comes (Some kind) e = by_flags line form more kind free comes e

  -- by what comes next
  by-task : x.waits ≡ ForNothing → (t : Task) → next_of x.rest ≡ t → ActsBy g o x (acting g o x t)
  by-task free next.Over e = tt
  by-task free next.Control e = by-control free e
  by-task free next.Pardo e = by-pardo free e
  by-task free next.End e = by-ending x.rest free refl
  by-task free (next.Statement line form more) e = by-statement line form more free e (created_trap g form x.own) refl

  -- by what the worker waits for
  by-waits : (w : Waits) → x.waits ≡ w → ActsBy g o x (action_while g o x w)
  by-waits ForNothing e = by-task e (next_of x.rest) refl
  by-waits ForGive e = tt
  by-waits ForRelease e = tt
  by-waits ForTotal e = tt

-- a worker's action
pub actions-are-acts : ActionsAreActs
unfolding action
actions-are-acts g o x = by-waits g o x x.waits refl
