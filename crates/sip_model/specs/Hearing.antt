-- What a message makes of the worker to which it is delivered; one that it doesn't wait for changes nothing.
use Rattle.std.specs.Prelude.{ℕ, ◌+◌, List, [], ◌∷◌, ◌++◌, true, false, ◌==◌, not, if◌then◌else◌, Option, Some, None, unwrap_or, filter}
use Rattle.sial_syntax.specs.declared.access.Class.{Class}
use Rattle.sial_syntax.specs.Tree as tree
use Rattle.sial_syntax.specs.Tree.{Plain}
use Rattle.sial_meaning.specs.Next as next
use Rattle.sial_meaning.specs.Next.{Task, next_of, Asks, asked}
use Rattle.sial_meaning.specs.Number.{plus}
use Rattle.sial_meaning.specs.Own.{Own, scalar_of, with_scalar, with_created}
use Rattle.sial_meaning.specs.Passed.{with_asked}
use Rattle.sial_meaning.specs.Rest.{Rest}
use Rattle.sial_meaning.specs.Setting.{Setting}
use Rattle.sial_meaning.specs.State.{next_epoch}
use Rattle.sial_meaning.specs.Statement.{Named}
use Rattle.sip_model.specs.declared.message.Given.{Given}
use Rattle.sip_model.specs.declared.message.Given.TheVariants as given
use Rattle.sip_model.specs.Workers.{Waits, ForNothing, ForGive, ForRelease, ForTotal, Posted, Worker, same_named, is_awaited}

-- an awaited block that came: it is cached, and that is a use of it
abbrev pub came : Named → (words : List ℕ) → Worker → Worker
came block words x = record x {
  awaited = filter (λ (b : Named). not (same_named block b)) x.awaited;
  cache = x.cache ++ record { block = block; words = words; used = x.uses } ∷ [];
  uses = x.uses + 1;
}

-- a Reply
abbrev pub replied : Named → (words : List ℕ) → Worker → Worker
replied block words x = if is_awaited x block then came block words x else x

-- an Ack
abbrev pub acknowledged : (put : ℕ) → Worker → Worker
acknowledged put x = record x { puts = filter (λ (p : Posted). not (p.put == put)) x.puts }

-- numbers of a box given, or word that none is left
abbrev pub given_to : Given → Worker → Worker
given_to (given.Chunk first count) x = record x { chunk = record { first = first; count = count }; waits = ForNothing }
given_to given.NoneLeft x = record x { told = true; waits = ForNothing }

-- a Give
abbrev pub given_while : Waits → Given → Worker → Worker
given_while ForGive given x = given_to given x
given_while ForNothing given x = x
given_while ForRelease given x = x
given_while ForTotal given x = x

-- the created flags behind a sync point
abbrev pub flagged : Plain → Own → Own
flagged (tree.Create array) own = with_created array true own
flagged (tree.Delete array) own = with_created array false own
flagged form own = own

-- a sync point passed that ends an epoch of this class
abbrev pub past_sync : Class → Plain → (more : Rest) → Worker → Worker
past_sync class form more x = record x {
  rest = more;
  own = flagged form x.own;
  epochs = next_epoch x.epochs class;
  passed = with_asked (next.Sync class) x.passed;
  waits = ForNothing;
}

-- a Release at a statement that asks for this
abbrev pub released_as : Plain → (more : Rest) → Asks → Worker → Worker
released_as form more (next.Sync class) x = past_sync class form more x
released_as form more _ x = x

-- a Release where this comes next
abbrev pub released_at : Setting → Task → Worker → Worker
released_at g (next.Statement line form more) x = released_as form more (asked g form) x
released_at g _ x = x

-- a Release
abbrev pub released_while : Setting → Waits → Worker → Worker
released_while g ForRelease x = released_at g (next_of x.rest) x
released_while g ForNothing x = x
released_while g ForGive x = x
released_while g ForTotal x = x

-- a `collective` passed: the sum is added to its target
abbrev pub past_collect : (into from sum : ℕ) → (more : Rest) → Worker → Worker
past_collect into from sum more x = record x {
  rest = more;
  own = with_scalar into (plus (unwrap_or (scalar_of x.own into) 0) sum) x.own;
  passed = with_asked (next.Collect into from) x.passed;
  waits = ForNothing;
}

-- a Total at a statement that asks for this
abbrev pub totalled_as : (sum : ℕ) → (more : Rest) → Asks → Worker → Worker
totalled_as sum more (next.Collect into from) x = past_collect into from sum more x
totalled_as sum more _ x = x

-- a Total where this comes next
abbrev pub totalled_at : Setting → (sum : ℕ) → Task → Worker → Worker
totalled_at g sum (next.Statement line form more) x = totalled_as sum more (asked g form) x
totalled_at g sum _ x = x

-- a Total
abbrev pub totalled_while : Setting → (sum : ℕ) → Waits → Worker → Worker
totalled_while g sum ForTotal x = totalled_at g sum (next_of x.rest) x
totalled_while g sum ForNothing x = x
totalled_while g sum ForGive x = x
totalled_while g sum ForRelease x = x

-- the array that a statement deletes
abbrev pub deletes : Plain → Option ℕ
deletes (tree.Delete array) = Some array
deletes form = None

-- the array that is deleted at a statement that asks for this
abbrev pub deleted_as : Plain → Asks → Option ℕ
deleted_as form (next.Sync class) = deletes form
deleted_as form _ = None

-- the array that is deleted where this comes next
abbrev pub deleted_at : Setting → Task → Option ℕ
deleted_at g (next.Statement line form more) = deleted_as form (asked g form)
deleted_at g _ = None

-- the array whose blocks a worker takes away at a Release
abbrev pub deleted_while : Setting → Waits → Worker → Option ℕ
deleted_while g ForRelease x = deleted_at g (next_of x.rest)
deleted_while g ForNothing x = None
deleted_while g ForGive x = None
deleted_while g ForTotal x = None
