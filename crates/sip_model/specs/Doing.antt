-- What a worker's action does: the worker after it, what it posts, and the array whose blocks it makes at its home.
use Rattle.std.specs.Prelude.{ℕ, List, [], ◌∷◌, ◌++◌, Option, None}
use Rattle.sial_syntax.specs.declared.access.Access.{Access}
use Rattle.sial_syntax.specs.declared.access.Class.{Class}
use Rattle.sial_meaning.specs.Rest.{place}
use Rattle.sial_meaning.specs.State.{epoch_of}
use Rattle.sial_meaning.specs.Statement.{Named}
use Rattle.sip_model.specs.declared.message.Body.TheVariants as body
use Rattle.sip_model.specs.declared.message.Origin.{Origin}
use Rattle.sip_model.specs.declared.options.Options.{Options}
use Rattle.sip_model.specs.Acting.{Action, Idle, Halt, Run, Fetch, Get, Have, Put, Arrive, Contribute, Ask, free_put}
use Rattle.sip_model.specs.Flight.{Flying, master_actor, carrying, bare}
use Rattle.sip_model.specs.Placement.{owner_of}
use Rattle.sip_model.specs.Workers.{ForGive, ForRelease, ForTotal, Worker, without_dropped, without_class}

-- what an action does
pub record Acted : Type 0 where
  pub to : Worker
  pub posts : List Flying
  pub makes : Option ℕ

-- only the worker changes
abbrev pub alone : Worker → Acted
alone x = record { to = x; posts = []; makes = None }

-- the worker changes, and one message is posted
abbrev pub with_post : Worker → Flying → Acted
with_post x post = record { to = x; posts = post ∷ []; makes = None }

-- the origin of a worker's next put
abbrev pub origin_of : Worker → Origin
origin_of x = record { instance = x.passed.instances; iteration = x.iteration; ordinal = x.ordinal }

-- a Request of a worker
abbrev pub request : Options → (worker : ℕ) → Worker → Named → (line : ℕ) → Flying
request o worker x block line = bare worker (owner_of o block) (body.Request block.class block.block (epoch_of x.epochs block.class) line)

-- a Put of a worker
abbrev pub put_message : Options → (worker : ℕ) → Worker → Named → (line : ℕ) → Access → (words : List ℕ) → Flying
put_message o worker x block line how words =
    carrying
    worker
    (owner_of o block)
    (body.Put block.class block.block (epoch_of x.epochs block.class) line how (free_put x.puts) (origin_of x))
    words

-- a worker that awaits one more block, another dropped where one is named
abbrev pub awaiting : Named → Option Named → Worker → Worker
awaiting block dropped x = record x { cache = without_dropped dropped x.cache; awaited = x.awaited ++ block ∷ [] }

-- a worker at a sync point, without the cached blocks of the class whose epoch ends
abbrev pub at_sync : Class → Worker → Worker
at_sync class x = record x { waits = ForRelease; cache = without_class class x.cache }

-- what an action does, with a block dropped where one is named
abbrev pub acted : Options → (worker : ℕ) → Worker → Option Named → Action → Acted
acted o worker x dropped Idle = alone x
acted o worker x dropped (Halt trap) = alone x
acted o worker x dropped (Run to) = alone to
acted o worker x dropped (Fetch block line) = with_post (awaiting block dropped x) (request o worker x block line)
acted o worker x dropped (Get block line to) = with_post (awaiting block dropped to) (request o worker x block line)
acted o worker x dropped (Have block to) = alone to
acted o worker x dropped (Put block line how words to) = with_post to (put_message o worker x block line how words)
acted o worker x dropped (Arrive class creates) =
    record (with_post (at_sync class x) (bare worker master_actor (body.Arrive x.passed.syncs (place x.rest)))) { makes = creates }
acted o worker x dropped (Contribute value) =
    with_post (record x { waits = ForTotal }) (bare worker master_actor (body.Contribute x.passed.syncs (place x.rest) value))
acted o worker x dropped Ask =
    with_post (record x { waits = ForGive }) (bare worker master_actor (body.Ask x.passed.instances (place x.rest)))
