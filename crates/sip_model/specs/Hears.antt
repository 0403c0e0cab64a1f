-- What a message may make of the worker to which it is delivered, as a relation.
use Rattle.std.specs.Prelude.{◌≡◌, ℕ, List, Bool, true, false, ◌&&◌, Option, None}
use Rattle.sial_syntax.specs.declared.access.Class.{Class}
use Rattle.sial_syntax.specs.Tree.{Plain}
use Rattle.sial_meaning.specs.Next as next
use Rattle.sial_meaning.specs.Next.{Task, next_of, Asks, asked}
use Rattle.sial_meaning.specs.Rest.{Rest}
use Rattle.sial_meaning.specs.Setting.{Setting}
use Rattle.sip_model.specs.declared.message.Body.{Body}
use Rattle.sip_model.specs.declared.message.Body.TheVariants as body
use Rattle.sip_model.specs.declared.message.Given.{Given}
use Rattle.sip_model.specs.Hearing.{came, acknowledged, given_to, past_sync, past_collect, deletes}
use Rattle.sip_model.specs.Workers.{Waits, ForNothing, ForGive, ForRelease, ForTotal, Worker, is_awaited}

-- whether a worker waits for a Give
abbrev pub is_for_give : Waits → Bool
is_for_give ForGive = true
is_for_give ForNothing = false
is_for_give ForRelease = false
is_for_give ForTotal = false

-- whether a worker waits for a Release
abbrev pub is_for_release : Waits → Bool
is_for_release ForRelease = true
is_for_release ForNothing = false
is_for_release ForGive = false
is_for_release ForTotal = false

-- whether a worker waits for a Total
abbrev pub is_for_total : Waits → Bool
is_for_total ForTotal = true
is_for_total ForNothing = false
is_for_total ForGive = false
is_for_total ForRelease = false

-- whether a statement asks for a meeting that ends an epoch
abbrev pub is_sync : Asks → Bool
is_sync (next.Sync class) = true
is_sync _ = false

-- whether a statement asks for a sum
abbrev pub is_collect : Asks → Bool
is_collect (next.Collect into from) = true
is_collect _ = false

-- whether such a statement comes next
abbrev pub comes : Setting → (Asks → Bool) → Task → Bool
comes g test (next.Statement line form more) = test (asked g form)
comes g test _ = false

-- what a message other than a Release may make of a worker
pub data Hears (g : Setting) (x : Worker) : Body → (words : List ℕ) → Worker → Type 0 where
  hears_reply : (class : Class) (block : ℕ) (words : List ℕ) → is_awaited x (record { class = class; block = block }) ≡ true
      → Hears g x (body.Reply class block) words (came (record { class = class; block = block }) words x)
  hears_unasked : (class : Class) (block : ℕ) (words : List ℕ) → is_awaited x (record { class = class; block = block }) ≡ false
      → Hears g x (body.Reply class block) words x
  hears_ack : (put : ℕ) (words : List ℕ) → Hears g x (body.Ack put) words (acknowledged put x)
  hears_give : (given : Given) (words : List ℕ) → x.waits ≡ ForGive → Hears g x (body.Give given) words (given_to given x)
  hears_ungiven : (given : Given) (words : List ℕ) → is_for_give x.waits ≡ false → Hears g x (body.Give given) words x
  hears_total : (sync sum : ℕ) (words : List ℕ) (line : ℕ) (form : Plain) (more : Rest) (into from : ℕ) → x.waits ≡ ForTotal
      → next_of x.rest ≡ next.Statement line form more → asked g form ≡ next.Collect into from
      → Hears g x (body.Total sync sum) words (past_collect into from sum more x)
  hears_untotalled : (sync sum : ℕ) (words : List ℕ) → (is_for_total x.waits && comes g is_collect (next_of x.rest)) ≡ false
      → Hears g x (body.Total sync sum) words x

-- what a Release may make of a worker, and the array whose blocks it takes away
pub data Released (g : Setting) (x : Worker) : Worker → Option ℕ → Type 0 where
  released : (line : ℕ) (form : Plain) (more : Rest) (class : Class) → x.waits ≡ ForRelease
      → next_of x.rest ≡ next.Statement line form more → asked g form ≡ next.Sync class
      → Released g x (past_sync class form more x) (deletes form)
  unreleased : (is_for_release x.waits && comes g is_sync (next_of x.rest)) ≡ false → Released g x x None
