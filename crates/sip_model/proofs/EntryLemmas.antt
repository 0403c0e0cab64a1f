-- What each entry leads to is a step of the relation, a trap or a conflict.
use Rattle.std.proofs.Common.{◌≡◌, ℕ, ◌+◌, ◌<◌, Bool, true, false, List, ◌∷◌, ◌++◌, Option, Some, None, refl, sym, subst, arith}
use Rattle.std.specs.Prelude.{nat_lt, take, drop, map, filter, IsTrue, ◌&&◌}
use Rattle.std.specs.List.{enumerate_from}
use Rattle.sial_syntax.specs.declared.access.Class.{Class}
use Rattle.sial_syntax.specs.declared.access.Class.TheVariants.{Distributed, Served}
use Rattle.sial_syntax.specs.Boxes.{numbers_from}
use Rattle.sial_syntax.specs.Tree.{Plain}
use Rattle.sial_meaning.specs.declared.clash.Clash.{Clash}
use Rattle.sial_meaning.specs.Next as next
use Rattle.sial_meaning.specs.Next.{Task, next_of, Asks, asked}
use Rattle.sial_meaning.specs.Rest.{Rest}
use Rattle.sial_meaning.specs.Setting.{Setting}
use Rattle.sial_meaning.specs.Statement.{Named}
use Rattle.sip_model.specs.declared.message.Body.{Body}
use Rattle.sip_model.specs.declared.message.Body.TheVariants as body
use Rattle.sip_model.specs.declared.message.Given.{Given}
use Rattle.sip_model.specs.declared.options.Options.{Options}
use Rattle.sip_model.specs.Acting.{Action, Idle, Halt, Run, Fetch, Get, Have, Put, Arrive, Contribute, Ask, action}
use Rattle.sip_model.specs.Acts.{ActsBy}
use Rattle.sip_model.specs.Delivering.{Moved, number_dropped, at_home, at_server, unless_clash, box_at, with_answer, met_by, delivered}
use Rattle.sip_model.specs.Enabled.{Choice, ByWorker, ByMessage, ByServer, is_something, may_go, able_workers, ready_places, unwritten_servers, enabled, place_taken}
use Rattle.sip_model.specs.Flight.{Flying}
use Rattle.sip_model.specs.Hearing.{replied, given_while, released_as, released_at, released_while, totalled_as, totalled_at, totalled_while, deleted_as, deleted_at, deleted_while}
use Rattle.sip_model.specs.Hears.{comes, is_sync, is_collect, is_for_release, is_for_total, Hears, hears_reply, hears_unasked, hears_ack, hears_give, hears_ungiven, hears_total, hears_untotalled, Released, released, unreleased}
use Rattle.sip_model.specs.Machines.{Machine, at_place, worker_at, with_worker, server_at, taking_out}
use Rattle.sip_model.specs.Masters.{Master, instance_at, may_ask, answered, is_met}
use Rattle.sip_model.specs.Owners.{Accessing, cell_at, clash_at}
use Rattle.sip_model.specs.Performing.{is_permitted, dropped_by, evicted_for, evicted_at, evicted_if, Permits, performed_by, delivered_at, perform}
use Rattle.sip_model.specs.RunLaws.{EntriesAreSteps}
use Rattle.sip_model.specs.Servers.{is_unwritten}
use Rattle.sip_model.specs.Steps.{Accesses, reads, writes, Meets, arriving, contributing, acts, comes_home, comes_to_server, hears, releases, gives, says_none, waits, meets, flushes, clashes, Leads}
use Rattle.sip_model.specs.Workers.{Waits, ForNothing, ForGive, ForRelease, ForTotal, Worker, is_awaited}
use Rattle.sip_model.proofs.ActsLemmas.{actions-are-acts}
use Rattle.sip_model.proofs.ListLemmas.{AllIn, all-at, all-append, all-map, all-filter, all-numbers, all-enumerated, place-splits}

-- what a message makes of a worker
module _ (g : Setting) (x : Worker) where
  -- a Reply
  reply-heard : (class : Class) (block : ℕ) (words : List ℕ) (b : Bool) → is_awaited x (record { class = class; block = block }) ≡ b
      → Hears g x (body.Reply class block) words (replied (record { class = class; block = block }) words x)
  reply-heard class block words true e = rw e (hears_reply class block words e)
  reply-heard class block words false e = rw e (hears_unasked class block words e)

  -- a Give
  give-heard : (given : Given) (words : List ℕ) (w : Waits) → x.waits ≡ w → Hears g x (body.Give given) words (given_while w given x)
  give-heard given words ForGive e = hears_give given words e
  give-heard given words ForNothing e = hears_ungiven given words (rw e refl)
  give-heard given words ForRelease e = hears_ungiven given words (rw e refl)
  give-heard given words ForTotal e = hears_ungiven given words (rw e refl)

  -- a Total
  module _ (sync sum : ℕ) (words : List ℕ) where
    untotalled : (w : Waits) (t : Task) → x.waits ≡ w → next_of x.rest ≡ t → (is_for_total w && comes g is_collect t) ≡ false
        → Hears g x (body.Total sync sum) words x
    untotalled w t e n f = hears_untotalled sync sum words (rw (e, n) f)

    total-as : (line : ℕ) (form : Plain) (more : Rest) (a : Asks) → x.waits ≡ ForTotal → next_of x.rest ≡ next.Statement line form more
        → asked g form ≡ a
        → Hears g x (body.Total sync sum) words (totalled_as sum more a x)
    total-as line form more (next.Collect into from) e n q = hears_total sync sum words line form more into from e n q
    total-as line form more next.Local e n q = untotalled _ _ e n (rw q refl)
    total-as line form more (next.Operands blocks) e n q = untotalled _ _ e n (rw q refl)
    total-as line form more (next.Get block) e n q = untotalled _ _ e n (rw q refl)
    total-as line form more (next.Put block how from) e n q = untotalled _ _ e n (rw q refl)
    total-as line form more (next.Sync class) e n q = untotalled _ _ e n (rw q refl)

    total-at : (t : Task) → x.waits ≡ ForTotal → next_of x.rest ≡ t → Hears g x (body.Total sync sum) words (totalled_at g sum t x)
    total-at (next.Statement line form more) e n = total-as line form more (asked g form) e n refl
    total-at next.Over e n = untotalled _ _ e n refl
    total-at next.Control e n = untotalled _ _ e n refl
    total-at next.Pardo e n = untotalled _ _ e n refl
    total-at next.End e n = untotalled _ _ e n refl

    total-heard : (w : Waits) → x.waits ≡ w → Hears g x (body.Total sync sum) words (totalled_while g sum w x)
    total-heard ForTotal e = total-at (next_of x.rest) e refl
    total-heard ForNothing e = untotalled _ _ e refl refl
    total-heard ForGive e = untotalled _ _ e refl refl
    total-heard ForRelease e = untotalled _ _ e refl refl

  -- a Release
  unreleased-at : (w : Waits) (t : Task) → x.waits ≡ w → next_of x.rest ≡ t → (is_for_release w && comes g is_sync t) ≡ false
      → Released g x x None
  unreleased-at w t e n f = unreleased (rw (e, n) f)

  release-as : (line : ℕ) (form : Plain) (more : Rest) (a : Asks) → x.waits ≡ ForRelease → next_of x.rest ≡ next.Statement line form more
      → asked g form ≡ a
      → Released g x (released_as form more a x) (deleted_as form a)
  release-as line form more (next.Sync class) e n q = released line form more class e n q
  release-as line form more next.Local e n q = unreleased-at _ _ e n (rw q refl)
  release-as line form more (next.Operands blocks) e n q = unreleased-at _ _ e n (rw q refl)
  release-as line form more (next.Get block) e n q = unreleased-at _ _ e n (rw q refl)
  release-as line form more (next.Put block how from) e n q = unreleased-at _ _ e n (rw q refl)
  release-as line form more (next.Collect into from) e n q = unreleased-at _ _ e n (rw q refl)

  release-at : (t : Task) → x.waits ≡ ForRelease → next_of x.rest ≡ t → Released g x (released_at g t x) (deleted_at g t)
  release-at (next.Statement line form more) e n = release-as line form more (asked g form) e n refl
  release-at next.Over e n = unreleased-at _ _ e n refl
  release-at next.Control e n = unreleased-at _ _ e n refl
  release-at next.Pardo e n = unreleased-at _ _ e n refl
  release-at next.End e n = unreleased-at _ _ e n refl

  release-heard : (w : Waits) → x.waits ≡ w → Released g x (released_while g w x) (deleted_while g w x)
  release-heard ForRelease e = release-at (next_of x.rest) e refl
  release-heard ForNothing e = unreleased-at _ _ e refl refl
  release-heard ForGive e = unreleased-at _ _ e refl refl
  release-heard ForTotal e = unreleased-at _ _ e refl refl

-- the delivery of a message at a place
module _ (g : Setting) (o : Options) (s : Machine) (place : ℕ) (f : Flying) (at : at_place s.flight place ≡ Some f) (dropped : Option Named) where
  -- what is before the message, and what is behind it
  abbrev before : List Flying
  before = take place s.flight

  abbrev behind : List Flying
  behind = drop (place + 1) s.flight

  splits : s.flight ≡ before ++ f ∷ behind
  splits = place-splits s.flight place f at

  -- an access to a distributed block
  home-leads : (block : ℕ) (access : Accessing) (answer : List ℕ → Flying) → Accesses f Distributed block access answer
      → (c : Option Clash) → clash_at (cell_at s.homed block) access ≡ c
      → Leads g o s (unless_clash Distributed block access.epoch c (at_home (taking_out place s) block access answer))
  home-leads block access answer a None e = comes_home before f behind block access answer splits a e
  home-leads block access answer a (Some clash) e = clashes before f behind Distributed block access answer clash splits a e

  -- an access to a served block
  server-leads : (block : ℕ) (access : Accessing) (answer : List ℕ → Flying) → Accesses f Served block access answer → (c : Option Clash)
      → clash_at (cell_at s.stored block) access ≡ c
      → IsTrue (is_permitted (evicted_for o s block c) dropped)
      → Leads g o s (unless_clash Served block access.epoch c (at_server o (taking_out place s) block access (number_dropped dropped) answer))
  server-leads block access answer a None e p = comes_to_server before f behind block access answer dropped splits a e p
  server-leads block access answer a (Some clash) e p = clashes before f behind Served block access answer clash splits a e

  -- an Ask
  ask-leads : (instance number : ℕ) → f.message.body ≡ body.Ask instance number → may_ask o.workers s.master instance number ≡ true
      → (b : Bool)
      → nat_lt (instance_at s.master instance).next (box_at g (worker_at g s f.message.from).rest) ≡ b
      → Leads g o s (Moved (with_answer f.message.from (answered o.workers f.message.from instance number (box_at g (worker_at g s f.message.from).rest) s.master) (taking_out place s)))
  ask-leads instance number is may true e = rw e (gives before f behind instance number splits is may e)
  ask-leads instance number is may false e = rw e (says_none before f behind instance number splits is may e)

  -- an arrival
  arrival-leads : (m : Master) (sync number : ℕ) (answer : Body) → Meets o s.master f m sync number answer → (b : Bool)
      → is_met o.workers sync number m ≡ b
      → Leads g o s (Moved (met_by o (taking_out place s) m b answer))
  arrival-leads m sync number answer a true e = meets before f behind m sync number answer splits a e
  arrival-leads m sync number answer a false e = waits before f behind m sync number answer splits a e

  -- a message that a worker hears
  hearing-leads : (b : Body) (x : Worker) → f.message.body ≡ b → Hears g (worker_at g s f.message.to) b f.words x
      → Leads g o s (Moved (with_worker f.message.to x (taking_out place s)))
  hearing-leads b x is h = hears before f behind x splits (subst (λ c. Hears g (worker_at g s f.message.to) c f.words x) (sym is) h)

  -- by what the message says
  body-leads : (b : Body) → f.message.body ≡ b → may_go o s b ≡ true → IsTrue (is_permitted (evicted_at o s b) dropped)
      → Leads g o s (delivered g o (taking_out place s) (number_dropped dropped) f.message.from f.message.to f.words b)
  body-leads (body.Request Distributed block epoch line) is may p = home-leads block _ _ (reads Distributed block epoch line is) _ refl
  body-leads (body.Request Served block epoch line) is may p = server-leads block _ _ (reads Served block epoch line is) _ refl p
  body-leads (body.Put Distributed block epoch line how put origin) is may p =
      home-leads block _ _ (writes Distributed block epoch line how put origin is) _ refl
  body-leads (body.Put Served block epoch line how put origin) is may p =
      server-leads block _ _ (writes Served block epoch line how put origin is) _ refl p
  body-leads (body.Reply class block) is may p =
      hearing-leads _ _ is (reply-heard g (worker_at g s f.message.to) class block f.words _ refl)
  body-leads (body.Ack put) is may p = hearing-leads _ _ is (hears_ack put f.words)
  body-leads (body.Ask instance number) is may p = ask-leads instance number is may _ refl
  body-leads (body.Give given) is may p = hearing-leads _ _ is (give-heard g (worker_at g s f.message.to) given f.words _ refl)
  body-leads (body.Arrive sync number) is may p = arrival-leads _ sync number _ (arriving sync number is) _ refl
  body-leads (body.Release sync) is may p =
      releases before f behind sync _ _ splits is (release-heard g (worker_at g s f.message.to) _ refl)
  body-leads (body.Contribute sync number value) is may p = arrival-leads _ sync number _ (contributing sync number value is) _ refl
  body-leads (body.Total sync sum) is may p = hearing-leads _ _ is (total-heard g (worker_at g s f.message.to) sync sum f.words _ refl)

-- what is enabled: a worker with an action, a message that may be delivered, a server with an unwritten block
abbrev pub IsReady : Setting → Options → Machine → Choice → Type 0
IsReady g o s (ByWorker w) = (w < o.workers) × (is_something (action g o (worker_at g s w)) ≡ true)
IsReady g o s (ByMessage place) = (f : Flying) × ((at_place s.flight place ≡ Some f) × (may_go o s f.message.body ≡ true))
IsReady g o s (ByServer v) = (v < o.servers) × (is_unwritten (server_at s v) ≡ true)

-- the workers of the enabled list
workers-ready : (g : Setting) (o : Options) (s : Machine) → AllIn (IsReady g o s) (map ByWorker (able_workers g o s))
workers-ready g o s =
    all-map (IsReady g o s) ByWorker (able_workers g o s)
    (all-filter (λ w. IsReady g o s (ByWorker w)) (λ w. w < o.workers) (λ w. is_something (action g o (worker_at g s w))) (λ w l e. (l, e)) (numbers_from 0 o.workers)
    (all-numbers (λ w. w < o.workers) 0 o.workers (λ k l m. omega arith)))

-- its messages
messages-ready : (g : Setting) (o : Options) (s : Machine) → AllIn (IsReady g o s) (map ByMessage (ready_places o s))
messages-ready g o s =
    all-map (IsReady g o s) ByMessage (ready_places o s)
    (all-map (λ place. IsReady g o s (ByMessage place)) (λ (e : ℕ × Flying). e.0) (filter (λ (e : ℕ × Flying). may_go o s e.1.message.body) (enumerate_from 0 s.flight))
    (all-filter (λ (e : ℕ × Flying). IsReady g o s (ByMessage e.0)) (λ (e : ℕ × Flying). at_place s.flight e.0 ≡ Some e.1) (λ (e : ℕ × Flying). may_go o s e.1.message.body)
    (λ e l t. (e.1, (l, t))) (enumerate_from 0 s.flight)
    (all-enumerated (λ (e : ℕ × Flying). at_place s.flight e.0 ≡ Some e.1) 0 s.flight (λ i x e. subst (λ k. at_place s.flight k ≡ Some x) (omega arith) e))))

-- its servers
servers-ready : (g : Setting) (o : Options) (s : Machine) → AllIn (IsReady g o s) (map ByServer (unwritten_servers o s))
servers-ready g o s =
    all-map (IsReady g o s) ByServer (unwritten_servers o s)
    (all-filter (λ v. IsReady g o s (ByServer v)) (λ v. v < o.servers) (λ v. is_unwritten (server_at s v)) (λ v l e. (l, e)) (numbers_from 0 o.servers)
    (all-numbers (λ v. v < o.servers) 0 o.servers (λ k l m. omega arith)))

-- each entry of the enabled list
pub enabled-ready : (g : Setting) (o : Options) (s : Machine) → AllIn (IsReady g o s) (enabled g o s)
unfolding enabled
enabled-ready g o s =
    all-append (IsReady g o s) _ _ (workers-ready g o s) (all-append (IsReady g o s) _ _ (messages-ready g o s) (servers-ready g o s))

-- a worker's action
action-leads : (g : Setting) (o : Options) (s : Machine) (w : ℕ) (dropped : Option Named) → w < o.workers → (a : Action)
    → is_something a ≡ true → ActsBy g o (worker_at g s w) a
    → IsTrue (is_permitted (dropped_by g o (worker_at g s w) a) dropped) → Leads g o s (performed_by g o s w dropped a)
action-leads g o s w dropped l Idle i h p = absurd cc
action-leads g o s w dropped l (Halt trap) i h p = (l, h)
action-leads g o s w dropped l (Run to) i h p = acts w (Run to) dropped l h p
action-leads g o s w dropped l (Fetch block line) i h p = acts w (Fetch block line) dropped l h p
action-leads g o s w dropped l (Get block line to) i h p = acts w (Get block line to) dropped l h p
action-leads g o s w dropped l (Have block to) i h p = acts w (Have block to) dropped l h p
action-leads g o s w dropped l (Put block line how words to) i h p = acts w (Put block line how words to) dropped l h p
action-leads g o s w dropped l (Arrive class creates) i h p = acts w (Arrive class creates) dropped l h p
action-leads g o s w dropped l (Contribute value) i h p = acts w (Contribute value) dropped l h p
action-leads g o s w dropped l Ask i h p = acts w Ask dropped l h p

-- an entry that is enabled
ready-leads : (g : Setting) (o : Options) (s : Machine) (c : Choice) (dropped : Option Named) → IsReady g o s c → Permits g o s c dropped
    → Leads g o s (perform g o s c dropped)
unfolding perform
ready-leads g o s (ByWorker w) dropped r p =
    action-leads g o s w dropped r.0 (action g o (worker_at g s w)) r.1 (actions-are-acts g o (worker_at g s w)) p
ready-leads g o s (ByMessage place) dropped r p =
    subst (λ z. Leads g o s (delivered_at g o s place dropped z)) (sym r.1.0)
    (body-leads g o s place r.0 r.1.0 dropped r.0.message.body refl r.1.1 (subst (λ z. IsTrue (is_permitted (evicted_if o s z) dropped)) r.1.0 p))
ready-leads g o s (ByServer v) dropped r p = flushes v r.0 r.1

-- an entry that a choice takes
pub entries-are-steps : EntriesAreSteps
entries-are-steps g o s choice c dropped t p =
    ready-leads g o s c dropped (all-at (IsReady g o s) (enabled g o s) (place_taken choice (enabled g o s)) c (enabled-ready g o s) t) p
