-- What one action and one message do to a worker's traffic: its cache, its puts, and what it waits for.
use Rattle.std.proofs.Common.{◌≡◌, ℕ, ◌+◌, ◌<◌, ◌≤◌, Bool, true, false, List, [], ◌∷◌, Option, Some, None, refl, sym, ap, ◌∙◌, subst, arith}
use Rattle.std.specs.Prelude.{map, filter, length, nat_lt, not, IsTrue, ◌==◌, ◌&&◌}
use Rattle.std.specs.List.{list_any}
use Rattle.std.proofs.lemmas.Bool.{ltb-true, ne_eqb}
use Rattle.std.proofs.lemmas.List.{length-map, length-append}
use Rattle.sial_syntax.specs.Spaces.{same_class}
use Rattle.sial_meaning.specs.Next.{next_of}
use Rattle.sial_meaning.specs.Setting.{Setting}
use Rattle.sial_meaning.specs.Statement.{Named, named}
use Rattle.sip_model.specs.declared.message.Body.{Body}
use Rattle.sip_model.specs.declared.message.Body.TheVariants as body
use Rattle.sip_model.specs.declared.message.Given.TheVariants as given
use Rattle.sip_model.specs.declared.options.Options.{Options}
use Rattle.sip_model.specs.Acting.{Action, is_spare, has_room, free_put}
use Rattle.sip_model.specs.Acts.{operands, Acts, goes, enters, takes, leaves, asks, does, reads, fetches, has, awaits, gets, puts, arrives, contributes}
use Rattle.sip_model.specs.Doing.{Acted, acted}
use Rattle.sip_model.specs.Flight.{Flying, bare}
use Rattle.sip_model.specs.Hears.{Hears, hears_reply, hears_unasked, hears_ack, hears_give, hears_ungiven, hears_total, hears_untotalled, Released, released, unreleased}
use Rattle.sip_model.specs.Performing.{Candidate, is_permitted, operands_at, worker_candidates, dropped_by}
use Rattle.sip_model.specs.Traffic.{is_control, is_control_of}
use Rattle.sip_model.specs.Workers.{Waits, ForNothing, ForGive, ForRelease, ForTotal, Cached, Posted, Worker, same_named, places_taken, used, all_used, without_dropped}
use Rattle.sip_model.proofs.CountLemmas.{one_if, counted, one-if-most, filter-short, filter-shorter, some-pass, found-before}

-- 1 where a worker waits
abbrev pub busy : Waits → ℕ
busy ForNothing = 0
busy ForGive = 1
busy ForRelease = 1
busy ForTotal = 1

-- a worker waits for one thing at the most
pub busy-most : (w : Waits) → busy w ≤ 1
busy-most ForNothing = omega arith
busy-most ForGive = omega arith
busy-most ForRelease = omega arith
busy-most ForTotal = omega arith

-- the bounds on a worker
pub record Bounded (o : Options) (x : Worker) : Type 0 where
  pub cache : places_taken x ≤ o.cache
  pub puts : length x.puts ≤ o.puts

-- what an action does to traffic: bounds stay, a worker that posts a message of control waits, and no other worker gets one
pub record ActFacts (o : Options) (w : ℕ) (x : Worker) (a : Acted) : Type 0 where
  pub bounds : Bounded o x → Bounded o a.to
  pub free : busy x.waits ≡ 0
  pub own : counted (is_control_of w) a.posts ≤ busy a.to.waits
  pub others : (v : ℕ) → (v ≡ w → ⊥) → v < 255 → counted (is_control_of v) a.posts ≡ 0

-- a use of a cached block keeps the places
used-places : (b : Named) (x : Worker) → places_taken (used b x) ≡ places_taken x
used-places b x = ap (λ n. n + length x.awaited) (length-map x.cache _)

-- so do several, and the puts and what is waited for
all-used-places : (bs : List Named) (x : Worker) → places_taken (all_used bs x) ≡ places_taken x
all-used-places [] x = refl
all-used-places (b ∷ bs) x = all-used-places bs (used b x) ∙ used-places b x

all-used-puts : (bs : List Named) (x : Worker) → (all_used bs x).puts ≡ x.puts
all-used-puts [] x = refl
all-used-puts (b ∷ bs) x = all-used-puts bs (used b x)

-- a permitted drop of one of some candidates takes a cached block
drop-taken : (p : Cached → Bool) (cache : List Cached) (dropped : Option Named) → list_any p cache ≡ true
    → IsTrue (is_permitted (map (λ (c : Cached). record { block = c.block; used = c.used }) (filter p cache)) dropped)
    → length (without_dropped dropped cache) + 1 ≤ length cache
drop-taken p cache dropped e = go (filter p cache) refl dropped
  where
    go : (cs : List Cached) → filter p cache ≡ cs → (d : Option Named)
        → IsTrue (is_permitted (map (λ (c : Cached). record { block = c.block; used = c.used }) cs) d)
        → length (without_dropped d cache) + 1 ≤ length cache
    go [] f d t = absurd (some-pass p cache e f)
    go (c ∷ cs) f None t = absurd cc
    go (c ∷ cs) f (Some b) t =
        filter-shorter (λ (c : Cached). same_named c.block b) cache
        (found-before p (λ (c : Cached). record { block = c.block; used = c.used }) (λ (d : Candidate). same_named d.block b) cache
        (subst (λ (z : List Cached). list_any (λ (d : Candidate). same_named d.block b) (map (λ (c : Cached). record { block = c.block; used = c.used }) z) ≡ true) (sym f) t))

-- a worker that asks for a block keeps within its places, where there is room and the drop is permitted
asking-places : (g : Setting) (o : Options) (x : Worker) (block : Named) (dropped : Option Named)
    → has_room o x (operands_at g x.own (next_of x.rest)) ≡ true
    → IsTrue (is_permitted (worker_candidates g o x) dropped) → places_taken x ≤ o.cache
    → length (without_dropped dropped x.cache) + (length x.awaited + 1) ≤ o.cache
asking-places g o x block dropped room permitted = go (nat_lt (places_taken x) o.cache) refl
  where
    spare : Cached → Bool
    spare = is_spare (operands_at g x.own (next_of x.rest))

    go : (b : Bool) → nat_lt (places_taken x) o.cache ≡ b → places_taken x ≤ o.cache
        → length (without_dropped dropped x.cache) + (length x.awaited + 1) ≤ o.cache
    go true e l =
        let n : places_taken x < o.cache = ltb-true _ _ e in
        let d : IsTrue (is_permitted [] dropped) = rw e at permitted in
        none dropped d n
      where
        none : (d : Option Named) → IsTrue (is_permitted [] d) → places_taken x < o.cache
            → length (without_dropped d x.cache) + (length x.awaited + 1) ≤ o.cache
        none None t n = omega arith
        none (Some b) t n = absurd cc
    go false e l =
        let r : list_any (is_spare (operands_at g x.own (next_of x.rest))) x.cache ≡ true = rw e at room in
        let d : IsTrue (is_permitted (map (λ (c : Cached). record { block = c.block; used = c.used }) (filter (is_spare (operands_at g x.own (next_of x.rest))) x.cache)) dropped) = rw e at permitted in
        let s = drop-taken (is_spare (operands_at g x.own (next_of x.rest))) x.cache dropped r d in
        omega arith

-- a message of control between a worker and the master is that worker's
own-most : (w : ℕ) (f : Flying) → counted (is_control_of w) (f ∷ []) ≤ 1
own-most w f = let k = one-if-most (is_control_of w f) in omega arith

-- and no other's
other-none : (w v : ℕ) (b : Body) (words : List ℕ) → (v ≡ w → ⊥) → v < 255
    → counted (is_control_of v) (record { message = record { from = w; to = 255; body = b }; words = words } ∷ []) ≡ 0
other-none w v b words ne l =
    rw (ne_eqb w v (λ e. ne (sym e)), ne_eqb 255 v (λ e. absurd (omega arith))) (go (is_control b))
  where
    go : (c : Bool) → one_if (c && false) + 0 ≡ 0
    go true = refl
    go false = refl

-- a worker that doesn't wait, and what it does alone
alone-facts : (o : Options) (w : ℕ) (x y : Worker) → x.waits ≡ ForNothing → (Bounded o x → Bounded o y)
    → ActFacts o w x (record { to = y; posts = []; makes = None })
alone-facts o w x y free keeps = record { bounds = keeps; free = rw free refl; own = omega arith; others = λ v ne l. refl }

-- with a post that isn't of control
transfer-facts : (o : Options) (w : ℕ) (x y : Worker) (f : Flying) → x.waits ≡ ForNothing → is_control f.message.body ≡ false
    → (Bounded o x → Bounded o y)
    → ActFacts o w x (record { to = y; posts = f ∷ []; makes = None })
transfer-facts o w x y f free c keeps =
    record { bounds = keeps; free = rw free refl; own = rw c (omega arith); others = λ v ne l. rw c refl }

-- with a post of control, behind which the worker waits
control-facts : (o : Options) (w : ℕ) (x y : Worker) (b : Body) (makes : Option ℕ) → x.waits ≡ ForNothing → busy y.waits ≡ 1
    → (Bounded o x → Bounded o y)
    → ActFacts o w x (record { to = y; posts = bare w 255 b ∷ []; makes = makes })
control-facts o w x y b makes free waits keeps = record {
  bounds = keeps;
  free = rw free refl;
  own = rw waits (own-most w (bare w 255 b));
  others = λ v ne l. other-none w v b [] ne l;
}

-- each action
pub acts-facts : (g : Setting) (o : Options) (w : ℕ) (x : Worker) (a : Action) (dropped : Option Named) → Acts g o x a
    → IsTrue (is_permitted (dropped_by g o x a) dropped)
    → ActFacts o w x (acted o w x dropped a)
acts-facts g o w x _ dropped (goes rest own free comes e) p = alone-facts o w x _ free (λ b. record { cache = b.cache; puts = b.puts })
acts-facts g o w x _ dropped (enters rest own free comes e) p = alone-facts o w x _ free (λ b. record { cache = b.cache; puts = b.puts })
acts-facts g o w x _ dropped (takes pardo number behind more rest own st e) p =
    alone-facts o w x _ st.free (λ b. record { cache = b.cache; puts = b.puts })
acts-facts g o w x _ dropped (leaves pardo number behind rest own st told e) p =
    alone-facts o w x _ st.free (λ b. record { cache = b.cache; puts = b.puts })
acts-facts g o w x _ dropped (asks pardo number behind st told) p =
    control-facts o w x _ _ _ st.free refl (λ b. record { cache = b.cache; puts = b.puts })
acts-facts g o w x _ dropped (does line form more done st q e) p =
    alone-facts o w x _ st.free (λ b. record { cache = b.cache; puts = b.puts })
acts-facts g o w x _ dropped (reads line form more blocks done st q all e) p =
    alone-facts o w x _ st.free
    (λ b. record { cache = subst (λ n. n ≤ o.cache) (sym (all-used-places (operands g x blocks) x)) b.cache; puts = subst (λ (z : List Posted). length z ≤ o.puts) (sym (all-used-puts (operands g x blocks) x)) b.puts })
acts-facts g o w x _ dropped (fetches line form more blocks block st q all e room) p =
    transfer-facts o w x _ _ st.free refl
    (λ b. record {
      cache = let r = asking-places g o x block dropped (rw (st.comes, q) room) p b.cache in let m = length-append x.awaited (block ∷ []) in omega arith;
      puts = b.puts;
    })
acts-facts g o w x _ dropped (has line form more block st q c) p =
    alone-facts o w x _ st.free (λ b. record { cache = subst (λ n. n ≤ o.cache) (sym (used-places (named g x.own block) x)) b.cache; puts = b.puts })
acts-facts g o w x _ dropped (awaits line form more block st q c a) p =
    alone-facts o w x _ st.free (λ b. record { cache = b.cache; puts = b.puts })
acts-facts g o w x _ dropped (gets line form more block st q c a room) p =
    transfer-facts o w x _ _ st.free refl
    (λ b. record {
      cache = let r = asking-places g o x (named g x.own block) dropped (rw (st.comes, q) room) p b.cache in let m = length-append x.awaited (named g x.own block ∷ []) in omega arith;
      puts = b.puts;
    })
acts-facts g o w x _ dropped (puts line form more block how from words st q may e) p =
    transfer-facts o w x _ _ st.free refl (λ b. record { cache = b.cache; puts = let l : length x.puts < o.puts = ltb-true _ _ may in let m = length-append x.puts (record { put = free_put x.puts; class = (named g x.own block).class } ∷ []) in omega arith })
acts-facts g o w x _ dropped (arrives line form more class st q t) p = control-facts o w x _ _ _ st.free refl (λ b. record { cache = let l = filter-short (λ (c : Cached). not (same_class c.block.class class)) x.cache in let k = b.cache in omega arith; puts = b.puts })
acts-facts g o w x _ dropped (contributes line form more into from st q) p =
    control-facts o w x _ _ _ st.free refl (λ b. record { cache = b.cache; puts = b.puts })

-- what a message does to the traffic of the worker that hears it: bounds stay, and only a message of control ends its waiting
pub record HearFacts (o : Options) (x : Worker) (b : Body) (y : Worker) : Type 0 where
  pub bounds : Bounded o x → Bounded o y
  pub waits : busy x.waits ≤ busy y.waits + one_if (is_control b)

-- each message other than a Release
pub hears-facts : (g : Setting) (o : Options) (x : Worker) (b : Body) (words : List ℕ) (y : Worker) → Hears g x b words y
    → HearFacts o x b y
hears-facts g o x _ _ _ (hears_reply class block words a) = record {
  bounds = λ b. record { cache = let l = filter-shorter (same_named (record { class = class; block = block })) x.awaited a in let k = b.cache in let m = length-append x.cache (record { block = record { class = class; block = block }; words = words; used = x.uses } ∷ []) in omega arith; puts = b.puts };
  waits = omega arith;
}
hears-facts g o x _ _ _ (hears_unasked class block words a) = record { bounds = λ b. b; waits = omega arith }
hears-facts g o x _ _ _ (hears_ack put words) = record {
  bounds = λ b. record { cache = b.cache; puts = let l = filter-short (λ (p : Posted). not (p.put == put)) x.puts in let k = b.puts in omega arith };
  waits = omega arith;
}
hears-facts g o x _ _ _ (hears_give (given.Chunk first count) words w) =
    record { bounds = λ b. record { cache = b.cache; puts = b.puts }; waits = busy-most x.waits }
hears-facts g o x _ _ _ (hears_give given.NoneLeft words w) =
    record { bounds = λ b. record { cache = b.cache; puts = b.puts }; waits = busy-most x.waits }
hears-facts g o x _ _ _ (hears_ungiven given words w) = record { bounds = λ b. b; waits = omega arith }
hears-facts g o x _ _ _ (hears_total sync sum words line form more into from w n q) =
    record { bounds = λ b. record { cache = b.cache; puts = b.puts }; waits = busy-most x.waits }
hears-facts g o x _ _ _ (hears_untotalled sync sum words w) = record { bounds = λ b. b; waits = omega arith }

-- a Release
pub released-facts : (g : Setting) (o : Options) (x : Worker) (sync : ℕ) (y : Worker) (deleted : Option ℕ) → Released g x y deleted
    → HearFacts o x (body.Release sync) y
released-facts g o x sync _ _ (released line form more class w n q) =
    record { bounds = λ b. record { cache = b.cache; puts = b.puts }; waits = busy-most x.waits }
released-facts g o x sync _ _ (unreleased w) = record { bounds = λ b. b; waits = omega arith }
