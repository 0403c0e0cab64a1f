-- Traffic is bounded in every state that entries lead to.
use Rattle.std.proofs.Common.{◌<◌, refl, sym, subst, arith}
use Rattle.sial_meaning.specs.Setting.{Setting}
use Rattle.sip_model.specs.declared.options.Options.{Options}
use Rattle.sip_model.specs.Doing.{acted}
use Rattle.sip_model.specs.Machines.{Machine, worker_at}
use Rattle.sip_model.specs.Promises.{BoundedTraffic}
use Rattle.sip_model.specs.Steps.{Step, acts, comes_home, comes_to_server, hears, releases, gives, says_none, waits, meets, flushes, Reach, at_start, then_step}
use Rattle.sip_model.specs.Traffic.{is_control_of}
use Rattle.sip_model.proofs.CountLemmas.{counted-is}
use Rattle.sip_model.proofs.ReachLemmas.{runs-reach}
use Rattle.sip_model.proofs.WorkerTraffic.{busy-most, acts-facts, HearFacts, hears-facts, released-facts}
use Rattle.sip_model.proofs.MachineTraffic.{Traffic, traffic-begins, acts-keep, same-keep, owner-less, hears-keep, answer-keep, waits-keep, meets-keep}

-- one entry keeps it
traffic-kept : (g : Setting) (o : Options) → o.workers < 256 → (s r : Machine) → Traffic g o s → Step g o s r → Traffic g o r
traffic-kept g o few s _ t (acts w action dropped l a p) =
    acts-keep g o few s t w (acted o w (worker_at g s w) dropped action) l (acts-facts g o w (worker_at g s w) action dropped a p)
traffic-kept g o few s _ t (comes_home xs f ys block access answer e a c) =
    same-keep g o few s t _ refl refl (λ v l. owner-less g o few s t v xs f ys _ block access answer _ e a)
traffic-kept g o few s _ t (comes_to_server xs f ys block access answer dropped e a c p) =
    same-keep g o few s t _ refl refl (λ v l. owner-less g o few s t v xs f ys _ block access answer _ e a)
traffic-kept g o few s _ t (hears xs f ys x e h) =
    hears-keep g o few s t xs f ys x _ e (hears-facts g o _ f.message.body f.words x h) refl refl refl
traffic-kept g o few s _ t (releases xs f ys sync x deleted e is h) =
    hears-keep g o few s t xs f ys x _ e (subst (λ b. HearFacts o (worker_at g s f.message.to) b x) (sym is) (released-facts g o _ sync x deleted h)) refl refl refl
traffic-kept g o few s _ t (gives xs f ys instance place e is may n) =
    answer-keep g o few s t xs f ys instance place _ _ e is refl refl refl
traffic-kept g o few s _ t (says_none xs f ys instance place e is may n) =
    answer-keep g o few s t xs f ys instance place _ _ e is refl refl refl
traffic-kept g o few s _ t (waits xs f ys m sync place answer e a n) = waits-keep g o few s t xs f ys m sync place answer e a
traffic-kept g o few s _ t (meets xs f ys m sync place answer e a n) = meets-keep g o few s t xs f ys m sync place answer e a n
traffic-kept g o few s _ t (flushes v l u) = same-keep g o few s t _ refl refl (λ w k. omega arith)

-- it holds wherever entries lead
traffic-reached : (g : Setting) (o : Options) → o.workers < 256 → (s : Machine) → Reach g o s → Traffic g o s
traffic-reached g o few _ at_start = traffic-begins g o
traffic-reached g o few _ (then_step {s = s} {t = r} reach step) = traffic-kept g o few s r (traffic-reached g o few s reach) step

-- bounded traffic
pub bounded-traffic : BoundedTraffic
bounded-traffic g o sound within choices entries s standing run w l =
    let few : o.workers < 256 = let k = within.workers in omega arith in
    let t = traffic-reached g o few s (runs-reach g o choices entries s standing run) in
    let b = t.bounds w l in
    record {
      cache = b.cache;
      puts = b.puts;
      control =
          let c = counted-is (is_control_of w) s.flight in
          let k = t.waiting w l in
          let n = busy-most (worker_at g s w).waits in
          omega arith;
    }
