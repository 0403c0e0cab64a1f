-- States of legal runs are reached by entries, and LRU runs are legal.
use Rattle.std.proofs.Common.{◌≡◌, ℕ, Bool, true, false, List, [], ◌∷◌, Option, refl, sym, ap, ◌∙◌, subst}
use Rattle.std.specs.Prelude.{◌||◌, nat_lt, IsTrue}
use Rattle.std.specs.List.{list_any}
use Rattle.std.proofs.lemmas.Bool.{eq-eqb}
use Rattle.std.proofs.Math.Bool.{or-true}
use Rattle.sial_syntax.specs.declared.access.Class.{Class}
use Rattle.sial_syntax.specs.declared.access.Class.TheVariants.{Distributed, Served}
use Rattle.sial_meaning.specs.Setting.{Setting}
use Rattle.sial_meaning.specs.Statement.{Named}
use Rattle.sip_model.specs.declared.options.Options.{Options}
use Rattle.sip_model.specs.Delivering.{Performed, Moved}
use Rattle.sip_model.specs.Enabled.{Choice}
use Rattle.sip_model.specs.Legal.{Takes, begins, goes, traps, conflicts, ends, stops}
use Rattle.sip_model.specs.Machines.{Machine}
use Rattle.sip_model.specs.Performing.{Candidate, is_permitted, oldest, older_of, least_recent_of, candidates, Permits, IsLeastRecent, perform}
use Rattle.sip_model.specs.RunLaws.{RunsReach, LeastRecentRunsAreLegal}
use Rattle.sip_model.specs.Steps.{Reach, at_start, then_step, Leads}
use Rattle.sip_model.specs.Workers.{same_named}
use Rattle.sip_model.proofs.EntryLemmas.{entries-are-steps}

-- where an entry moved the machine, that is a step
moved-step : (g : Setting) (o : Options) (s t : Machine) (p : Performed) → p ≡ Moved t → Leads g o s p → Reach g o s → Reach g o t
moved-step g o s t p e l r = then_step r (subst (Leads g o s) e l)

-- the state of a legal run
pub runs-reach : RunsReach
runs-reach g o choices _ _ _ begins = at_start
runs-reach g o choices _ _ _ (goes {s = s} c dropped t run takes e) =
    moved-step g o s t (perform g o s c dropped) e (entries-are-steps g o s _ c dropped takes.taken_by takes.allowed) (runs-reach g o choices _ _ _ run)
runs-reach g o choices _ _ _ (traps c dropped trap worker run takes e) = runs-reach g o choices _ _ _ run
runs-reach g o choices _ _ _ (conflicts c dropped found run takes e) = runs-reach g o choices _ _ _ run
runs-reach g o choices _ _ _ (ends run e a) = runs-reach g o choices _ _ _ run
runs-reach g o choices _ _ _ (stops run e a) = runs-reach g o choices _ _ _ run

-- a block has its own name
pub named-self : (b : Named) → same_named b b ≡ true
named-self b = go b.class refl
  where
    go : (c : Class) → b.class ≡ c → same_named b b ≡ true
    go Distributed e = rw e (eq-eqb b.block b.block refl)
    go Served e = rw e (eq-eqb b.block b.block refl)

-- the oldest of some candidates is one of them
oldest-among : (c : Candidate) (cs : List Candidate)
    → list_any (λ (d : Candidate). same_named d.block (older_of c (oldest cs)).block) (c ∷ cs) ≡ true
oldest-among c [] = rw (named-self c.block) refl
oldest-among c (d ∷ ds) = go (nat_lt (older_of d (oldest ds)).used c.used) refl (oldest-among d ds)
  where
    go : (b : Bool) → nat_lt (older_of d (oldest ds)).used c.used ≡ b
        → list_any (λ (e : Candidate). same_named e.block (older_of d (oldest ds)).block) (d ∷ ds) ≡ true
        → list_any (λ (e : Candidate). same_named e.block (older_of c (oldest (d ∷ ds))).block) (c ∷ d ∷ ds) ≡ true
    go true e r =
        let q : older_of c (oldest (d ∷ ds)) ≡ older_of d (oldest ds) = rw e refl in
        subst
        (λ (w : Candidate). list_any (λ (e : Candidate). same_named e.block w.block) (c ∷ d ∷ ds) ≡ true)
        (sym q)
        (ap (λ b. same_named c.block (older_of d (oldest ds)).block || b) r ∙ or-true (same_named c.block (older_of d (oldest ds)).block))
    go false e r = rw (e, named-self c.block) refl

-- the LRU drop is permitted
pub least-recent-permitted : (cs : List Candidate) → IsTrue (is_permitted cs (least_recent_of cs))
least-recent-permitted [] = refl
least-recent-permitted (c ∷ cs) = oldest-among c cs

-- an entry with the LRU drop is one with a permitted drop
takes-permitted : (g : Setting) (o : Options) (s : Machine) (choice : ℕ) (c : Choice) (dropped : Option Named)
    → Takes (IsLeastRecent g o) g o s choice c dropped
    → Takes (Permits g o) g o s choice c dropped
takes-permitted g o s choice c dropped t = record {
  taken_by = t.taken_by;
  allowed = subst (λ d. IsTrue (is_permitted (candidates g o s c) d)) (sym t.allowed) (least-recent-permitted (candidates g o s c));
}

-- an LRU run is legal
pub least-recent-runs-are-legal : LeastRecentRunsAreLegal
least-recent-runs-are-legal g o choices _ _ _ begins = begins
least-recent-runs-are-legal g o choices _ _ _ (goes {s = s} c dropped t run takes e) =
    goes c dropped t (least-recent-runs-are-legal g o choices _ _ _ run) (takes-permitted g o s _ c dropped takes) e
least-recent-runs-are-legal g o choices _ _ _ (traps {s = s} c dropped trap worker run takes e) =
    traps c dropped trap worker (least-recent-runs-are-legal g o choices _ _ _ run) (takes-permitted g o s _ c dropped takes) e
least-recent-runs-are-legal g o choices _ _ _ (conflicts {s = s} c dropped found run takes e) =
    conflicts c dropped found (least-recent-runs-are-legal g o choices _ _ _ run) (takes-permitted g o s _ c dropped takes) e
least-recent-runs-are-legal g o choices _ _ _ (ends run e a) = ends (least-recent-runs-are-legal g o choices _ _ _ run) e a
least-recent-runs-are-legal g o choices _ _ _ (stops run e a) = stops (least-recent-runs-are-legal g o choices _ _ _ run) e a
