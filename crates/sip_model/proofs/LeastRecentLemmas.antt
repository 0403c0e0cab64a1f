-- There is one LRU run of each length up to the end.
use Rattle.std.proofs.Common.{◌≡◌, ℕ, zero, suc, ◌<◌, inl, inr, ⊎_elim, Bool, true, false, List, [], ◌∷◌, ◌++◌, Option, Some, None, refl, sym, ap, ◌∙◌, subst, arith}
use Rattle.std.specs.Prelude.{length, ◌%◌}
use Rattle.std.proofs.lemmas.List.{length-append}
use Rattle.std.proofs.lemmas.Nat.{mod_below}
use Rattle.sial_meaning.specs.Setting.{Setting}
use Rattle.sial_meaning.specs.Statement.{Named}
use Rattle.sip_model.specs.declared.entry.Entry.{Entry}
use Rattle.sip_model.specs.declared.options.Options.{Options}
use Rattle.sip_model.specs.Delivering.{Performed, Moved, Trapped, Conflict}
use Rattle.sip_model.specs.Enabled.{Choice, enabled, taken}
use Rattle.sip_model.specs.Legal.{Standing, Open, AllDone, Stuck, InTrap, InConflict, Takes, begins, goes, traps, conflicts, ends, stops, LeastRecent, Course, recorded, all_over, with_entry, entry_taken, one_on, least_recent_run}
use Rattle.sip_model.specs.Machines.{Machine, at_place}
use Rattle.sip_model.specs.Performing.{IsLeastRecent, least_recent_drop, perform}
use Rattle.sip_model.specs.RunLaws.{LeastRecentRunsAreComputed}
use Rattle.sip_model.specs.Promises.{HasEnded, HasLeastRecentRun, IsOneRun, OneLeastRecentRun}

-- a run with its state and how it stands
abbrev course : List Entry → Machine → Standing → Course
course entries s standing = record { entries = entries; state = s; standing = standing }

-- how the computed run of as many entries stands: at an end where nothing is enabled it is still open
abbrev seen_as : Standing → Standing
seen_as Open = Open
seen_as AllDone = Open
seen_as Stuck = Open
seen_as (InTrap trap worker) = InTrap trap worker
seen_as (InConflict found) = InConflict found

-- a list with one more member is one longer
one-longer : {A : Type 0} (xs : List A) (x : A) → length (xs ++ x ∷ []) ≡ suc (length xs)
one-longer xs x = let m = length-append xs (x ∷ []) in omega arith

-- a member within a list is there
within-some : {A : Type 0} (xs : List A) (k : ℕ) → k < length xs → at_place xs k ≡ None → ⊥
within-some [] k l e = absurd (omega arith)
within-some (x ∷ xs) zero l e = absurd cc
within-some (x ∷ xs) (suc k) l e = within-some xs k (omega arith) e

-- where something is enabled, a choice takes something
none-taken : (c : Choice) (cs : List Choice) (choice : ℕ) → taken choice (c ∷ cs) ≡ None → ⊥
none-taken c cs choice e = within-some (c ∷ cs) (choice % length (c ∷ cs)) (mod_below choice (length (c ∷ cs)) (omega arith)) e

module _ (g : Setting) (o : Options) (choices : ℕ → ℕ) where
  -- one entry more
  walked-on : (entries : List Entry) (s : Machine) (c : Choice) (dropped : Option Named) (p : Performed)
      → least_recent_run g o choices (length entries) ≡ course entries s Open
      → Takes (IsLeastRecent g o) g o s (choices (length entries)) c dropped → perform g o s c dropped ≡ p
      → least_recent_run g o choices (length (entries ++ recorded g o s (choices (length entries)) c dropped ∷ []))
      ≡ with_entry (course entries s Open) (recorded g o s (choices (length entries)) c dropped) p
  walked-on entries s c dropped p r t e =
      ap (least_recent_run g o choices) (one-longer entries (recorded g o s (choices (length entries)) c dropped))
      ∙ (ap (λ (q : Course). one_on g o (choices (length entries)) q q.standing) r
      ∙ (ap (entry_taken g o (choices (length entries)) (course entries s Open)) t.taken_by
      ∙ (ap (λ d. with_entry (course entries s Open) (recorded g o s (choices (length entries)) c d) (perform g o s c d)) (sym t.allowed)
      ∙ ap (with_entry (course entries s Open) (recorded g o s (choices (length entries)) c dropped)) e)))

  -- an LRU run is the computed one
  walked : (entries : List Entry) (s : Machine) (standing : Standing) → LeastRecent g o choices entries s standing
      → least_recent_run g o choices (length entries) ≡ course entries s (seen_as standing)
  walked _ _ _ begins = refl
  walked _ _ _ (goes {entries = es} {s = s} c dropped t run takes e) = walked-on es s c dropped (Moved t) (walked es s Open run) takes e
  walked _ _ _ (traps {entries = es} {s = s} c dropped trap worker run takes e) =
      walked-on es s c dropped (Trapped trap worker) (walked es s Open run) takes e
  walked _ _ _ (conflicts {entries = es} {s = s} c dropped found run takes e) =
      walked-on es s c dropped (Conflict found) (walked es s Open run) takes e
  walked _ _ _ (ends {entries = es} {s = s} run e a) = walked es s Open run
  walked _ _ _ (stops {entries = es} {s = s} run e a) = walked es s Open run

  -- whether all workers are over at an end at which nothing is enabled
  abbrev OverAs : Machine → Standing → Type 0
  OverAs s AllDone = all_over g o s ≡ true
  OverAs s Stuck = all_over g o s ≡ false
  OverAs s Open = Unit {0}
  OverAs s (InTrap trap worker) = Unit {0}
  OverAs s (InConflict found) = Unit {0}

  over-as : (entries : List Entry) (s : Machine) (standing : Standing) → LeastRecent g o choices entries s standing → OverAs s standing
  over-as _ _ _ begins = tt
  over-as _ _ _ (goes c dropped t run takes e) = tt
  over-as _ _ _ (traps c dropped trap worker run takes e) = tt
  over-as _ _ _ (conflicts c dropped found run takes e) = tt
  over-as _ _ _ (ends run e a) = a
  over-as _ _ _ (stops run e a) = a

  -- two ends of one state are one
  one-end : (s : Machine) (standing ending : Standing) → OverAs s standing → OverAs s ending → seen_as standing ≡ seen_as ending
      → HasEnded standing → HasEnded ending → standing ≡ ending
  one-end s AllDone AllDone a b e h k = refl
  one-end s AllDone Stuck a b e h k = absurd (let q : true ≡ false = sym a ∙ b in cc)
  one-end s AllDone (InTrap trap worker) a b e h k = absurd cc
  one-end s AllDone (InConflict found) a b e h k = absurd cc
  one-end s Stuck AllDone a b e h k = absurd (let q : true ≡ false = sym b ∙ a in cc)
  one-end s Stuck Stuck a b e h k = refl
  one-end s Stuck (InTrap trap worker) a b e h k = absurd cc
  one-end s Stuck (InConflict found) a b e h k = absurd cc
  one-end s (InTrap trap worker) AllDone a b e h k = absurd cc
  one-end s (InTrap trap worker) Stuck a b e h k = absurd cc
  one-end s (InTrap trap worker) (InTrap other at) a b e h k = e
  one-end s (InTrap trap worker) (InConflict found) a b e h k = e
  one-end s (InConflict found) AllDone a b e h k = absurd cc
  one-end s (InConflict found) Stuck a b e h k = absurd cc
  one-end s (InConflict found) (InTrap trap worker) a b e h k = e
  one-end s (InConflict found) (InConflict other) a b e h k = e
  one-end s Open ending a b e h k = absurd h
  one-end s AllDone Open a b e h k = absurd k
  one-end s Stuck Open a b e h k = absurd k
  one-end s (InTrap trap worker) Open a b e h k = absurd k
  one-end s (InConflict found) Open a b e h k = absurd k

  -- two LRU runs of as many entries are one
  one-run : (entries other : List Entry) (s t : Machine) (standing ending : Standing) → LeastRecent g o choices entries s standing
      → LeastRecent g o choices other t ending
      → length entries ≡ length other → IsOneRun entries other s t standing ending
  one-run entries other s t standing ending p q n =
      let e : course entries s (seen_as standing) ≡ course other t (seen_as ending) =
      sym (walked entries s standing p) ∙ (ap (least_recent_run g o choices) n ∙ walked other t ending q) in
      let f : s ≡ t = ap (λ (r : Course). r.state) e in
      record {
        entries_are = ap (λ (r : Course). r.entries) e;
        states_are = f;
        standings_are = λ h k.
            one-end s standing ending (over-as entries s standing p) (subst (λ m. OverAs m ending) (sym f) (over-as other t ending q)) (ap (λ (r : Course). r.standing) e) h k;
      }

  -- a run that goes no further
  stands-still : (count : ℕ) (entries : List Entry) (s : Machine) (standing : Standing) → LeastRecent g o choices entries s standing
      → length entries ≡ count → HasEnded standing
      → HasLeastRecentRun g o choices (suc count)
  stands-still count entries s standing p n h = (entries, (s, (standing, (p, inr (omega arith, h)))))

  -- a run that took one entry more
  goes-on : (count : ℕ) (entries : List Entry) (s : Machine) → LeastRecent g o choices entries s Open → length entries ≡ count → (c : Choice)
      → taken (choices (length entries)) (enabled g o s) ≡ Some c → (p : Performed) → perform g o s c (least_recent_drop g o s c) ≡ p
      → HasLeastRecentRun g o choices (suc count)
  goes-on count entries s run n c t (Moved u) e =
      (_, (u, (Open, (goes c (least_recent_drop g o s c) u run (record { taken_by = t; allowed = refl }) e, inl (one-longer entries _ ∙ ap suc n)))))
  goes-on count entries s run n c t (Trapped trap worker) e =
      (_, (s, (InTrap trap worker, (traps c (least_recent_drop g o s c) trap worker run (record { taken_by = t; allowed = refl }) e, inl (one-longer entries _ ∙ ap suc n)))))
  goes-on count entries s run n c t (Conflict found) e =
      (_, (s, (InConflict found, (conflicts c (least_recent_drop g o s c) found run (record { taken_by = t; allowed = refl }) e, inl (one-longer entries _ ∙ ap suc n)))))

  -- an end at which nothing is enabled
  nothing-enabled : (count : ℕ) (entries : List Entry) (s : Machine) → LeastRecent g o choices entries s Open → length entries ≡ count
      → enabled g o s ≡ [] → (b : Bool)
      → all_over g o s ≡ b → HasLeastRecentRun g o choices (suc count)
  nothing-enabled count entries s run n e true a = stands-still count entries s AllDone (ends run e a) n tt
  nothing-enabled count entries s run n e false a = stands-still count entries s Stuck (stops run e a) n tt

  -- one entry more, or the end
  one-more : (count : ℕ) (entries : List Entry) (s : Machine) (standing : Standing) → LeastRecent g o choices entries s standing
      → length entries ≡ count → HasLeastRecentRun g o choices (suc count)
  one-more count entries s AllDone p n = stands-still count entries s AllDone p n tt
  one-more count entries s Stuck p n = stands-still count entries s Stuck p n tt
  one-more count entries s (InTrap trap worker) p n = stands-still count entries s (InTrap trap worker) p n tt
  one-more count entries s (InConflict found) p n = stands-still count entries s (InConflict found) p n tt
  one-more count entries s Open p n = go (enabled g o s) refl (taken (choices (length entries)) (enabled g o s)) refl
    where
      go : (cs : List Choice) → enabled g o s ≡ cs → (c : Option Choice) → taken (choices (length entries)) (enabled g o s) ≡ c
          → HasLeastRecentRun g o choices (suc count)
      go cs e (Some c) t = goes-on count entries s p n c t (perform g o s c (least_recent_drop g o s c)) refl
      go [] e None t = nothing-enabled count entries s p n e (all_over g o s) refl
      go (c ∷ cs) e None t =
          absurd (none-taken c cs (choices (length entries)) (subst (λ z. taken (choices (length entries)) z ≡ None) e t))

  -- so many entries, or the end
  some-run : (count : ℕ) → HasLeastRecentRun g o choices count
  some-run zero = ([], (_, (Open, (begins, inl refl))))
  some-run (suc n) =
      let r = some-run n in
      ⊎_elim
      (λ e. one-more n r.0 r.1.0 r.1.1.0 r.1.1.1.0 e)
      (λ (h : (length r.0 < n) × HasEnded r.1.1.0). (r.0, (r.1.0, (r.1.1.0, (r.1.1.1.0, inr (omega (arith, h.0), h.1))))))
      r.1.1.1.1

-- there is one LRU run of each length up to the end
pub one-least-recent-run : OneLeastRecentRun
one-least-recent-run = record { some = some-run; one = one-run }

-- each LRU run is the computed one
pub least-recent-runs-are-computed : LeastRecentRunsAreComputed
least-recent-runs-are-computed g o choices entries s standing p =
    let e = walked g o choices entries s standing p in
    record { entries_are = sym (ap (λ (r : Course). r.entries) e); state_is = sym (ap (λ (r : Course). r.state) e) }
