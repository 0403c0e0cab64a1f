-- Deeds applied one after another, and outcomes made of them.
use Rattle.std.proofs.Common.{◌≡◌, ℕ, List, [], ◌∷◌, ◌++◌, Bool, true, false, Ok, Err, refl, sym, ap, ◌∙◌, append_assoc, append-nil}
use Rattle.sial_meaning.specs.Access.{Touch}
use Rattle.sial_meaning.specs.Deeds.{Deed, Reads, Writes, Adds, Traps, touches, traps, write_to, written, add_to, added, applied}
use Rattle.sial_meaning.specs.LocalStep.{Answer}
use Rattle.sial_meaning.specs.Meaning.{chosen, over, on_own, then_own, unless_left_out}
use Rattle.sial_meaning.specs.Own.{Own}
use Rattle.sial_meaning.specs.Ran.{View, view_of, Ran, Through, Broke, outcome_in, behind, and_so, ran_over, ran_then, ran_by, ran_unless_left_out}
use Rattle.sial_meaning.specs.State.{Shared, State, with_own}
use Rattle.sial_meaning.specs.Statement.{Outcome, Went, Stopped, after, trap_at}

-- the accesses of some deeds and others
pub touches_append : (a b : List Deed) → touches (a ++ b) ≡ touches a ++ touches b
touches_append [] b = refl
touches_append (Reads t ∷ ds) b = ap (λ xs. t ∷ xs) (touches_append ds b)
touches_append (Writes t words ∷ ds) b = ap (λ xs. t ∷ xs) (touches_append ds b)
touches_append (Adds s n ∷ ds) b = touches_append ds b
touches_append (Traps t ∷ ds) b = touches_append ds b

-- their traps
pub traps_append : (a b : List Deed) → traps (a ++ b) ≡ traps a ++ traps b
traps_append [] b = refl
traps_append (Reads t ∷ ds) b = traps_append ds b
traps_append (Writes t words ∷ ds) b = traps_append ds b
traps_append (Adds s n ∷ ds) b = traps_append ds b
traps_append (Traps t ∷ ds) b = ap (λ xs. t ∷ xs) (traps_append ds b)

-- the blocks after some and others
pub written_append : (a b : List Deed) (shared : Shared) → written (a ++ b) shared ≡ written b (written a shared)
written_append [] b shared = refl
written_append (Reads t ∷ ds) b shared = written_append ds b shared
written_append (Writes t words ∷ ds) b shared = written_append ds b (write_to t words shared)
written_append (Adds s n ∷ ds) b shared = written_append ds b shared
written_append (Traps t ∷ ds) b shared = written_append ds b shared

-- the partial scalars after some and others
pub added_append : (a b : List Deed) (partials : List ℕ) → added (a ++ b) partials ≡ added b (added a partials)
added_append [] b partials = refl
added_append (Reads t ∷ ds) b partials = added_append ds b partials
added_append (Writes t words ∷ ds) b partials = added_append ds b partials
added_append (Adds s n ∷ ds) b partials = added_append ds b (add_to s n partials)
added_append (Traps t ∷ ds) b partials = added_append ds b partials

-- a state with other accesses, blocks and partial scalars
abbrev pub outside : State → List Touch → Shared → List ℕ → State
outside s log shared partials = record s { log = log; shared = shared; partials = partials }

-- those of two states are alike
pub outside_same : (s : State) (log log1 : List Touch) (shared shared1 : Shared) (partials partials1 : List ℕ) → log ≡ log1 → shared ≡ shared1 → partials ≡ partials1 → outside s log shared partials ≡ outside s log1 shared1 partials1
outside_same s log log1 shared shared1 partials partials1 a b c =
    ap (λ x. outside s x shared partials) a ∙ (ap (λ x. outside s log1 x partials) b ∙ ap (λ x. outside s log1 shared1 x) c)

-- no deeds
pub applied_none : (s : State) → applied [] s ≡ s
applied_none s = ap (λ log. record s { log = log }) (append-nil s.log)

-- some deeds and others
pub applied_append : (a b : List Deed) (s : State) → applied (a ++ b) s ≡ applied b (applied a s)
applied_append a b s =
    outside_same
    s
    (s.log ++ touches (a ++ b))
    ((s.log ++ touches a) ++ touches b)
    (written (a ++ b) s.shared)
    (written b (written a s.shared))
    (added (a ++ b) s.partials)
    (added b (added a s.partials))
    (ap (λ xs. s.log ++ xs) (touches_append a b) ∙ sym (append_assoc s.log (touches a) (touches b)))
    (written_append a b s.shared)
    (added_append a b s.partials)

-- an outcome doesn't depend on what the worker held in the state
pub outcome_own : (s : State) (own : Own) (x : Ran) → outcome_in (with_own s own) x ≡ outcome_in s x
outcome_own s own (Through ds o) = refl
outcome_own s own (Broke ds trap o) = refl

-- an outcome behind other deeds
pub outcome_behind : (ds : List Deed) (s : State) (x : Ran) → outcome_in (applied ds s) x ≡ outcome_in s (behind ds x)
outcome_behind ds s (Through es o) = ap (λ (t : State). Went (record t { own = o })) (sym (applied_append ds es s))
outcome_behind ds s (Broke es trap o) = ap (λ (t : State). Stopped trap (record t { own = o })) (sym (applied_append ds es s))

-- a worker's part in a state without deeds
pub held_here : (s : State) (own : Own) → Went (with_own s own) ≡ outcome_in s (Through [] own)
held_here s own = ap (λ (t : State). Went (with_own t own)) (sym (applied_none s))

-- meanings that are their deeds in each state
abbrev pub AreDeeds : (State → Outcome) → (View → Own → Ran) → Type 0
AreDeeds f run = (s : State) → f s ≡ outcome_in s (run (view_of s) s.own)

-- one thing after another
pub after_deeds : (s : State) (x : Ran) (f : State → Outcome) (next : View → Own → Ran) → AreDeeds f next → after (outcome_in s x) f ≡ outcome_in s (and_so x (next (view_of s)))
after_deeds s (Through ds o) f next h =
    h (with_own (applied ds s) o) ∙ (outcome_own (applied ds s) o (next (view_of s) o) ∙ outcome_behind ds s (next (view_of s) o))
after_deeds s (Broke ds trap o) f next h = refl

-- one thing after another for each number
pub over_deeds : {X : Type 0} (xs : List X) (turn : X → State → Outcome) (run : X → View → Own → Ran) → ((x : X) → AreDeeds (turn x) (run x)) → AreDeeds (over xs turn) (λ v. ran_over xs (λ x. run x v))
over_deeds [] turn run h s = held_here s s.own
over_deeds (x ∷ xs) turn run h s =
    ap (λ o. after o (over xs turn)) (h x s)
    ∙ after_deeds s (run x (view_of s) s.own) (over xs turn) (λ v. ran_over xs (λ y. run y v)) (over_deeds xs turn run h)

-- the worker's part changed behind what went before
pub then_deeds : (s : State) (o : Outcome) (x : Ran) (f : Own → Own) → o ≡ outcome_in s x → then_own o f ≡ outcome_in s (ran_then x f)
then_deeds s o x f e =
    ap (λ p. then_own p f) e
    ∙ after_deeds s x (λ t. Went (on_own f t)) (λ v own. Through [] (f own)) (λ t. held_here t (f t.own))

-- one of two ways
pub chosen_deeds : (line : ℕ) (answer : Answer Bool) (met unmet : State → Outcome) (run other : View → Own → Ran) → AreDeeds met run → AreDeeds unmet other → (s : State) → chosen line answer met unmet s ≡ outcome_in s (ran_by line answer (run (view_of s)) (other (view_of s)) s.own)
chosen_deeds line (Ok true) met unmet run other a b s = a s
chosen_deeds line (Ok false) met unmet run other a b s = b s
chosen_deeds line (Err kind) met unmet run other a b s = ap (λ t. Stopped (trap_at line kind) t) (sym (applied_none s))

-- a body that may be left out
pub left_out_deeds : (met : Bool) (f : State → Outcome) (run : View → Own → Ran) → AreDeeds f run → (s : State) → unless_left_out met f s ≡ outcome_in s (ran_unless_left_out met (run (view_of s)) s.own)
left_out_deeds true f run h s = h s
left_out_deeds false f run h s = held_here s s.own
