-- Statements that may stand within a pardo keep the control, in loops, branches and procedures.
use Rattle.std.proofs.Common.{◌≡◌, ℕ, List, [], ◌∷◌, ◌++◌, Bool, true, false, eqb, Ok, Err, refl, sym, ap, ◌∙◌, inl, inr}
use Rattle.std.proofs.lemmas.Bool.{or_parts, eqb-false}
use Rattle.std.proofs.lemmas.List.{get_or-set_other}
use Rattle.sial_syntax.proofs.AmongLemmas.{Among, among_left, among_right}
use Rattle.sial_syntax.specs.Agreeing.{contains, share_any}
use Rattle.sial_syntax.specs.Parts.{indices_bound}
use Rattle.sial_syntax.specs.Sides.{called_by}
use Rattle.sial_syntax.specs.Tree.{Block, End, Then, Plain, Do, DoIn, Pardo, If, IfElse, Call}
use Rattle.sial_syntax.specs.Visits.{Visit, visits, inner_visits}
use Rattle.sial_meaning.specs.CourseLaws.{KeepsEpochs, KeepsControl, IsKept}
use Rattle.sial_meaning.specs.LocalStep.{Answer}
use Rattle.sial_meaning.specs.Meaning.{block_meaning, form_meaning, chosen, condition, over, on_own, then_own, segments_over, pieces_over}
use Rattle.sial_meaning.specs.Own.{Own, value_of, bound, unset}
use Rattle.sial_meaning.specs.Setting.{Setting}
use Rattle.sial_meaning.specs.State.{State}
use Rattle.sial_meaning.specs.Statement.{Outcome, Went, Stopped, after, Reading}
use Rattle.sial_meaning.proofs.PardosKeepTheControl.Changes.{bound_twice, bound_none}
use Rattle.sial_meaning.proofs.PardosKeepTheControl.Statement.{Calm, epochs_same, epochs_then, control_same, control_then, statement_kept}
use Rattle.sial_meaning.proofs.StepsReachTheFold.Rules.{Unbroken, unbroken_cons, unbroken_append, unbound_there, unbound_one}

-- no index has a number but these
abbrev pub OnlyBound : List ℕ → Own → Type 0
OnlyBound indices own = (i : ℕ) → contains indices i ≡ false → value_of own i ≡ 0

-- no other index has a number where the numbers are the same
pub only_same : (g : Setting) (indices : List ℕ) (a b : Own) → unset g b ≡ unset g a → OnlyBound indices a → OnlyBound indices b
only_same g indices a b e only i out = ap (λ (o : Own). value_of o i) e ∙ only i out

-- an outcome from a state that had kept the control
from_kept : (g : Setting) (s t : State) (o : Outcome) → KeepsControl g s t → IsKept g t o → IsKept g s o
from_kept g s t (Went u) k l = control_then g s t u k l
from_kept g s t (Stopped trap u) k l = epochs_then s t u k.shown l

-- one thing after another
after_kept : (g : Setting) (s : State) (o : Outcome) (f : State → Outcome) → IsKept g s o → ((t : State) → KeepsControl g s t → IsKept g t (f t)) → IsKept g s (after o f)
after_kept g s (Went t) f k h = from_kept g s t (f t) k (h t k)
after_kept g s (Stopped trap t) f k h = k

-- one of two ways
chosen_kept : (g : Setting) (line : ℕ) (answer : Answer Bool) (met unmet : State → Outcome) (s : State) → IsKept g s (met s) → IsKept g s (unmet s) → IsKept g s (chosen line answer met unmet s)
chosen_kept g line (Ok true) met unmet s k l = k
chosen_kept g line (Ok false) met unmet s k l = l
chosen_kept g line (Err kind) met unmet s k l = epochs_same s

-- the control is kept but for the number of a loop's index
record Turned (g : Setting) (index : ℕ) (s t : State) : Type 0 where
  own : bound index 0 (unset g t.own) ≡ unset g s.own
  shown : KeepsEpochs s t

-- so it is after an outcome
abbrev TurnedTo : Setting → ℕ → State → Outcome → Type 0
TurnedTo g index s (Went t) = Turned g index s t
TurnedTo g index s (Stopped trap t) = KeepsEpochs s t

-- the numbers of the other indices, and of a loop's
only_turned : (g : Setting) (indices : List ℕ) (index k : ℕ) (s t : State) → Turned g index s t → OnlyBound indices s.own → OnlyBound (index ∷ indices) (bound index k t.own)
only_turned g indices index k s t turned only i out =
    let parts = or_parts (eqb index i) (contains indices i) out in
    let apart : i ≡ index → ⊥ = λ e. eqb-false index i parts.0 (sym e) in
    get_or-set_other t.own.values index i k 0 apart
    ∙ (sym (get_or-set_other t.own.values index i 0 0 apart) ∙ (ap (λ (o : Own). value_of o i) turned.own ∙ only i parts.1))

module _ (g : Setting) (indices : List ℕ) (index : ℕ) (body : State → Outcome) (keeps : (t : State) → OnlyBound (index ∷ indices) t.own → IsKept g t (body t)) (s : State) (only : OnlyBound indices s.own) where
  -- a turn's outcome, and the turns that follow
  turn_then : (t : State) (k : ℕ) (o : Outcome) (f : State → Outcome) → Turned g index s t → IsKept g (on_own (bound index k) t) o → ((u : State) → Turned g index s u → TurnedTo g index s (f u)) → TurnedTo g index s (after o f)
  turn_then t k (Went u) f turned kept h =
      h
      u
      (record {
        own = ap (bound index 0) kept.own ∙ (bound_twice index k 0 (unset g t.own) ∙ turned.own);
        shown = record { copies = kept.shown.copies ∙ turned.shown.copies; epochs = kept.shown.epochs ∙ turned.shown.epochs; lines = kept.shown.lines ∙ turned.shown.lines };
      })
  turn_then t k (Stopped trap u) f turned kept h = record { copies = kept.copies ∙ turned.shown.copies; epochs = kept.epochs ∙ turned.shown.epochs; lines = kept.lines ∙ turned.shown.lines }

  -- the turns of a loop
  turns_kept : (numbers : List ℕ) (t : State) → Turned g index s t → TurnedTo g index s (over numbers (λ k u. body (on_own (bound index k) u)) t)
  turns_kept [] t turned = turned
  turns_kept (k ∷ ks) t turned =
      turn_then
      t
      k
      (body (on_own (bound index k) t))
      (over ks (λ k u. body (on_own (bound index k) u)))
      turned
      (keeps (on_own (bound index k) t) (only_turned g indices index k s t turned only))
      (turns_kept ks)

  -- the end of a loop
  loop_ends : (o : Outcome) → TurnedTo g index s o → IsKept g s (then_own o (bound index 0))
  loop_ends (Went t) turned = record { own = turned.own; shown = record { copies = turned.shown.copies; epochs = turned.shown.epochs; lines = turned.shown.lines } }
  loop_ends (Stopped trap t) turned = turned

  -- a loop whose index isn't bound
  pub loop_kept : contains indices index ≡ false → (numbers : List ℕ) → IsKept g s (then_own (over numbers (λ k u. body (on_own (bound index k) u)) s) (bound index 0))
  loop_kept out numbers =
      loop_ends
      (over numbers (λ k u. body (on_own (bound index k) u)) s)
      (turns_kept numbers s (record { own = bound_none index (unset g s.own) (only index out); shown = epochs_same s }))

-- the statements of a body may stand within a pardo, and the procedures that they call keep the control
abbrev pub Quiet : Setting → (ℕ → State → Outcome) → List Visit → Type 0
Quiet g call all = (v : Visit) → Among v all → Calm g v.form × ((q : ℕ) → Among q (called_by v.form) → (s : State) → IsKept g s (call q s))

module _ (reading : Reading) (g : Setting) (call : ℕ → State → Outcome) where
  mutual
    -- statements that may stand within a pardo keep the control
    pub block_kept : (indices : List ℕ) (within : Bool) (body : Block) → Unbroken g.program (visits indices within body) → Quiet g call (visits indices within body) → (s : State) → OnlyBound indices s.own → IsKept g s (block_meaning reading g call body s)
    block_kept indices within End e quiet s only = control_same g s
    block_kept indices within (Then line form rest) e quiet s only =
        let here : Visit = record { line = line; form = form; bound = indices; within = within } in
        let first = unbroken_cons g.program here (inner_visits indices within form ++ visits indices within rest) e in
        let inner = unbroken_append g.program (inner_visits indices within form) (visits indices within rest) first.1 in
        after_kept
        g
        s
        (form_meaning reading g call line form s)
        (block_meaning reading g call rest)
        (form_kept
        indices
        within
        line
        form
        (unbound_there g.program here first.0)
        (quiet here (inl refl))
        inner.0
        (λ v m. quiet v (inr (among_left v (inner_visits indices within form) (visits indices within rest) m)))
        s
        only)
        (λ t k. block_kept indices within rest inner.1 (λ v m. quiet v (inr (among_right v (inner_visits indices within form) (visits indices within rest) m))) t (only_same g indices s.own t.own k.own only))

    -- so does each
    form_kept : (indices : List ℕ) (within : Bool) (line : ℕ) (form : Plain) → share_any (indices_bound form) indices ≡ false → Calm g form × ((q : ℕ) → Among q (called_by form) → (s : State) → IsKept g s (call q s)) → Unbroken g.program (inner_visits indices within form) → Quiet g call (inner_visits indices within form) → (s : State) → OnlyBound indices s.own → IsKept g s (form_meaning reading g call line form s)
    form_kept indices within line (Do index body) out here e quiet s only =
        loop_kept
        g
        indices
        index
        (block_meaning reading g call body)
        (λ t o. block_kept (index ∷ indices) within body e quiet t o)
        s
        only
        (unbound_one indices index [] out).0
        (segments_over g index)
    form_kept indices within line (DoIn sub index body) out here e quiet s only =
        loop_kept
        g
        indices
        sub
        (block_meaning reading g call body)
        (λ t o. block_kept (sub ∷ indices) within body e quiet t o)
        s
        only
        (unbound_one indices sub [] out).0
        (pieces_over g s.own sub index)
    form_kept indices within line (Pardo these wheres body) out here e quiet s only = let never : true ≡ false = here.0.pardo in absurd cc
    form_kept indices within line (If test body) out here e quiet s only =
        chosen_kept g line (condition s.own test) (block_meaning reading g call body) Went s (block_kept indices within body e quiet s only) (control_same g s)
    form_kept indices within line (IfElse test body other) out here e quiet s only =
        let both = unbroken_append g.program (visits indices within body) (visits indices within other) e in
        chosen_kept
        g
        line
        (condition s.own test)
        (block_meaning reading g call body)
        (block_meaning reading g call other)
        s
        (block_kept indices within body both.0 (λ v m. quiet v (among_left v (visits indices within body) (visits indices within other) m)) s only)
        (block_kept indices within other both.1 (λ v m. quiet v (among_right v (visits indices within body) (visits indices within other) m)) s only)
    form_kept indices within line (Call procedure) out here e quiet s only = here.1 procedure (inl refl) s
    form_kept indices within line form out here e quiet s only = statement_kept reading g line form here.0 s
