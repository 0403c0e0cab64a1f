-- Calls mean the same however deep they may go, where they go no deeper.
use Rattle.std.proofs.Common.{◌≡◌, ℕ, zero, suc, ◌≤◌, List, [], ◌∷◌, ◌++◌, Bool, true, false, Ok, Err, refl, ap, ◌∙◌, arith, inl, inr}
use Rattle.sial_syntax.proofs.AmongLemmas.{Among, among_left, among_right, among_flat, all_at}
use Rattle.sial_syntax.proofs.DepthLemmas.{shallow}
use Rattle.sial_syntax.specs.Boxes.{tuples}
use Rattle.sial_syntax.specs.Sides.{called_by}
use Rattle.sial_syntax.specs.SideRules.{calls_of}
use Rattle.sial_syntax.specs.Spaces.{box_of}
use Rattle.sial_syntax.specs.Tree.{Block, End, Then, Plain, Do, DoIn, Pardo, If, IfElse, Call}
use Rattle.sial_syntax.specs.Visits.{Visit, visits, inner_visits, body_visits}
use Rattle.sial_meaning.specs.LocalStep.{Answer}
use Rattle.sial_meaning.specs.Meaning.{block_meaning, form_meaning, calls, chosen, condition, over, on_own, then_own, iteration, unless_left_out, all_met, taken_up, left, segments_over, pieces_over}
use Rattle.sial_meaning.specs.Own.{bound, none_bound, with_values, unset}
use Rattle.sial_meaning.specs.Setting.{Setting, procedure_body}
use Rattle.sial_meaning.specs.State.{State}
use Rattle.sial_meaning.specs.Statement.{Outcome, Went, after, Reading}
use Rattle.sial_meaning.proofs.StepsReachTheFold.Turns.{same_after}

-- what follows the same is the same
both_after : (o p : Outcome) (f h : State → Outcome) → o ≡ p → ((s : State) → f s ≡ h s) → after o f ≡ after p h
both_after o p f h e k = same_after o f h k ∙ ap (λ x. after x h) e

-- one thing after another that is the same
same_over : {X : Type 0} (xs : List X) (turn other : X → State → Outcome) → ((x : X) (s : State) → turn x s ≡ other x s) → (s : State) → over xs turn s ≡ over xs other s
same_over [] turn other e s = refl
same_over (x ∷ xs) turn other e s = both_after (turn x s) (other x s) (over xs turn) (over xs other) (e x s) (same_over xs turn other e)

-- one of two ways
same_chosen : (line : ℕ) (answer : Answer Bool) (met unmet met1 unmet1 : State → Outcome) (s : State) → met s ≡ met1 s → unmet s ≡ unmet1 s → chosen line answer met unmet s ≡ chosen line answer met1 unmet1 s
same_chosen line (Ok true) met unmet met1 unmet1 s e f = e
same_chosen line (Ok false) met unmet met1 unmet1 s e f = f
same_chosen line (Err kind) met unmet met1 unmet1 s e f = refl

-- a body that may be left out
pub same_unless : (met : Bool) (body other : State → Outcome) (s : State) → body s ≡ other s → unless_left_out met body s ≡ unless_left_out met other s
same_unless true body other s e = e
same_unless false body other s e = refl

module _ (reading : Reading) (g : Setting) (call other : ℕ → State → Outcome) where
  -- the procedures that these statements call mean the same
  abbrev pub Alike : List Visit → Type 0
  Alike all = (v : Visit) → Among v all → (q : ℕ) → Among q (called_by v.form) → (s : State) → call q s ≡ other q s

  mutual
    -- statements mean the same where their calls do
    pub block_same : (indices : List ℕ) (within : Bool) (body : Block) → Alike (visits indices within body) → (s : State) → block_meaning reading g call body s ≡ block_meaning reading g other body s
    block_same indices within End alike s = refl
    block_same indices within (Then line form rest) alike s =
        both_after
        (form_meaning reading g call line form s)
        (form_meaning reading g other line form s)
        (block_meaning reading g call rest)
        (block_meaning reading g other rest)
        (form_same
        indices
        within
        line
        form
        (λ q c t. alike (record { line = line; form = form; bound = indices; within = within }) (inl refl) q c t)
        (λ v m. alike v (inr (among_left v (inner_visits indices within form) (visits indices within rest) m)))
        s)
        (block_same indices within rest (λ v m. alike v (inr (among_right v (inner_visits indices within form) (visits indices within rest) m))))

    -- so does each
    pub form_same : (indices : List ℕ) (within : Bool) (line : ℕ) (form : Plain) → ((q : ℕ) → Among q (called_by form) → (s : State) → call q s ≡ other q s) → Alike (inner_visits indices within form) → (s : State) → form_meaning reading g call line form s ≡ form_meaning reading g other line form s
    form_same indices within line (Do index body) here alike s =
        ap
        (λ o. then_own o (bound index 0))
        (same_over
        (segments_over g index)
        (λ k t. block_meaning reading g call body (on_own (bound index k) t))
        (λ k t. block_meaning reading g other body (on_own (bound index k) t))
        (λ k t. block_same (index ∷ indices) within body alike (on_own (bound index k) t))
        s)
    form_same indices within line (DoIn sub index body) here alike s =
        ap
        (λ o. then_own o (bound sub 0))
        (same_over
        (pieces_over g s.own sub index)
        (λ k t. block_meaning reading g call body (on_own (bound sub k) t))
        (λ k t. block_meaning reading g other body (on_own (bound sub k) t))
        (λ k t. block_same (sub ∷ indices) within body alike (on_own (bound sub k) t))
        s)
    form_same indices within line (Pardo these wheres body) here alike s =
        ap
        (λ o. then_own o (left g these))
        (same_over
        (tuples (box_of g.spaces these))
        (λ tuple t. iteration wheres (block_meaning reading g call body) (on_own (taken_up g these tuple) t))
        (λ tuple t. iteration wheres (block_meaning reading g other body) (on_own (taken_up g these tuple) t))
        (λ tuple t.
        same_unless
        (all_met (taken_up g these tuple t.own) wheres)
        (block_meaning reading g call body)
        (block_meaning reading g other body)
        (on_own (taken_up g these tuple) t)
        (block_same (these ++ indices) true body alike (on_own (taken_up g these tuple) t)))
        (on_own (unset g) s))
    form_same indices within line (If test body) here alike s =
        same_chosen line (condition s.own test) (block_meaning reading g call body) Went (block_meaning reading g other body) Went s (block_same indices within body alike s) refl
    form_same indices within line (IfElse test body more) here alike s =
        same_chosen
        line
        (condition s.own test)
        (block_meaning reading g call body)
        (block_meaning reading g call more)
        (block_meaning reading g other body)
        (block_meaning reading g other more)
        s
        (block_same indices within body (λ v m. alike v (among_left v (visits indices within body) (visits indices within more) m)) s)
        (block_same indices within more (λ v m. alike v (among_right v (visits indices within body) (visits indices within more) m)) s)
    form_same indices within line (Call procedure) here alike s = here procedure (inl refl) s
    form_same indices within line form here alike s = refl

module _ (reading : Reading) (g : Setting) where
  -- calls that may go as deep as they do mean what deeper ones mean
  pub calls_same : (n d q : ℕ) → shallow g.program n q ≡ true → n ≤ d → (s : State) → calls reading g d q s ≡ calls reading g n q s
  calls_same zero d q flat enough s = absurd cc
  calls_same (suc n) zero q flat enough s = absurd (omega (arith, enough))
  calls_same (suc n) (suc d) q flat enough s =
      ap
      (λ o. then_own o (with_values s.own.values))
      (block_same
      reading
      g
      (calls reading g d)
      (calls reading g n)
      []
      false
      (procedure_body g q)
      (λ v m r c t.
      calls_same
      n
      d
      r
      (all_at (shallow g.program n) r (calls_of g.program q) flat (among_flat (λ (w : Visit). called_by w.form) v r (body_visits (procedure_body g q)) m c))
      (omega (arith, enough))
      t)
      (on_own none_bound s))
