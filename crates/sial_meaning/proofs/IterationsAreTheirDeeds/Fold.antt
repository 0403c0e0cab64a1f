-- The fold over an iteration is its deeds.
use Rattle.std.proofs.Common.{◌≡◌, ℕ, zero, suc, List, [], ◌∷◌, ◌++◌, Bool, true, false, refl, ap, ◌∙◌, inl, inr}
use Rattle.sial_syntax.proofs.AmongLemmas.{Among, among_left, among_right}
use Rattle.sial_syntax.specs.declared.condition.Cond.{Cond}
use Rattle.sial_syntax.specs.Sides.{called_by}
use Rattle.sial_syntax.specs.Tree.{Block, End, Then, Plain, Do, DoIn, Pardo, If, IfElse, Call}
use Rattle.sial_syntax.specs.Visits.{Visit, visits, inner_visits}
use Rattle.sial_meaning.specs.Meaning.{block_meaning, form_meaning, calls, condition, over, on_own, iteration, all_met, segments_over, pieces_over}
use Rattle.sial_meaning.specs.Own.{Own, bound, none_bound, with_values}
use Rattle.sial_meaning.specs.Ran.{View, view_of, Ran, Through, outcome_in, ran_over, block_ran, form_ran, calls_ran, iteration_ran}
use Rattle.sial_meaning.specs.Setting.{Setting, procedure_body}
use Rattle.sial_meaning.specs.Sound.{IsGrantedSetting}
use Rattle.sial_meaning.specs.State.{State}
use Rattle.sial_meaning.specs.Statement.{Outcome, Went, Copied, after}
use Rattle.sial_meaning.proofs.PardosKeepTheControl.Calls.{PardoStands}
use Rattle.sial_meaning.proofs.PardosKeepTheControl.Statement.{Calm}
use Rattle.sial_meaning.proofs.CourseFollowsTheFold.Stand.{CalledWithin, within_calm, visits_within}
use Rattle.sial_meaning.proofs.IterationsAreTheirDeeds.Deeds.{AreDeeds, held_here, outcome_own, after_deeds, over_deeds, then_deeds, chosen_deeds, left_out_deeds}
use Rattle.sial_meaning.proofs.IterationsAreTheirDeeds.Statement.{statement_is}

module _ (g : Setting) (call : ℕ → State → Outcome) (run : View → ℕ → Own → Ran) where
  -- a call is its deeds
  abbrev pub CallIs : ℕ → Type 0
  CallIs q = (s : State) → call q s ≡ outcome_in s (run (view_of s) q s.own)

  -- the statements of a body may stand within a pardo, and the procedures that they call are their deeds
  abbrev pub Deedful : List Visit → Type 0
  Deedful all = (v : Visit) → Among v all → Calm g v.form × ((q : ℕ) → Among q (called_by v.form) → CallIs q)

  -- the turns of a loop are their deeds
  loop_is : (index : ℕ) (body : Block) → AreDeeds (block_meaning Copied g call body) (λ v. block_ran g v (run v) body) → (numbers : List ℕ) → AreDeeds (over numbers (λ k t. block_meaning Copied g call body (on_own (bound index k) t))) (λ v. ran_over numbers (λ k o. block_ran g v (run v) body (bound index k o)))
  loop_is index body is numbers =
      over_deeds
      numbers
      (λ k t. block_meaning Copied g call body (on_own (bound index k) t))
      (λ k v o. block_ran g v (run v) body (bound index k o))
      (λ k t. is (on_own (bound index k) t) ∙ outcome_own t (bound index k t.own) (block_ran g (view_of t) (run (view_of t)) body (bound index k t.own)))

  mutual
    -- statements are their deeds
    pub block_is : (indices : List ℕ) (within : Bool) (body : Block) → Deedful (visits indices within body) → AreDeeds (block_meaning Copied g call body) (λ v. block_ran g v (run v) body)
    block_is indices within End calm s = held_here s s.own
    block_is indices within (Then line form rest) calm s =
        let here : Visit = record { line = line; form = form; bound = indices; within = within } in
        ap (λ o. after o (block_meaning Copied g call rest)) (form_is indices within line form (calm here (inl refl)) (λ v m. calm v (inr (among_left v (inner_visits indices within form) (visits indices within rest) m))) s)
        ∙ after_deeds
        s
        (form_ran g (view_of s) (run (view_of s)) line form s.own)
        (block_meaning Copied g call rest)
        (λ v. block_ran g v (run v) rest)
        (block_is indices within rest (λ v m. calm v (inr (among_right v (inner_visits indices within form) (visits indices within rest) m))))

    -- so is each
    form_is : (indices : List ℕ) (within : Bool) (line : ℕ) (form : Plain) → Calm g form × ((q : ℕ) → Among q (called_by form) → CallIs q) → Deedful (inner_visits indices within form) → AreDeeds (form_meaning Copied g call line form) (λ v. form_ran g v (run v) line form)
    form_is indices within line (Do index body) here calm s =
        then_deeds
        s
        (over (segments_over g index) (λ k t. block_meaning Copied g call body (on_own (bound index k) t)) s)
        (ran_over (segments_over g index) (λ k o. block_ran g (view_of s) (run (view_of s)) body (bound index k o)) s.own)
        (bound index 0)
        (loop_is index body (block_is (index ∷ indices) within body calm) (segments_over g index) s)
    form_is indices within line (DoIn sub index body) here calm s =
        then_deeds
        s
        (over (pieces_over g s.own sub index) (λ k t. block_meaning Copied g call body (on_own (bound sub k) t)) s)
        (ran_over (pieces_over g s.own sub index) (λ k o. block_ran g (view_of s) (run (view_of s)) body (bound sub k o)) s.own)
        (bound sub 0)
        (loop_is sub body (block_is (sub ∷ indices) within body calm) (pieces_over g s.own sub index) s)
    form_is indices within line (Pardo these wheres body) here calm s = let never : true ≡ false = here.0.pardo in absurd cc
    form_is indices within line (If test body) here calm s =
        chosen_deeds
        line
        (condition s.own test)
        (block_meaning Copied g call body)
        Went
        (λ v. block_ran g v (run v) body)
        (λ v. Through [])
        (block_is indices within body calm)
        (λ t. held_here t t.own)
        s
    form_is indices within line (IfElse test body other) here calm s =
        chosen_deeds
        line
        (condition s.own test)
        (block_meaning Copied g call body)
        (block_meaning Copied g call other)
        (λ v. block_ran g v (run v) body)
        (λ v. block_ran g v (run v) other)
        (block_is indices within body (λ v m. calm v (among_left v (visits indices within body) (visits indices within other) m)))
        (block_is indices within other (λ v m. calm v (among_right v (visits indices within body) (visits indices within other) m)))
        s
    form_is indices within line (Call procedure) here calm s = here.1 procedure (inl refl) s
    form_is indices within line form here calm s = statement_is g line form here.0 s

module _ (g : Setting) (set : IsGrantedSetting g) where
  -- procedures that are called within a pardo are their deeds
  pub calls_are : (d q : ℕ) → CalledWithin g set q → CallIs g (calls Copied g d) (λ v. calls_ran g v d) q
  calls_are zero q called s = held_here s s.own
  calls_are (suc d) q called s =
      let body : Block = procedure_body g q in
      let x : Ran = block_ran g (view_of s) (calls_ran g (view_of s) d) body (none_bound s.own) in
      then_deeds
      s
      (block_meaning Copied g (calls Copied g d) body (on_own none_bound s))
      x
      (with_values s.own.values)
      (block_is
      g
      (calls Copied g d)
      (λ v. calls_ran g v d)
      []
      false
      body
      (λ v m. let calm = within_calm g set q called v m in (calm.0, λ r c. calls_are d r (calm.1 r c)))
      (on_own none_bound s)
      ∙ outcome_own s (none_bound s.own) x)

  -- the statements of a pardo's body
  pub body_deedful : (d : ℕ) (indices these : List ℕ) (body : Block) → PardoStands g set d indices these body → (depth : ℕ) → Deedful g (calls Copied g depth) (λ v. calls_ran g v depth) (visits (these ++ indices) true body)
  body_deedful d indices these body stands depth v m =
      let within = visits_within (these ++ indices) body v m in
      ((stands.outer v m).calm within, λ q c. calls_are depth q ((stands.outer v m).inner within q c))

  -- an iteration is its deeds
  pub iteration_is : (d : ℕ) (indices these : List ℕ) (wheres : List Cond) (body : Block) → PardoStands g set d indices these body → (depth : ℕ) → AreDeeds (iteration wheres (block_meaning Copied g (calls Copied g depth) body)) (λ v. iteration_ran g v depth wheres body)
  iteration_is d indices these wheres body stands depth s =
      left_out_deeds
      (all_met s.own wheres)
      (block_meaning Copied g (calls Copied g depth) body)
      (λ v. block_ran g v (calls_ran g v depth) body)
      (block_is g (calls Copied g depth) (λ v. calls_ran g v depth) (these ++ indices) true body (body_deedful d indices these body stands depth))
      s
