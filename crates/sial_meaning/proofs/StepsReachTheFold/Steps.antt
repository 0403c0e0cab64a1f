-- Where steps of the rest of the work lead.
use Rattle.std.proofs.Common.{◌≡◌, ℕ, zero, suc, refl, sym, subst}
use Rattle.sial_meaning.specs.Rest.{Rest, Join}
use Rattle.sial_meaning.specs.Step.{Work, Stepped, Moved, Halted, Ended, moved, done, step, step_from, go_on, steps}
use Rattle.sial_meaning.specs.Setting.{Setting}
use Rattle.sial_meaning.specs.State.{State}
use Rattle.sial_meaning.specs.Statement.{Outcome, Went, Stopped, after, Reading}

-- from where a step led so many more lead there
abbrev pub Comes : Reading → Setting → Stepped → Stepped → Type 0
Comes reading g t u = (n : ℕ) × (go_on (steps reading g n) t ≡ u)

-- so many steps lead there
abbrev pub Leads : Reading → Setting → Rest → State → Stepped → Type 0
Leads reading g r s u = (n : ℕ) × (steps reading g n (record { rest = r; state = s }) ≡ u)

module _ (reading : Reading) (g : Setting) where
  -- a step, and those that follow it
  pub leads_step : (r : Rest) (s : State) (u : Stepped) → Comes reading g (step_from reading g r s) u → Leads reading g r s u
  leads_step r s u c = (suc c.0, c.1)

  -- no more steps
  pub comes_here : (t : Stepped) → Comes reading g t t
  comes_here (Moved w) = (zero, refl)
  comes_here (Halted trap s) = (zero, refl)
  comes_here Ended = (zero, refl)

  -- no steps
  pub leads_here : (r : Rest) (s : State) → Leads reading g r s (moved r s)
  leads_here r s = (zero, refl)

  -- a step that led to other work goes on as that work does
  pub comes_moved : (r : Rest) (s : State) (u : Stepped) → Leads reading g r s u → Comes reading g (moved r s) u
  comes_moved r s u l = (l.0, l.1)

  -- steps that led to work, and those of this work
  pub comes_on : (n : ℕ) (t : Stepped) (w : Work) (u : Stepped) → go_on (steps reading g n) t ≡ Moved w → Comes reading g (Moved w) u → Comes reading g t u
  comes_on zero (Moved x) w u e c = subst (λ (y : Stepped). Comes reading g y u) (sym e) c
  comes_on (suc n) (Moved x) w u e c = let r = comes_on n (step reading g x) w u e c in (suc r.0, r.1)
  comes_on n (Halted trap s) w u e c = absurd cc
  comes_on n Ended w u e c = absurd cc

  -- steps that led to work, and those of this work
  pub leads_on : (r r1 : Rest) (s s1 : State) (u : Stepped) → Leads reading g r s (moved r1 s1) → Leads reading g r1 s1 u → Leads reading g r s u
  leads_on r r1 s s1 u l m = let c = comes_on l.0 (moved r s) (record { rest = r1; state = s1 }) u l.1 (comes_moved r1 s1 u m) in (c.0, c.1)

  -- steps that led to an outcome, and those of what follows where no trap came
  pub leads_after : (o : Outcome) (f : State → Outcome) (r r1 r2 : Rest) (s : State) → Leads reading g r s (done o r1) → ((s1 : State) → o ≡ Went s1 → Leads reading g r1 s1 (done (f s1) r2)) → Leads reading g r s (done (after o f) r2)
  leads_after (Went s1) f r r1 r2 s l k = leads_on r r1 s s1 (done (f s1) r2) l (k s1 refl)
  leads_after (Stopped trap s1) f r r1 r2 s l k = l

  -- the end of a branch is passed
  pub leads_past : (o : Outcome) (r r1 : Rest) (at : ℕ) (s : State) → Leads reading g r s (done o (Join at r1)) → Leads reading g r s (done o r1)
  leads_past (Went s1) r r1 at s l = leads_on r (Join at r1) s s1 (moved r1 s1) l (leads_step (Join at r1) s1 (moved r1 s1) (comes_here (moved r1 s1)))
  leads_past (Stopped trap s1) r r1 at s l = l
