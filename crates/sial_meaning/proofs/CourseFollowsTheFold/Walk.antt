-- The course, point by point, beside the steps of the rest of the work and the fold to which they lead.
use Rattle.std.proofs.Common.{◌≡◌, ℕ, zero, suc, ◌+◌, ◌-◌, ◌<◌, ◌≤◌, List, [], ◌∷◌, ◌++◌, ◌⊎◌, inl, inr, ⊎_elim, refl, sym, ap, ◌∙◌, subst, arith}
use Rattle.std.proofs.lemmas.Bool.{cases_lt, cases_order}
use Rattle.sial_syntax.specs.Numbering.{stop_at}
use Rattle.sial_meaning.specs.declared.trap.Trap.{Trap}
use Rattle.sial_meaning.specs.Course.{Point, next_point, course}
use Rattle.sial_meaning.specs.CourseLaws.{StepsReachTheCourse, NotesFirst, Follows, CourseFollowsTheFold, FirstTrapIsTheFolds}
use Rattle.sial_meaning.specs.Sound.{IsGrantedSetting}
use Rattle.sial_meaning.specs.Meaning.{by_epochs}
use Rattle.sial_meaning.specs.Rest.{Over}
use Rattle.sial_meaning.specs.Step.{Work, Stepped, Moved, Halted, Ended, done, step, go_on, steps, start_work}
use Rattle.sial_meaning.specs.Setting.{Setting}
use Rattle.sial_meaning.specs.State.{State}
use Rattle.sial_meaning.specs.Statement.{Outcome, Went, Stopped, Copied}
use Rattle.sial_meaning.proofs.CourseFollowsTheFold.Fit.{course_fit}
use Rattle.sial_meaning.proofs.CourseFollowsTheFold.Rest.{Fit}
use Rattle.sial_meaning.proofs.CourseFollowsTheFold.Steps.{Onward, goes, halts, ends, notes, go_add, onward, traps_stay}
use Rattle.sial_meaning.proofs.StepsReachTheFold.Fold.{reaches_fold}

-- a point with no trap noted
abbrev pub clear : Work → Point
clear w = record { work = w; traps = [] }

-- where steps stay at last, beside an outcome
abbrev stopped_at : Outcome → Stepped
stopped_at (Went s) = Ended
stopped_at (Stopped trap s) = Halted trap s

-- an outcome that stays so
abbrev outcome_at : Outcome → Stepped → Outcome
outcome_at o (Moved w) = o
outcome_at o (Halted trap s) = Stopped trap s
outcome_at o Ended = o

-- the outcome where steps stay at a trap
halted_is : (o : Outcome) (trap : Trap) (s : State) → stopped_at o ≡ Halted trap s → o ≡ Stopped trap s
halted_is (Went u) trap s e = absurd cc
halted_is (Stopped t u) trap s e = ap (outcome_at (Stopped t u)) e

-- the work where steps led, or else this
abbrev work_at : Work → Stepped → Work
work_at w (Moved x) = x
work_at w (Halted trap s) = w
work_at w Ended = w

-- no steps stay where they go on
never_moved : (o : Outcome) (w : Work) → stopped_at o ≡ Moved w → ⊥
never_moved (Went u) w e = absurd cc
never_moved (Stopped t u) w e = absurd cc

-- the first of noted traps
abbrev first_or : Trap → List Trap → Trap
first_or trap [] = trap
first_or trap (t ∷ ts) = t

module _ (g : Setting) (set : IsGrantedSetting g) where
  -- the work of the program from its start
  abbrev pub start : Work
  start = start_work g

  -- where a step stays, all further steps stay
  stays_halted : (a b : ℕ) (w : Work) (t : Stepped) → steps Copied g a start ≡ Moved w → step Copied g w ≡ t → go_on (steps Copied g b) t ≡ t → steps Copied g (a + suc b) start ≡ t
  stays_halted a b w t e f stays =
      go_add Copied g a (suc b) (Moved start) ∙ (ap (go_on (steps Copied g (suc b))) e ∙ (ap (go_on (steps Copied g b)) f ∙ stays))

  -- behind the fold's steps all steps stay
  behind : (o : Outcome) (k b : ℕ) → steps Copied g k start ≡ done o (Over (stop_at g.program)) → steps Copied g (k + suc b) start ≡ stopped_at o
  behind (Went s) k b e = stays_halted k b (record { rest = Over (stop_at g.program); state = s }) Ended e refl refl
  behind (Stopped trap s) k b e = go_add Copied g k (suc b) (Moved start) ∙ ap (go_on (steps Copied g (suc b))) e

  -- the same number of steps
  same_count : (a b : ℕ) (t u : Stepped) → steps Copied g a start ≡ t → steps Copied g b start ≡ u → a ≡ b → t ≡ u
  same_count a b t u e f c = sym e ∙ (ap (λ n. steps Copied g n start) c ∙ f)

  -- where steps from some work halt, all further steps stay
  halted_after : (a n : ℕ) (w : Work) (trap : Trap) (s : State) → steps Copied g a start ≡ Moved w → steps Copied g n w ≡ Halted trap s → (b : ℕ) → steps Copied g (a + n + suc b) start ≡ Halted trap s
  halted_after a n w trap s r e b =
      go_add Copied g (a + n) (suc b) (Moved start)
      ∙ ap (go_on (steps Copied g (suc b))) (go_add Copied g a n (Moved start) ∙ (ap (go_on (steps Copied g n)) r ∙ e))

  -- steps that halt, with the outcome to which the fold's steps led
  pub halts_as : (o : Outcome) (k a : ℕ) (trap : Trap) (s : State) → steps Copied g k start ≡ done o (Over (stop_at g.program)) → ((b : ℕ) → steps Copied g (a + suc b) start ≡ Halted trap s) → o ≡ Stopped trap s
  halts_as o k a trap s e f = halted_is o trap s (same_count (k + suc a) (a + suc k) (stopped_at o) (Halted trap s) (behind o k a e) (f k) (omega arith))

  -- steps that end, with the outcome to which the fold's steps led
  ends_as : (o : Outcome) (k a : ℕ) (w : Work) → steps Copied g k start ≡ done o (Over (stop_at g.program)) → steps Copied g a start ≡ Moved w → step Copied g w ≡ Ended → (s : State) × (o ≡ Went s) × (w ≡ record { rest = Over (stop_at g.program); state = s })
  ends_as (Stopped trap s) k a w e f end =
      let same : Halted trap s ≡ Ended = same_count (k + suc a) (a + suc k) (Halted trap s) Ended (behind (Stopped trap s) k a e) (stays_halted a k w Ended f end refl) (omega arith) in absurd cc
  ends_as (Went s) k a w e f end = (s, refl, one (cases_order a k))
    where
      one : (a ≡ k) ⊎ ((a < k) ⊎ (k < a)) → w ≡ record { rest = Over (stop_at g.program); state = s }
      one (inl same) = ap (work_at w) (same_count a k (Moved w) (Moved (record { rest = Over (stop_at g.program); state = s })) f e same)
      one (inr (inl before)) =
          let over : Ended ≡ Moved (record { rest = Over (stop_at g.program); state = s }) =
          same_count (a + suc (k - suc a)) k Ended (Moved (record { rest = Over (stop_at g.program); state = s })) (stays_halted a (k - suc a) w Ended f end refl) e (omega (arith, before)) in
          absurd cc
      one (inr (inr past)) =
          let over : Ended ≡ Moved w = same_count (k + suc (a - suc k)) a Ended (Moved w) (behind (Went s) k (a - suc k) e) f (omega (arith, past)) in absurd cc

  -- the course is at a point that steps reach, after at least so many
  pub record On (n t : ℕ) : Type 0 where
    pub work : Work
    pub count : ℕ
    pub is : course g t ≡ clear work
    pub reached : steps Copied g count start ≡ Moved work
    pub enough : n ≤ count

  -- the course goes on from such a point
  pub onward_from : (n t : ℕ) (on : On n t) → Onward g on.work (course g (suc t))
  onward_from n t on =
      let fit = subst (λ (p : Point). Fit g set p.work) on.is (course_fit g set t) in
      subst (λ (p : Point). Onward g on.work p) (ap (next_point g) (sym on.is)) (onward g set on.work.rest on.work.state fit)

  -- a point from which the course doesn't go on stays
  stays : (t : ℕ) (w : Work) → course g t ≡ clear w → course g (suc t) ≡ clear w → (u : ℕ) → t ≤ u → course g u ≡ clear w
  stays t w e f zero late = let none : t ≡ 0 = omega (arith, late) in subst (λ (n : ℕ). course g n ≡ clear w) none e
  stays t w e f (suc u) late =
      ⊎_elim
      (λ (before : u < t). let here : t ≡ suc u = omega (arith, late, before) in subst (λ (n : ℕ). course g n ≡ clear w) here e)
      (λ (past : t ≤ u). ap (next_point g) (stays t w e f u past) ∙ (sym (ap (next_point g) e) ∙ f))
      (cases_lt u t)

  -- at the start
  on_start : On 0 0
  on_start = record { work = start; count = 0; is = refl; reached = refl; enough = omega arith }

  -- the course has noted a trap
  abbrev pub Noted : ℕ → Type 0
  Noted t = (trap : Trap) × (more : List Trap) × ((course g t).traps ≡ trap ∷ more)

  -- a point that steps reach, or one behind a noted trap
  next_reached : (t : ℕ) (on : On 0 t) → Onward g on.work (course g (suc t)) → On 0 (suc t) ⊎ Noted (suc t)
  next_reached t on (goes x n e next) =
      inl (record {
        work = x;
        count = on.count + suc n;
        is = next;
        reached = go_add Copied g on.count (suc n) (Moved start) ∙ (ap (go_on (steps Copied g (suc n))) on.reached ∙ e);
        enough = omega arith;
      })
  next_reached t on (halts trap s e next) = inl (record { work = on.work; count = on.count; is = next; reached = on.reached; enough = omega arith })
  next_reached t on (ends e next) = inl (record { work = on.work; count = on.count; is = next; reached = on.reached; enough = omega arith })
  next_reached t on (notes trap s n more e traps log) = inr (trap, more, traps)

  -- each point of the course
  pub reached_or_noted : (t : ℕ) → On 0 t ⊎ Noted t
  reached_or_noted zero = inl on_start
  reached_or_noted (suc t) =
      ⊎_elim
      (λ (on : On 0 t). next_reached t on (onward_from 0 t on))
      (λ (noted : Noted t).
      let stay = traps_stay g set (course g t).work.rest (course g t).work.state (course g t).traps (course_fit g set t) in
      inr (noted.0, noted.1 ++ stay.0, stay.1 ∙ ap (λ xs. xs ++ stay.0) noted.2))
      (reached_or_noted t)

  -- as long as no trap was noted, steps reach the course
  pub steps_reach : (t : ℕ) → (course g t).traps ≡ [] → (count : ℕ) × (steps Copied g count start ≡ Moved (course g t).work)
  steps_reach t none =
      ⊎_elim
      (λ (on : On 0 t). (on.count, on.reached ∙ ap (λ (p : Point). Moved p.work) (sym on.is)))
      (λ (noted : Noted t). let some : (course g t).traps ≡ noted.0 ∷ noted.1 = noted.2 in absurd cc)
      (reached_or_noted t)

  module _ (o : Outcome) (k : ℕ) (led : steps Copied g k start ≡ done o (Over (stop_at g.program))) where
    -- a step further, or where the outcome is
    next_follows : (t : ℕ) (on : On t t) → Onward g on.work (course g (suc t)) → On (suc t) (suc t) ⊎ Follows g o
    next_follows t on (goes x n e next) =
        inl (record {
          work = x;
          count = on.count + suc n;
          is = next;
          reached = go_add Copied g on.count (suc n) (Moved start) ∙ (ap (go_on (steps Copied g (suc n))) on.reached ∙ e);
          enough = let late : t ≤ on.count = on.enough in omega (arith, late);
        })
    next_follows t on (halts trap s e next) =
        inr
        (subst
        (λ (x : Outcome). Follows g x)
        (sym (halts_as o k on.count trap s led (λ b. stays_halted on.count b on.work (Halted trap s) on.reached e refl)))
        (inl (on.work, e, (t, stays t on.work on.is next))))
    next_follows t on (ends e next) =
        let end = ends_as o k on.count on.work led on.reached e in
        inr
        (subst
        (λ (x : Outcome). Follows g x)
        (sym end.1)
        (t, λ u late. stays t on.work on.is next u late ∙ ap clear end.2))
    next_follows t on (notes trap s n more e traps log) =
        inr
        (subst
        (λ (x : Outcome). Follows g x)
        (sym (halts_as o k (on.count + n) trap s led (λ b. halted_after on.count n on.work trap s on.reached e b)))
        (inr (t, record { none = ap (λ (p : Point). p.traps) on.is; first = (more, traps); log = log })))

    -- so many steps further, or where the outcome is
    walk : (t : ℕ) → On t t ⊎ Follows g o
    walk zero = inl on_start
    walk (suc t) = ⊎_elim (λ (on : On t t). next_follows t on (onward_from t t on)) (λ (f : Follows g o). inr f) (walk t)

    -- the course comes where the outcome is
    pub comes_there : Follows g o
    comes_there =
        ⊎_elim
        (λ (on : On (suc k) (suc k)).
        let late : suc k ≤ on.count = on.enough in
        absurd
        (never_moved
        o
        on.work
        (same_count (k + suc (on.count - suc k)) on.count (stopped_at o) (Moved on.work) (behind o k (on.count - suc k) led) on.reached (omega (arith, late)))))
        (λ (f : Follows g o). f)
        (walk (suc k))

-- as long as no trap was noted, steps reach the course's points
pub steps_reach_it : StepsReachTheCourse
steps_reach_it g set t none = steps_reach g set t none

-- the course follows the fold
pub follows_fold : CourseFollowsTheFold
follows_fold g set = let r = reaches_fold Copied g set.proper set.granted in comes_there g set (by_epochs g) r.0 r.1

module _ (g : Setting) (set : IsGrantedSetting g) (t : ℕ) (trap : Trap) (more : List Trap) (first : (course g (suc t)).traps ≡ trap ∷ more) where
  -- the fold has this trap
  abbrev Has : Type 0
  Has = (s : State) × (by_epochs g ≡ Stopped trap s) × NotesFirst g t trap s

  -- where the course goes on without a trap none is noted
  not_clear : (w : Work) → course g (suc t) ≡ clear w → Has
  not_clear w e = let none : trap ∷ more ≡ [] = sym first ∙ ap (λ (p : Point). p.traps) e in absurd cc

  -- by how the course goes on
  noted_here : (on : On g set 0 t) → Onward g on.work (course g (suc t)) → Has
  noted_here on (goes x n e next) = not_clear x next
  noted_here on (halts other s e next) = not_clear on.work next
  noted_here on (ends e next) = not_clear on.work next
  noted_here on (notes other s n others e traps log) =
      let r = reaches_fold Copied g set.proper set.granted in
      let same : other ≡ trap = ap (first_or trap) (sym traps ∙ first) in (
        s,
        halts_as g set (by_epochs g) r.0 (on.count + n) other s r.1 (λ b. halted_after g set on.count n on.work other s on.reached e b) ∙ ap (λ (x : Trap). Stopped x s) same,
        record { none = ap (λ (p : Point). p.traps) on.is; first = (more, first); log = log },
      )

-- the first trap that the course notes is the fold's
pub first_trap : FirstTrapIsTheFolds
first_trap g set t trap more none first =
    ⊎_elim
    (λ (on : On g set 0 t). noted_here g set t trap more first on (onward_from g set 0 t on))
    (λ (noted : Noted g set t). let some : (course g t).traps ≡ noted.0 ∷ noted.1 = noted.2 in absurd cc)
    (reached_or_noted g set t)
