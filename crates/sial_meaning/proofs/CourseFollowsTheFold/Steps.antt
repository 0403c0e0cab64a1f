-- Where steps and the course lead from one point.
use Rattle.std.proofs.Common.{◌≡◌, ℕ, zero, suc, ◌+◌, ◌≤◌, List, [], ◌∷◌, ◌++◌, false, refl, sym, ap, ◌∙◌, subst, arith, append-nil}
use Rattle.sial_syntax.specs.declared.condition.Cond.{Cond}
use Rattle.sial_syntax.specs.Boxes.{tuples}
use Rattle.sial_syntax.specs.Spaces.{box_of}
use Rattle.sial_syntax.specs.Tree.{Block, Plain, Pardo}
use Rattle.sial_meaning.specs.declared.trap.Trap.{Trap}
use Rattle.sial_meaning.specs.Course.{Point, stepped, next_from, whole_pardo, course}
use Rattle.sial_meaning.specs.CourseLaws.{CourseGoesOn}
use Rattle.sial_meaning.specs.Sound.{IsGrantedSetting}
use Rattle.sial_meaning.specs.Meaning.{form_meaning, calls, call_depth, on_own}
use Rattle.sial_meaning.specs.Own.{unset}
use Rattle.sial_meaning.specs.Rest.{Rest, Over, Next, Turn, Join, Back, Within, depth}
use Rattle.sial_meaning.specs.Step.{Work, Stepped, Moved, Halted, Ended, done, step, step_from, go_on, steps}
use Rattle.sial_meaning.specs.Setting.{Setting}
use Rattle.sial_meaning.specs.State.{State}
use Rattle.sial_meaning.specs.Statement.{Outcome, Went, Stopped, Reading, Copied}
use Rattle.sial_meaning.proofs.PardosKeepTheControl.Calls.{PardoStands}
use Rattle.sial_meaning.proofs.CourseFollowsTheFold.Depth.{form_same, calls_same}
use Rattle.sial_meaning.proofs.CourseFollowsTheFold.Fit.{pardo_stands, course_fit}
use Rattle.sial_meaning.proofs.CourseFollowsTheFold.Pardos.{FollowsPardo, pardo_follows, turns_note, turns_extend}
use Rattle.sial_meaning.proofs.CourseFollowsTheFold.Rest.{Fit}
use Rattle.sial_meaning.proofs.EpochsAgree.Clashes.{Extends, extends_same}
use Rattle.sial_meaning.proofs.EpochsAgree.Steps.{ExtendsAt, step_extends}
use Rattle.sial_meaning.proofs.StepsReachTheFold.Steps.{Leads}
use Rattle.sial_meaning.proofs.StepsReachTheFold.Fold.{form_leads, calls_lead}

-- so many steps, and then more
pub go_add : (reading : Reading) (g : Setting) (a b : ℕ) (t : Stepped) → go_on (steps reading g (a + b)) t ≡ go_on (steps reading g b) (go_on (steps reading g a) t)
go_add reading g zero b (Moved w) = let none : ◌≡◌ {A = ℕ} (0 + b) b = omega arith in ap (λ n. steps reading g n w) none
go_add reading g (suc a) b (Moved w) =
    let one : ◌≡◌ {A = ℕ} (suc a + b) (suc (a + b)) = omega arith in ap (λ n. steps reading g n w) one ∙ go_add reading g a b (step reading g w)
go_add reading g a b (Halted trap s) = refl
go_add reading g a b Ended = refl

-- how many things are left to do
abbrev items : Rest → ℕ
items (Over at) = 0
items (Next at line form rest) = suc (items rest)
items (Turn loop last rest) = suc (items rest)
items (Join at rest) = suc (items rest)
items (Back at values rest) = suc (items rest)
items (Within pardo number rest) = suc (items rest)

-- the things left to do where steps led
abbrev items_at : Stepped → ℕ
items_at (Moved w) = items w.rest
items_at (Halted trap s) = 0
items_at Ended = 0

-- how the course goes on from a point without traps, beside the steps from its work
pub data Onward (g : Setting) (w : Work) (next : Point) : Type 0 where
  -- to work that steps reach
  goes : (x : Work) (n : ℕ) → steps Copied g (suc n) w ≡ Moved x → next ≡ record { work = x; traps = [] } → Onward g w next
  -- nowhere, where the step halts
  halts : (trap : Trap) (s : State) → step Copied g w ≡ Halted trap s → next ≡ record { work = w; traps = [] } → Onward g w next
  -- nowhere, at the program's end
  ends : step Copied g w ≡ Ended → next ≡ record { work = w; traps = [] } → Onward g w next
  -- past a pardo whose first trap is that of the steps
  notes : (trap : Trap) (s : State) (n : ℕ) (more : List Trap) → steps Copied g n w ≡ Halted trap s → next.traps ≡ trap ∷ more → Extends s.log next.work.state.log → Onward g w next

module _ (g : Setting) where
  -- by a step that isn't a pardo's
  onward_step : (w : Work) (t : Stepped) → step Copied g w ≡ t → Onward g w (stepped (record { work = w; traps = [] }) t)
  onward_step w (Moved x) e = goes x 0 (ap (go_on (steps Copied g 0)) e) refl
  onward_step w (Halted trap s) e = halts trap s e refl
  onward_step w Ended e = ends e refl

  -- by a pardo
  onward_pardo : (at line : ℕ) (form : Plain) (rest : Rest) (s : State) (o : Outcome) (next : Point) → Leads Copied g (Next at line form rest) s (done o rest) → FollowsPardo rest o next → Onward g (record { rest = Next at line form rest; state = s }) next
  onward_pardo at line form rest s (Went u) next (zero, e) follows =
      let same : ◌≡◌ {A = ℕ} (suc (items rest)) (items rest) = ap items_at e in absurd (omega (arith, same))
  onward_pardo at line form rest s (Went u) next (suc n, e) follows = goes (record { rest = rest; state = u }) n e follows
  onward_pardo at line form rest s (Stopped trap u) next (n, e) follows = notes trap u n follows.0.0 e follows.0.1 follows.1

module _ (g : Setting) (set : IsGrantedSetting g) where
  -- the fold over a pardo's box, where calls may go as deep as anywhere
  pardo_same : (d : ℕ) (indices : List ℕ) (line : ℕ) (these : List ℕ) (wheres : List Cond) (body : Block) → PardoStands g set d indices these body → d ≤ call_depth → (s : State) → form_meaning Copied g (calls Copied g d) line (Pardo these wheres body) s ≡ form_meaning Copied g (calls Copied g call_depth) line (Pardo these wheres body) s
  pardo_same d indices line these wheres body stands enough s =
      form_same
      Copied
      g
      (calls Copied g d)
      (calls Copied g call_depth)
      indices
      false
      line
      (Pardo these wheres body)
      (λ q c t. absurd c)
      (λ v m q c t. sym (calls_same Copied g d call_depth q ((stands.outer v m).shallow q c) enough t))
      s

  -- from any point
  pub onward : (r : Rest) (s : State) → Fit g set (record { rest = r; state = s }) → Onward g (record { rest = r; state = s }) (next_from g (record { work = record { rest = r; state = s }; traps = [] }) r)
  onward (Next at line (Pardo these wheres body) rest) s f =
      let stands = pardo_stands g set f.d f.indices line these wheres body f.at.stands.0 in
      let deep : f.d + depth rest ≡ call_depth = f.at.deep in
      onward_pardo
      g
      at
      line
      (Pardo these wheres body)
      rest
      s
      (form_meaning Copied g (calls Copied g call_depth) line (Pardo these wheres body) s)
      (whole_pardo g these wheres body rest s [])
      (subst
      (λ (o : Outcome). Leads Copied g (Next at line (Pardo these wheres body) rest) s (done o rest))
      (pardo_same f.d f.indices line these wheres body stands.0 (omega (arith, deep)) s)
      (form_leads
      Copied
      g
      set.proper
      set.granted
      f.d
      (calls_lead Copied g set.proper set.granted f.d)
      f.indices
      false
      (Pardo these wheres body)
      f.at.stands.0.proper
      stands.1
      f.at.stands.0.unbroken
      at
      line
      rest
      s
      deep
      f.at.numbered.len))
      (pardo_follows g set f.d f.indices these wheres body stands.0 s f.at.numbered.only rest)
  onward (Next at line form rest) s f = onward_step g (record { rest = Next at line form rest; state = s }) (step_from Copied g (Next at line form rest) s) refl
  onward (Within pardo number rest) s f = absurd f.at.stands
  onward r s f = onward_step g (record { rest = r; state = s }) (step_from Copied g r s) refl

  -- the traps where a step that isn't a pardo's leads
  stepped_traps : (p : Point) (t : Stepped) → (more : List Trap) × ((stepped p t).traps ≡ p.traps ++ more)
  stepped_traps p (Moved w) = ([], sym (append-nil p.traps))
  stepped_traps p (Halted trap s) = ([], sym (append-nil p.traps))
  stepped_traps p Ended = ([], sym (append-nil p.traps))

  -- traps that were noted stay
  pub traps_stay : (r : Rest) (s : State) (traps : List Trap) → Fit g set (record { rest = r; state = s }) → (more : List Trap) × ((next_from g (record { work = record { rest = r; state = s }; traps = traps }) r).traps ≡ traps ++ more)
  traps_stay (Next at line (Pardo these wheres body) rest) s traps f =
      let stands = pardo_stands g set f.d f.indices line these wheres body f.at.stands.0 in
      turns_note
      g
      set
      f.d
      f.indices
      these
      wheres
      body
      stands.0
      s
      f.at.numbered.only
      (tuples (box_of g.spaces these))
      (record { state = on_own (unset g) s; traps = traps })
  traps_stay (Next at line form rest) s traps f = stepped_traps (record { work = record { rest = Next at line form rest; state = s }; traps = traps }) (step_from Copied g (Next at line form rest) s)
  traps_stay r s traps f = stepped_traps (record { work = record { rest = r; state = s }; traps = traps }) (step_from Copied g r s)

  -- a step that isn't a pardo's logs behind what was logged
  stepped_log : (p : Point) (t : Stepped) → ExtendsAt p.work.state.log t → Extends p.work.state.log (stepped p t).work.state.log
  stepped_log p (Moved w) x = x
  stepped_log p (Halted trap s) x = extends_same p.work.state.log
  stepped_log p Ended x = extends_same p.work.state.log

  -- the log goes on
  log_goes_on : (r : Rest) (s : State) (traps : List Trap) → Fit g set (record { rest = r; state = s }) → Extends s.log (next_from g (record { work = record { rest = r; state = s }; traps = traps }) r).work.state.log
  log_goes_on (Next at line (Pardo these wheres body) rest) s traps f =
      let stands = pardo_stands g set f.d f.indices line these wheres body f.at.stands.0 in
      turns_extend
      g
      set
      f.d
      f.indices
      these
      wheres
      body
      stands.0
      s
      f.at.numbered.only
      (tuples (box_of g.spaces these))
      (record { state = on_own (unset g) s; traps = traps })
  log_goes_on (Next at line form rest) s traps f =
      stepped_log
      (record { work = record { rest = Next at line form rest; state = s }; traps = traps })
      (step_from Copied g (Next at line form rest) s)
      (step_extends Copied g (Next at line form rest) s)
  log_goes_on r s traps f =
      stepped_log (record { work = record { rest = r; state = s }; traps = traps }) (step_from Copied g r s) (step_extends Copied g r s)

-- the course goes on behind its log and its traps
pub course_goes_on : CourseGoesOn
course_goes_on g set t = (
  log_goes_on g set (course g t).work.rest (course g t).work.state (course g t).traps (course_fit g set t),
  traps_stay g set (course g t).work.rest (course g t).work.state (course g t).traps (course_fit g set t),
)
