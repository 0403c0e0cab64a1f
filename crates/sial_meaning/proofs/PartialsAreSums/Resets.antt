-- The number of a partial scalar is the sum of the additions behind its last reset.
use Rattle.std.proofs.Common.{◌≡◌, ℕ, zero, suc, ◌%◌, ◌^◌, ◌<◌, ◌≤◌, List, [], ◌++◌, length, get_or, set, Bool, true, false, ◌&&◌, if◌then◌else◌, nat_le, slice_index_or, refl, sym, ap, ◌∙◌, arith}
use Rattle.std.specs.Prelude.{sum_by}
use Rattle.std.proofs.lemmas.Bool.Decides.{nat_tests}
use Rattle.std.proofs.lemmas.List.{length-replicate}
use Rattle.std.proofs.lemmas.List.Sums.{sum_by-append}
use Rattle.sial_syntax.specs.declared.classes.ScalarClass.TheVariants.{Replicated, Partial}
use Rattle.sial_syntax.specs.Agreeing.{contains}
use Rattle.sial_syntax.specs.Parts.{scalars_written}
use Rattle.sial_syntax.specs.SideRules.{sets_zero}
use Rattle.sial_syntax.specs.Tree.{Do, DoIn, Pardo, If, IfElse, Call}
use Rattle.sial_meaning.specs.declared.trap.Trap.{Trap}
use Rattle.sial_meaning.specs.Control.{Led, Goes, Halts, control}
use Rattle.sial_meaning.specs.Course.{Point, stepped, next_from, course}
use Rattle.sial_meaning.specs.CourseDeeds.{deeds_if_passed, deeds_from, deeds_at}
use Rattle.sial_meaning.specs.Deeds.{Deed}
use Rattle.sial_meaning.specs.Number.{plus}
use Rattle.sial_meaning.specs.Ran.{view_of, Ran, Through, Broke, statement_ran}
use Rattle.sial_meaning.specs.Resets.{resets, last_reset, deeds_between, adds_to, PartialsAreSums}
use Rattle.sial_meaning.specs.Rest.{Rest, Over, Next, Turn, Join, Back, Within}
use Rattle.sial_meaning.specs.Setting.{Setting, scalar_class}
use Rattle.sial_meaning.specs.Sound.{IsGrantedSetting}
use Rattle.sial_meaning.specs.State.{State}
use Rattle.sial_meaning.specs.Statement.{Outcome, Went, Stopped, Copied, statement}
use Rattle.sial_meaning.specs.Step.{led, done}
use Rattle.sial_meaning.proofs.PartialsAreSums.OnlyAdded.{partial_there}
use Rattle.sial_meaning.proofs.PardosKeepTheControl.Calls.{zeros_at}
use Rattle.sial_meaning.proofs.IterationsAreTheirDeeds.Pardos.{pardo_steps}
use Rattle.sial_meaning.proofs.CourseFollowsTheFold.Fit.{course_fit}
use Rattle.sial_meaning.proofs.CourseFollowsTheFold.Rest.{Fit}
use Rattle.sial_meaning.proofs.IterationsAreTheirDeeds.Logs.{LogsLike, statement_logs}
use Rattle.sial_meaning.proofs.PartialsAreSums.Additions.{added_long, added_at}
use Rattle.sial_meaning.proofs.PartialsAreSums.Statements.{PartialsTo, statement_partials}

module _ (scalar : ℕ) (g : Setting) (partial : scalar_class g scalar ≡ Partial) where
  -- what a step does to the number of the scalar
  record StepsSo (reset : Bool) (ps : List ℕ) (ds : List Deed) (qs : List ℕ) : Type 0 where
    long : length qs ≡ length ps
    zeroed : reset ≡ true → ◌≡◌ {A = ℕ} (get_or qs scalar 0) 0
    more : reset ≡ false → get_or ps scalar 0 < 2 ^ 64 → get_or qs scalar 0 ≡ plus (get_or ps scalar 0) (sum_by (adds_to scalar) ds)

  -- nothing
  steps_none : (ps : List ℕ) → StepsSo false ps [] ps
  steps_none ps = record { long = refl; zeroed = λ e. absurd cc; more = λ e low. omega (arith, low) }

  -- by a statement
  done_steps : (reset : Bool) (p : Point) (o : Outcome) (x : Ran) (rest : Rest) → LogsLike p.work.state.log o x → PartialsTo scalar reset p.work.state o x → StepsSo reset p.work.state.partials (deeds_if_passed x) (stepped p (done o rest)).work.state.partials
  done_steps true p (Went t) x rest l h = record { long = h.long; zeroed = λ e. h.number; more = λ e low. absurd cc }
  done_steps false p (Went t) x rest l h = record {
    long = h.long;
    zeroed = λ e. absurd cc;
    more = λ e low. let none = h.nothing refl in let same = h.number in omega (arith, low, none, same);
  }
  done_steps true p (Stopped trap t) x rest l h = absurd (let never : true ≡ false = h in cc)
  done_steps false p (Stopped trap t) (Through ds own) rest l h = absurd l
  done_steps false p (Stopped trap t) (Broke ds other own) rest l h = steps_none p.work.state.partials

  -- by control
  led_steps : (p : Point) (c : Led) → StepsSo false p.work.state.partials [] (stepped p (led p.work.state c)).work.state.partials
  led_steps p (Goes rest own) = steps_none p.work.state.partials
  led_steps p (Halts trap) = steps_none p.work.state.partials

  -- from any point
  step_steps : (set : IsGrantedSetting g) (r : Rest) (s : State) (ts : List Trap) → Fit g set (record { rest = r; state = s }) → scalar < length s.partials → StepsSo (resets scalar r) s.partials (deeds_from g s r) (next_from g (record { work = record { rest = r; state = s }; traps = ts }) r).work.state.partials
  step_steps set (Next at line (Pardo these wheres body) rest) s ts f there =
      let l = pardo_steps g set (record { rest = Next at line (Pardo these wheres body) rest; state = s }) ts f these wheres body (at, line, rest, refl) in
      let ds : List Deed = deeds_from g s (Next at line (Pardo these wheres body) rest) in
      record {
        long = ap length l.partials ∙ added_long ds s.partials;
        zeroed = λ e. absurd cc;
        more = λ e low. ap (λ ps. get_or ps scalar 0) l.partials ∙ added_at scalar ds s.partials there low;
      }
  step_steps set (Next at line (Do index body) rest) s ts f there = led_steps (record { work = record { rest = Next at line (Do index body) rest; state = s }; traps = ts }) (control g (Next at line (Do index body) rest) s.own)
  step_steps set (Next at line (DoIn sub index body) rest) s ts f there = led_steps (record { work = record { rest = Next at line (DoIn sub index body) rest; state = s }; traps = ts }) (control g (Next at line (DoIn sub index body) rest) s.own)
  step_steps set (Next at line (If test body) rest) s ts f there = led_steps (record { work = record { rest = Next at line (If test body) rest; state = s }; traps = ts }) (control g (Next at line (If test body) rest) s.own)
  step_steps set (Next at line (IfElse test body other) rest) s ts f there = led_steps (record { work = record { rest = Next at line (IfElse test body other) rest; state = s }; traps = ts }) (control g (Next at line (IfElse test body other) rest) s.own)
  step_steps set (Next at line (Call procedure) rest) s ts f there = led_steps (record { work = record { rest = Next at line (Call procedure) rest; state = s }; traps = ts }) (control g (Next at line (Call procedure) rest) s.own)
  step_steps set (Next at line form rest) s ts f there =
      done_steps
      (sets_zero form && contains (scalars_written form) scalar)
      (record { work = record { rest = Next at line form rest; state = s }; traps = ts })
      (statement Copied g line form s)
      (statement_ran g (view_of s) line form s.own)
      rest
      (statement_logs g line form s)
      (statement_partials scalar g partial line form s (f.at.stands.0.here.zero refl) there)
  step_steps set (Over at) s ts f there = steps_none s.partials
  step_steps set (Turn loop last rest) s ts f there = led_steps (record { work = record { rest = Turn loop last rest; state = s }; traps = ts }) (control g (Turn loop last rest) s.own)
  step_steps set (Join at rest) s ts f there = steps_none s.partials
  step_steps set (Back at values rest) s ts f there = steps_none s.partials
  step_steps set (Within pardo number rest) s ts f there = absurd f.at.stands

  -- the last reset isn't behind the point
  reset_before : (t : ℕ) → last_reset g scalar t ≤ t
  reset_before zero = omega arith
  reset_before (suc t) = by_test (resets scalar (course g t).work.rest) (reset_before t)
    where
      by_test : (b : Bool) → last_reset g scalar t ≤ t → (if b then suc t else last_reset g scalar t) ≤ suc t
      by_test true low = omega arith
      by_test false low = omega (arith, low)

  -- a number that isn't lower
  le-true : (a b : ℕ) → a ≤ b → nat_le a b ≡ true
  le-true a b low = grind (arith, nat_tests)

  le-false : (a b : ℕ) → b < a → nat_le a b ≡ false
  le-false a b low = grind (arith, nat_tests)

  -- at each point
  record SumSo (t : ℕ) : Type 0 where
    long : length (course g t).work.state.partials ≡ length g.program.scalars
    number : get_or (course g t).work.state.partials scalar 0 ≡ sum_by (adds_to scalar) (deeds_between g (last_reset g scalar t) t) % 2 ^ 64

  sums_so : (set : IsGrantedSetting g) → scalar < length g.program.scalars → (t : ℕ) → SumSo t
  sums_so set there zero = record { long = length-replicate {A = ℕ} (length g.program.scalars) 0; number = zeros_at (length g.program.scalars) scalar }
  sums_so set there (suc t) =
      let before = sums_so set there t in
      let long = before.long in
      let s = step_steps set (course g t).work.rest (course g t).work.state (course g t).traps (course_fit g set t) (omega (arith, there, long)) in
      record { long = s.long ∙ before.long; number = by_test (resets scalar (course g t).work.rest) refl s before.number }
    where
      by_test : (b : Bool) → resets scalar (course g t).work.rest ≡ b → StepsSo (resets scalar (course g t).work.rest) (course g t).work.state.partials (deeds_at g t) (course g (suc t)).work.state.partials
          → get_or (course g t).work.state.partials scalar 0 ≡ sum_by (adds_to scalar) (deeds_between g (last_reset g scalar t) t) % 2 ^ 64
          → get_or (course g (suc t)).work.state.partials scalar 0 ≡ sum_by (adds_to scalar) (deeds_between g (if b then suc t else last_reset g scalar t) (suc t)) % 2 ^ 64
      by_test true e s before =
          s.zeroed e ∙ sym (ap (λ x. sum_by (adds_to scalar) (if x then deeds_between g (suc t) t ++ deeds_at g t else []) % 2 ^ 64) (le-false (suc t) t (omega arith)))
      by_test false e s before =
          let from : ℕ = last_reset g scalar t in
          let low : get_or (course g t).work.state.partials scalar 0 < 2 ^ 64 = omega (arith, before) in
          let more = s.more e low in
          let all = sum_by-append (adds_to scalar) (deeds_between g from t) (deeds_at g t) in
          let number : get_or (course g (suc t)).work.state.partials scalar 0 ≡ sum_by (adds_to scalar) (deeds_between g from t ++ deeds_at g t) % 2 ^ 64 = omega (arith, more, all, before) in
          number ∙ sym (ap (λ x. sum_by (adds_to scalar) (if x then deeds_between g from t ++ deeds_at g t else []) % 2 ^ 64) (le-true from t (reset_before t)))

-- the number of a partial scalar is the sum behind its last reset
pub partials_are_sums : PartialsAreSums
partials_are_sums g set t scalar partial =
    (sums_so scalar g partial set (partial_there g.program scalar (sym (ap (λ cs. slice_index_or cs scalar Replicated) set.scalars) ∙ partial)) t).number
