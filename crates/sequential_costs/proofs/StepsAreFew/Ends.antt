-- After as many steps a program has ended, and where it ends is its meaning.
use Rattle.std.proofs.Common.{◌≡◌, ℕ, zero, suc, ◌+◌, ◌-◌, ◌<◌, ◌≤◌, [], Bool, true, false, nat_le, refl, sym, ap, ◌∙◌, arith}
use Rattle.std.proofs.lemmas.Bool.Decides.{nat_tests}
use Rattle.sial_syntax.specs.Numbering.{stop_at}
use Rattle.sial_meaning.specs.declared.trap.Trap.{Trap}
use Rattle.sial_meaning.specs.Costs.{sequential_steps}
use Rattle.sial_meaning.specs.Laws.{ReachesFold}
use Rattle.sial_meaning.specs.Meaning.{meaning}
use Rattle.sial_meaning.specs.Next as next
use Rattle.sial_meaning.specs.Next.{next_of}
use Rattle.sial_meaning.specs.Rest.{Rest, Over, push}
use Rattle.sial_meaning.specs.Setting.{Setting}
use Rattle.sial_meaning.specs.Sound.{IsSound}
use Rattle.sial_meaning.specs.State.{State, start_state}
use Rattle.sial_meaning.specs.Statement.{Outcome, Went, Stopped, Reading}
use Rattle.sial_meaning.specs.Step.{Work, Stepped, Moved, Halted, Ended, done, go_on, start_work, step, step_by, step_from, steps}
use Rattle.sial_meaning.proofs.AcceptedInOtherWords.Pairs.{never}
use Rattle.sial_meaning.proofs.CourseFollowsTheFold.Steps.{go_add}
use Rattle.sial_meaning.proofs.Granted.Visits.{body-good}
use Rattle.sial_meaning.proofs.StatesAreWhole.Rest.{GoodAt, GoodWork, good-pushed}
use Rattle.sial_meaning.proofs.StatesAreWhole.Start.{start-whole}
use Rattle.sial_meaning.proofs.StatesAreWhole.Steps.{step-good}
use Rattle.sial_meaning.proofs.StepsReachTheFold.Fold.{reaches_fold}
use Rattle.sequential_costs.specs.FewSteps.{HasEnded, StepsAreFew, FoldIsNear, OneStepMore, EndIsTheMeaning, HaltIsTheMeaning}
use Rattle.sequential_costs.proofs.StepsAreFew.Control.{Lowered}
use Rattle.sequential_costs.proofs.StepsAreFew.Owed.{owed, none_owed, pushed}
use Rattle.sequential_costs.proofs.StepsAreFew.Step.{step_lowers}
use Rattle.sequential_costs.proofs.StepsAreFew.Uncapped.{program_kept}

-- what follows a step
go_ends : (g : Setting) (next : Work → Stepped) (before n : ℕ) → ((w : Work) → GoodWork g w.rest w.state → owed g w.state.own.values w.rest ≤ n → HasEnded (next w)) → before ≤ suc n → (t : Stepped) → GoodAt g t → Lowered g before t → HasEnded (go_on next t)
go_ends g next before n each enough (Moved w) good less = each w good (omega (arith, less, enough))
go_ends g next before n each enough (Halted trap s) good less = tt
go_ends g next before n each enough Ended good less = tt

-- as many steps as are owed
steps_end : (reading : Reading) (g : Setting) → IsSound g → (n : ℕ) (rest : Rest) (s : State) → GoodWork g rest s → owed g s.own.values rest ≤ n → HasEnded (steps reading g n (record { rest = rest; state = s }))
steps_end reading g sound zero rest s work enough = none_owed g s.own.values rest enough
steps_end reading g sound (suc n) rest s work enough =
    go_ends g (steps reading g n) (owed g s.own.values rest) n (λ w good few. steps_end reading g sound n w.rest w.state good few) enough
    (step_from reading g rest s) (step-good reading g sound rest s work) (step_lowers reading g rest s work sound)

-- the program from its start
pub steps_are_few : StepsAreFew
steps_are_few reading g count sound few enough =
    let whole = pushed g (start_state g).own.values 0 g.program.body (Over (stop_at g.program)) in
    let kept = program_kept g few in
    steps_end reading g sound count (push 0 g.program.body (Over (stop_at g.program))) (start_state g)
    (record { indices = []; in_range = λ i has. absurd (never has); good = good-pushed g [] false 0 g.program.body (Over (stop_at g.program)) (body-good g sound) tt; whole = start-whole g sound })
    (omega (arith, whole, kept, enough))

-- so many steps and then more
more_steps : (reading : Reading) (g : Setting) (a b : ℕ) (w : Work) → steps reading g (a + b) w ≡ go_on (steps reading g b) (steps reading g a w)
more_steps reading g a b w = go_add reading g a b (Moved w)

-- one step more
pub one_step_more : OneStepMore
one_step_more reading g count w = more_steps reading g count 1 w ∙ one (steps reading g count w)
  where
    same : (t : Stepped) → go_on (steps reading g 0) t ≡ t
    same (Moved v) = refl
    same (Halted trap s) = refl
    same Ended = refl

    one : (t : Stepped) → go_on (steps reading g 1) t ≡ go_on (step reading g) t
    one (Moved v) = same (step reading g v)
    one (Halted trap s) = refl
    one Ended = refl

-- nowhere to go from the program's end
stays : (reading : Reading) (g : Setting) (n : ℕ) (w : Work) → next_of w.rest ≡ next.Over → steps reading g (suc n) w ≡ Ended
stays reading g n w over = ap (λ task. go_on (steps reading g n) (step_by reading g task w.rest w.state)) over

-- no outcome is nowhere
not_nowhere : (o : Outcome) (rest : Rest) → Ended ≡ done o rest → ⊥
not_nowhere (Went s) rest e = absurd cc
not_nowhere (Stopped trap s) rest e = absurd cc

-- the fold is where steps halt
halts_so : (o : Outcome) (rest : Rest) (trap : Trap) (s : State) → Halted trap s ≡ done o rest → o ≡ Stopped trap s
halts_so (Went t) rest trap s e = absurd cc
halts_so (Stopped other t) rest trap s e = cc

-- the fold is where they come to the end
ends_so : (o : Outcome) (rest : Rest) (w : Work) → Moved w ≡ done o rest → o ≡ Went w.state
ends_so (Went t) rest w e = let same : w ≡ record { rest = rest; state = t } = cc in ap (λ (v : Work). Went v.state) (sym same)
ends_so (Stopped other t) rest w e = absurd cc

module _ (reading : Reading) (g : Setting) (sound : IsSound g) where
  -- where so many steps led, more that reach the fold began
  later : (count to : ℕ) → count ≤ to → steps reading g to (start_work g) ≡ go_on (steps reading g (to - count)) (steps reading g count (start_work g))
  later count to before = let sum : to ≡ count + (to - count) = omega (arith, before) in ap (λ n. steps reading g n (start_work g)) sum ∙ more_steps reading g count (to - count) (start_work g)

  -- steps that reach the fold later than a program ended reached it there
  near : (t : Stepped) (count to : ℕ) → count < to → steps reading g count (start_work g) ≡ t → HasEnded t → steps reading g to (start_work g) ≡ done (meaning reading g) (Over (stop_at g.program)) → t ≡ done (meaning reading g) (Over (stop_at g.program))
  near (Moved w) count to before is ended reaches =
      let on = later count to (omega (arith, before)) ∙ ap (go_on (steps reading g (to - count))) is in
      let some : to - count ≡ suc (to - count - 1) = omega (arith, before) in
      let none : steps reading g (to - count) w ≡ Ended = ap (λ n. steps reading g n w) some ∙ stays reading g (to - count - 1) w ended in
      absurd (not_nowhere (meaning reading g) (Over (stop_at g.program)) (sym none ∙ (sym on ∙ reaches)))
  near (Halted trap s) count to before is ended reaches = sym (later count to (omega (arith, before)) ∙ ap (go_on (steps reading g (to - count))) is) ∙ reaches
  near Ended count to before is ended reaches = sym (later count to (omega (arith, before)) ∙ ap (go_on (steps reading g (to - count))) is) ∙ reaches

  -- steps past the fold that are at work are at the end that it reached
  moved_past : (o : Outcome) (k at : ℕ) (w : Work) → Moved w ≡ go_on (steps reading g k) (done o (Over at)) → o ≡ Went w.state
  moved_past (Went t) zero at w e = ends_so (Went t) (Over at) w e
  moved_past (Went t) (suc k) at w e = absurd cc
  moved_past (Stopped other t) k at w e = absurd cc

  -- those that have halted halted there
  halted_past : (o : Outcome) (k at : ℕ) (trap : Trap) (s : State) → Halted trap s ≡ go_on (steps reading g k) (done o (Over at)) → o ≡ Stopped trap s
  halted_past (Went t) zero at trap s e = absurd cc
  halted_past (Went t) (suc k) at trap s e = absurd cc
  halted_past (Stopped other t) k at trap s e = halts_so (Stopped other t) (Over at) trap s e

  -- where steps have ended, they are where the fold is reached, or go on from there
  pub after_fold : (count : ℕ) (t : Stepped) → steps reading g count (start_work g) ≡ t → HasEnded t → (k : ℕ) × (t ≡ go_on (steps reading g k) (done (meaning reading g) (Over (stop_at g.program))))
  after_fold count t is ended = by (nat_le (reaches_fold reading g sound.setting.proper sound.setting.granted).0 count) refl
    where
      same : (u : Stepped) → go_on (steps reading g 0) u ≡ u
      same (Moved v) = refl
      same (Halted trap s) = refl
      same Ended = refl

      by : (b : Bool) → nat_le (reaches_fold reading g sound.setting.proper sound.setting.granted).0 count ≡ b → (k : ℕ) × (t ≡ go_on (steps reading g k) (done (meaning reading g) (Over (stop_at g.program))))
      by true e =
          let reaches = reaches_fold reading g sound.setting.proper sound.setting.granted in
          let before : reaches.0 ≤ count = grind (arith, nat_tests) in
          (count - reaches.0, sym is ∙ (later reaches.0 count before ∙ ap (go_on (steps reading g (count - reaches.0))) reaches.1))
      by false e =
          let reaches = reaches_fold reading g sound.setting.proper sound.setting.granted in
          let before : count < reaches.0 = grind (arith, nat_tests) in
          (0, near t count reaches.0 before is ended reaches.1 ∙ sym (same (done (meaning reading g) (Over (stop_at g.program)))))

-- the fold is reached in so many steps
pub fold_is_near : FoldIsNear
fold_is_near reading g sound few = by (nat_le reaches.0 total) refl
  where
    total : ℕ
    total = sequential_steps g

    reaches : ReachesFold reading g
    reaches = reaches_fold reading g sound.setting.proper sound.setting.granted

    by : (b : Bool) → nat_le reaches.0 total ≡ b → (count : ℕ) × (count ≤ total) × (steps reading g count (start_work g) ≡ done (meaning reading g) (Over (stop_at g.program)))
    by true e = let before : reaches.0 ≤ total = grind (arith, nat_tests) in (reaches.0, before, reaches.1)
    by false e =
        let before : total < reaches.0 = grind (arith, nat_tests) in
        let least : total ≤ total = omega arith in
        (total, least, near reading g sound (steps reading g total (start_work g)) total reaches.0 before refl (steps_are_few reading g total sound few least) reaches.1)

-- the program's end is its meaning
pub end_is_the_meaning : EndIsTheMeaning
end_is_the_meaning reading g count w sound is over = let found = after_fold reading g sound count (Moved w) is over in moved_past reading g sound (meaning reading g) found.0 (stop_at g.program) w found.1

-- so is a trap
pub halt_is_the_meaning : HaltIsTheMeaning
halt_is_the_meaning reading g count trap s sound is =
    let found = after_fold reading g sound count (Halted trap s) is tt in halted_past reading g sound (meaning reading g) found.0 (stop_at g.program) trap s found.1
