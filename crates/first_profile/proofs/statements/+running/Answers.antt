use Rattle.std.proofs.Common.{◌≡◌, ℕ, ◌+◌, ◌-◌, List, [], ap, sym, ◌∙◌, subst, Some, None, arith, ◌∷◌, ◌++◌, append-nil}
use Rattle.std.proofs.lemmas.Grind.{common_steps}
use Rattle.std.proofs.lemmas.Result.{err_from_is_err_and}
use Rattle.sial_syntax.specs.Tree.{Plain, Do, block, plain_form}
use Rattle.sial_syntax.proofs.TreeLemmas.{seen_rest, seen_print}
use Rattle.sial_syntax.specs.Boxes.{numbers_from}
use Rattle.sip_setting.specs.Printing.{text_of}
use Rattle.sip_setting.specs.Seen.{setting_of}
use Rattle.first_profile.specs.Fits.{Fits}
use Rattle.first_profile.specs.Running.{Numbers, with_value, line_of, body_numbers, body_prints}
use Rattle.first_profile.proofs.Meant.{form-numbers, body-numbers, body-prints, next-numbers, next-ran, whole-ran, form-ran}
use Rattle.first_profile.proofs.Worked.{ran, ran_form, body_lines, form_lines, through, lines_through}
use Rattle.first_profile.specs.declared.fault.RunFault.TheVariants.{NotWritten}
use Rattle.first_profile.proofs.FitsLemmas.{fits_body, fits_value, at_segment}
use Rattle.first_profile.proofs.RanLemmas.{ran_nothing, wrote_ran, failed_ran, stopped_ran, same_ran, stopped_so_far, further, all_ran}
use Rattle.first_profile.proofs.StatementsLemmas.{handed_on, body_stopped, left_next, lines_next, through_turn, lines_turn, through_ended, lines_ended, so_far_same, segments_are, seen_assign}
use Rattle.first_profile.proofs.statements.+running.Goals as goal

pub run_body-returns-in_err-run_form-clause-ran : goal.run_body-returns-in_err-run_form-clause-ran
run_body-returns-in_err-run_form-clause-ran types t c =
    let front = seen_rest c.args.stmts.now c.loop-stmt.stmt-index c.stmt-item.result c.loop-stmt-test.true c.stmt-item.is in
    handed_on
    c.in_err-run_form.field-0.0
    c.from_residual.result
    (err_from_is_err_and c.from_residual.result c.from_residual.ensures.1)
    (whole-ran (setting_of c.args.granted.now) c.args.within c.args.machine.now (block c.args.stmts.now) c.requires.setting c.requires.fits c.requires.within c.requires.body
    (body_stopped (setting_of c.args.granted.now) c.loop-stmt.machine _ _ _ _ front c.loop-stmt.invariant.1 (next-ran c.requires.setting c.loop-stmt.invariant.0 front c.in_err-run_form.ensures.ran)))

pub run_body-loop-stmt-preserved : goal.run_body-loop-stmt-preserved
run_body-loop-stmt-preserved types t c =
    let front = seen_rest c.args.stmts.now c.loop-stmt.stmt-index c.stmt-item.result c.loop-stmt-test.true c.stmt-item.is in (
      left_next (setting_of c.args.granted.now) c.args.within _ _ _ _ _ c.loop-stmt.machine c.run_form.new.machine front (next-numbers c.requires.setting c.loop-stmt.invariant.0 front c.in_ok-run_form.ensures.numbers) c.loop-stmt.invariant.0,
      lines_next (setting_of c.args.granted.now) c.loop-stmt.machine c.run_form.new.machine _ _ _ _ front (next-numbers c.requires.setting c.loop-stmt.invariant.0 front c.in_ok-run_form.ensures.numbers) c.loop-stmt.invariant.1 (next-ran c.requires.setting c.loop-stmt.invariant.0 front c.in_ok-run_form.ensures.ran),
    )

pub run_form-returns-in_err-print_scalar-in-PrintScalar-clause-ran : goal.run_form-returns-in_err-print_scalar-in-PrintScalar-clause-ran
run_form-returns-in_err-print_scalar-in-PrintScalar-clause-ran types t c =
    handed_on
    NotWritten
    c.from_residual-in_err-print_scalar-in-PrintScalar.result
    (err_from_is_err_and c.from_residual-in_err-print_scalar-in-PrintScalar.result c.from_residual-in_err-print_scalar-in-PrintScalar.ensures.1)
    (form-ran (setting_of c.args.granted.now) c.args.within c.args.machine.now (plain_form c.args.form.now) c.requires.setting c.requires.fits c.requires.within c.requires.form
    (same_ran
    (sym (ap (λ (f : Plain). text_of (form_lines (setting_of c.args.granted.now) f c.args.machine.now)) (ap plain_form c.in-PrintScalar.is ∙ seen_print c.in-PrintScalar.scalar)))
    (stopped_ran [] (failed_ran c.in_err-print_scalar-in-PrintScalar.field-0.0 c.in_err-print_scalar-in-PrintScalar.ensures))))

pub run_loop-returns-in_err-run_body-clause-ran : goal.run_loop-returns-in_err-run_body-clause-ran
run_loop-returns-in_err-run_body-clause-ran types t c =
    let g = setting_of c.args.granted.now in
    let body = block c.args.stmts.now in
    let turn : ℕ → Numbers → Numbers = λ k n. ran g body (with_value c.args.index k n) in
    let lines : ℕ → Numbers → List (List ℕ) = λ k n. body_lines g body (with_value c.args.index k n) in
    let first = c.range-first.result.0 in
    let count = c.range-first.result.1 in
    let m = c.loop-turn.machine in
    let k = first + c.loop-turn.turn in
    let kept = fits_value g m c.args.index k c.loop-turn.invariant.0 in
    let at = at_segment g m c.args.index k c.requires.index c.loop-turn.invariant.0 (omega (arith, c.range-first.ensures.first)) (omega (arith, c.range-first.ensures.first, c.range-first.ensures.count, c.loop-turn-test.true)) in
    let meant = body-prints g (Some c.args.index) (with_value c.args.index k m) c.requires.setting kept at body c.requires.body in
    handed_on
    c.in_err-run_body.field-0.0
    c.from_residual.result
    (err_from_is_err_and c.from_residual.result c.from_residual.ensures.1)
    (form-ran g None c.args.machine.now (Do c.args.index body) c.requires.setting c.requires.fits tt (c.requires.index, c.requires.body)
    (same_ran
    (ap (λ (ks : List ℕ). text_of (lines_through ks turn lines c.args.machine.now)) (segments_are g c.args.index first count c.range-first.ensures.first c.range-first.ensures.count))
    (stopped_so_far
    (lines (first + c.loop-turn.turn) m)
    (lines_through (numbers_from (first + (c.loop-turn.turn + 1)) (count - (c.loop-turn.turn + 1))) turn lines (turn (first + c.loop-turn.turn) m))
    (so_far_same (lines_turn turn lines first c.loop-turn.turn count m c.loop-turn-test.true) c.loop-turn.invariant.2)
    (same_ran (ap (λ (n : Numbers). text_of (body_prints g body n)) c.set_value.ensures ∙ ap text_of meant) c.in_err-run_body.ensures.ran))))

pub run_loop-loop-turn-preserved : goal.run_loop-loop-turn-preserved
run_loop-loop-turn-preserved types t c =
    let g = setting_of c.args.granted.now in
    let body = block c.args.stmts.now in
    let turn : ℕ → Numbers → Numbers = λ k n. ran g body (with_value c.args.index k n) in
    let lines : ℕ → Numbers → List (List ℕ) = λ k n. body_lines g body (with_value c.args.index k n) in
    let first = c.range-first.result.0 in
    let count = c.range-first.result.1 in
    let m = c.loop-turn.machine in
    let k = first + c.loop-turn.turn in
    let kept = fits_value g m c.args.index k c.loop-turn.invariant.0 in
    let at = at_segment g m c.args.index k c.requires.index c.loop-turn.invariant.0 (omega (arith, c.range-first.ensures.first)) (omega (arith, c.range-first.ensures.first, c.range-first.ensures.count, c.loop-turn-test.true)) in
    let meant = body-prints g (Some c.args.index) (with_value c.args.index k m) c.requires.setting kept at body c.requires.body in
    let worked = body-numbers g (Some c.args.index) (with_value c.args.index k m) c.requires.setting kept at body c.requires.body in
    let is : c.run_body.new.machine ≡ turn k m = c.in_ok-run_body.ensures.numbers ∙ (ap (λ (n : Numbers). body_numbers g body n) c.set_value.ensures ∙ worked) in (
      subst
          (λ (n : Numbers). Fits g n)
          (sym is)
          (fits_body
          g
          (Some c.args.index)
          body
          (with_value c.args.index k m)
          c.requires.body
          kept
          at),
      ap (λ (n : Numbers). through (numbers_from (first + (c.loop-turn.turn + 1)) (count - (c.loop-turn.turn + 1))) turn n) is
          ∙ (sym (through_turn turn first c.loop-turn.turn count m c.loop-turn-test.true) ∙ c.loop-turn.invariant.1),
      so_far_same
          (ap (λ (n : Numbers). lines_through (numbers_from (first + (c.loop-turn.turn + 1)) (count - (c.loop-turn.turn + 1))) turn lines n) (sym is))
          (further
          (lines k m)
          (lines_through (numbers_from (first + (c.loop-turn.turn + 1)) (count - (c.loop-turn.turn + 1))) turn lines (turn k m))
          (so_far_same (lines_turn turn lines first c.loop-turn.turn count m c.loop-turn-test.true) c.loop-turn.invariant.2)
          (same_ran (ap (λ (n : Numbers). text_of (body_prints g body n)) c.set_value.ensures ∙ ap text_of meant) c.in_ok-run_body.ensures.ran)),
    )

pub run_body-returns-clause-numbers : goal.run_body-returns-clause-numbers
run_body-returns-clause-numbers types t c =
    let g = setting_of c.args.granted.now in
    let body = block c.args.stmts.now in
    let worked : c.loop-stmt.machine ≡ ran g body c.args.machine.now = grind (arith, common_steps) in
    worked ∙ sym (body-numbers g c.args.within c.args.machine.now c.requires.setting c.requires.fits c.requires.within body c.requires.body)

pub run_body-returns-clause-ran : goal.run_body-returns-clause-ran
run_body-returns-clause-ran types t c =
    whole-ran (setting_of c.args.granted.now) c.args.within c.args.machine.now (block c.args.stmts.now) c.requires.setting c.requires.fits c.requires.within c.requires.body (grind (arith, common_steps))

pub run_form-returns-in_ok-print_scalar-in-PrintScalar-clause-numbers : goal.run_form-returns-in_ok-print_scalar-in-PrintScalar-clause-numbers
run_form-returns-in_ok-print_scalar-in-PrintScalar-clause-numbers types t c =
    let g = setting_of c.args.granted.now in
    let form = ap plain_form c.in-PrintScalar.is ∙ seen_print c.in-PrintScalar.scalar in
    sym
    (form-numbers g c.args.within c.args.machine.now c.requires.setting c.requires.fits c.requires.within (plain_form c.args.form.now) c.requires.form
    ∙ ap (λ (f : Plain). ran_form g f c.args.machine.now) form)

pub run_form-returns-in_ok-print_scalar-in-PrintScalar-clause-ran : goal.run_form-returns-in_ok-print_scalar-in-PrintScalar-clause-ran
run_form-returns-in_ok-print_scalar-in-PrintScalar-clause-ran types t c =
    let g = setting_of c.args.granted.now in
    let form = ap plain_form c.in-PrintScalar.is ∙ seen_print c.in-PrintScalar.scalar in
    form-ran g c.args.within c.args.machine.now (plain_form c.args.form.now) c.requires.setting c.requires.fits c.requires.within c.requires.form
    (same_ran
    (sym (append-nil (line_of g c.args.machine.now c.in-PrintScalar.scalar ++ 10 ∷ [])) ∙ sym (ap (λ (f : Plain). text_of (form_lines g f c.args.machine.now)) form))
    (wrote_ran c.in_ok-print_scalar-in-PrintScalar.ensures))

pub run_loop-returns-clause-numbers : goal.run_loop-returns-clause-numbers
run_loop-returns-clause-numbers types t c =
    let g = setting_of c.args.granted.now in
    let body = block c.args.stmts.now in
    let form = Do c.args.index body in
    let turn : ℕ → Numbers → Numbers = λ k n. ran g body (with_value c.args.index k n) in
    let first = c.range-first.result.0 in
    let count = c.range-first.result.1 in
    let worked : c.set_value-2.new.self ≡ ran_form g form c.args.machine.now =
    c.set_value-2.ensures
    ∙ ap (λ (n : Numbers). with_value c.args.index 0 n)
    (through_ended turn first c.loop-turn.turn count c.loop-turn.machine _ c.loop-turn-test.false c.loop-turn.invariant.1
    ∙ ap (λ (ks : List ℕ). through ks turn c.args.machine.now) (segments_are g c.args.index first count c.range-first.ensures.first c.range-first.ensures.count)) in
    worked ∙ sym (form-numbers g None c.args.machine.now c.requires.setting c.requires.fits tt form (c.requires.index, c.requires.body))

pub run_loop-returns-clause-ran : goal.run_loop-returns-clause-ran
run_loop-returns-clause-ran types t c =
    let g = setting_of c.args.granted.now in
    let body = block c.args.stmts.now in
    let turn : ℕ → Numbers → Numbers = λ k n. ran g body (with_value c.args.index k n) in
    let lines : ℕ → Numbers → List (List ℕ) = λ k n. body_lines g body (with_value c.args.index k n) in
    let first = c.range-first.result.0 in
    let count = c.range-first.result.1 in
    form-ran g None c.args.machine.now (Do c.args.index body) c.requires.setting c.requires.fits tt (c.requires.index, c.requires.body)
    (same_ran
    (ap (λ (ks : List ℕ). text_of (lines_through ks turn lines c.args.machine.now)) (segments_are g c.args.index first count c.range-first.ensures.first c.range-first.ensures.count))
    (all_ran (so_far_same (lines_ended turn lines first c.loop-turn.turn count c.loop-turn.machine c.loop-turn-test.false) c.loop-turn.invariant.2)))

pub run_form-returns-in_ok-assign-in-Assign-clause-ran : goal.run_form-returns-in_ok-assign-in-Assign-clause-ran
run_form-returns-in_ok-assign-in-Assign-clause-ran types t c =
    let form = ap plain_form c.in-Assign.is ∙ seen_assign c.in-Assign.target c.in-Assign.op c.in-Assign.right in
    form-ran (setting_of c.args.granted.now) c.args.within c.args.machine.now (plain_form c.args.form.now) c.requires.setting c.requires.fits c.requires.within c.requires.form
    (same_ran
    (sym (ap (λ (f : Plain). text_of (form_lines (setting_of c.args.granted.now) f c.args.machine.now)) form))
    (ran_nothing (types.K.Sink.written c.args.out.now) (types.K.Sink.faults c.args.out.now) (types.K.Sink.kept c.args.out.now)))
