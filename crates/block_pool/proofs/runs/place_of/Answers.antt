use Rattle.std.proofs.Common.{arith}
use Rattle.block_pool.proofs.RunsLemmas.{found_start, found_end, found_within, run_within, next_within, next_before, next_width, next_all}
use Rattle.block_pool.proofs.runs.place_of.Goals as goal

pub overflow_mul-start : goal.overflow_mul-start
overflow_mul-start c =
    let i = c.loop-run.invariant in
    omega (arith, c.requires.fits, found_within c.args.runs.now c.loop-run.run-index c.args.slot c.loop-run.left c.loop-run.start (record { count = 0; width = 0 }) c.loop-run-test.true c.requires.within i.within i.before i.width i.all c.if-left-run.true)

pub overflow_add-start : goal.overflow_add-start
overflow_add-start c =
    let i = c.loop-run.invariant in
    omega (arith, c.requires.fits, found_within c.args.runs.now c.loop-run.run-index c.args.slot c.loop-run.left c.loop-run.start (record { count = 0; width = 0 }) c.loop-run-test.true c.requires.within i.within i.before i.width i.all c.if-left-run.true)

pub overflow_add-result : goal.overflow_add-result
overflow_add-result c =
    let i = c.loop-run.invariant in
    omega (arith, c.requires.fits, found_within c.args.runs.now c.loop-run.run-index c.args.slot c.loop-run.left c.loop-run.start (record { count = 0; width = 0 }) c.loop-run-test.true c.requires.within i.within i.before i.width i.all c.if-left-run.true)

pub returns-then-left-run-clause-start : goal.returns-then-left-run-clause-start
returns-then-left-run-clause-start c =
    let i = c.loop-run.invariant in
    found_start c.args.runs.now c.loop-run.run-index c.args.slot c.loop-run.left c.loop-run.start (record { count = 0; width = 0 }) c.loop-run-test.true c.requires.within i.within i.before i.width i.all c.if-left-run.true

pub returns-then-left-run-clause-end : goal.returns-then-left-run-clause-end
returns-then-left-run-clause-end c =
    let i = c.loop-run.invariant in
    found_end c.args.runs.now c.loop-run.run-index c.args.slot c.loop-run.left c.loop-run.start (record { count = 0; width = 0 }) c.loop-run-test.true c.requires.within i.within i.before i.width i.all c.if-left-run.true

pub overflow_mul-start-in-loop-run : goal.overflow_mul-start-in-loop-run
overflow_mul-start-in-loop-run c =
    let i = c.loop-run.invariant in
    omega (arith, c.requires.fits, run_within c.args.runs.now c.loop-run.run-index c.args.slot c.loop-run.left c.loop-run.start (record { count = 0; width = 0 }) c.loop-run-test.true c.requires.within i.within i.before i.width i.all)

pub overflow_add-start-in-loop-run : goal.overflow_add-start-in-loop-run
overflow_add-start-in-loop-run c =
    let i = c.loop-run.invariant in
    omega (arith, c.requires.fits, run_within c.args.runs.now c.loop-run.run-index c.args.slot c.loop-run.left c.loop-run.start (record { count = 0; width = 0 }) c.loop-run-test.true c.requires.within i.within i.before i.width i.all)

pub loop-run-preserved : goal.loop-run-preserved
loop-run-preserved c =
    let i = c.loop-run.invariant in
    record {
      within = next_within c.args.runs.now c.loop-run.run-index c.args.slot c.loop-run.left c.loop-run.start (record { count = 0; width = 0 }) c.loop-run-test.true c.requires.within i.within i.before i.width i.all c.if-left-run.false;
      before = next_before c.args.runs.now c.loop-run.run-index c.args.slot c.loop-run.left c.loop-run.start (record { count = 0; width = 0 }) c.loop-run-test.true c.requires.within i.within i.before i.width i.all c.if-left-run.false;
      width = next_width c.args.runs.now c.loop-run.run-index c.args.slot c.loop-run.left c.loop-run.start (record { count = 0; width = 0 }) c.loop-run-test.true c.requires.within i.within i.before i.width i.all c.if-left-run.false;
      all = next_all c.args.runs.now c.loop-run.run-index c.args.slot c.loop-run.left c.loop-run.start (record { count = 0; width = 0 }) c.loop-run-test.true c.requires.within i.within i.before i.width i.all;
    }
