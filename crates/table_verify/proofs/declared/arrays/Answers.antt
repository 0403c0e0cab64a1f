use Rattle.std.proofs.Common.{arith}
use Rattle.std.proofs.lemmas.List.{drop_all}
use Rattle.std.proofs.lemmas.Result.{err_from_is_err_and}
use Rattle.table_verify.specs.Names as spec
use Rattle.table_verify.proofs.LoopLemmas.{entries_left, each_on, each_fail, each_done}
use Rattle.table_verify.proofs.declared.arrays.Goals as goal

pub returns-in_err-read : goal.returns-in_err-read
returns-in_err-read c =
    let p = err_from_is_err_and c.from_residual.result c.from_residual.ensures.1 in
    rw (p.1, p.2) (each_fail spec.array c.loop-entry.arrays.items _ _ _ _ _ _ c.loop-entry.invariant c.in_err-read.ensures (entries_left c.args.entries.now c.loop-entry.entry-index c.entry-item.result c.loop-entry-test.true c.entry-item.is))

pub loop-entry-preserved : goal.loop-entry-preserved
loop-entry-preserved c =
    rw c.in_ok-push.ensures.items
    (each_on spec.array c.loop-entry.arrays.items _ _ _ _ _ c.in_ok-read.read _ c.loop-entry.invariant c.in_ok-read.ensures (entries_left c.args.entries.now c.loop-entry.entry-index c.entry-item.result c.loop-entry-test.true c.entry-item.is))

pub returns : goal.returns
returns c = each_done spec.array c.loop-entry.arrays.items _ _ _ c.loop-entry.invariant (drop_all c.loop-entry.entry-index c.args.entries.now (omega arith))
