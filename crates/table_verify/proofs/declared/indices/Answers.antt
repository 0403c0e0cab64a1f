use Rattle.std.proofs.Common.{arith}
use Rattle.std.proofs.lemmas.List.{drop_all, drop_more}
use Rattle.std.proofs.lemmas.Result.{err_from_is_err_and}
use Rattle.table_verify.specs.Names as spec
use Rattle.table_verify.proofs.LoopLemmas.{each_on, each_fail, each_done}
use Rattle.table_verify.proofs.declared.indices.Goals as goal

pub returns-in_err-read : goal.returns-in_err-read
returns-in_err-read c =
    let p = err_from_is_err_and c.from_residual.result c.from_residual.ensures.1 in
    rw (p.1, p.2) (each_fail spec.index c.loop-entry.indices.items _ _ _ _ _ _ c.loop-entry.invariant c.in_err-read.ensures (drop_more c.args.entries.now c.loop-entry.entry-index _ c.loop-entry-test.true))

pub loop-entry-preserved : goal.loop-entry-preserved
loop-entry-preserved c =
    rw c.in_ok-push.ensures.items
    (each_on spec.index c.loop-entry.indices.items _ _ _ _ _ c.in_ok-read.read _ c.loop-entry.invariant c.in_ok-read.ensures (drop_more c.args.entries.now c.loop-entry.entry-index _ c.loop-entry-test.true))

pub returns : goal.returns
returns c = each_done spec.index c.loop-entry.indices.items _ _ _ c.loop-entry.invariant (drop_all c.loop-entry.entry-index c.args.entries.now (omega arith))
