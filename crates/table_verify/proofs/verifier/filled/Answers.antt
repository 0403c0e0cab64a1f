use Rattle.std.proofs.Common.{List, map, ap, arith}
use Rattle.std.specs.List.{enumerate_from}
use Rattle.std.proofs.lemmas.List.{drop_all, map_push}
use Rattle.std.proofs.lemmas.Result.{err_from_is_err_and}
use Rattle.sial_syntax.specs.declared.program.Proc.{Proc}
use Rattle.sial_syntax.specs.Tree.{procedure}
use Rattle.table_verify.specs.Reading as spec
use Rattle.table_verify.proofs.LoopLemmas.{entries_left, each_on, each_fail, each_done}
use Rattle.table_verify.proofs.verifier.filled.Goals as goal

pub returns-in_err-read : goal.returns-in_err-read
returns-in_err-read c =
    let p = err_from_is_err_and c.from_residual.result c.from_residual.ensures.1 in
    let split = entries_left c.args.named.now c.loop-number.number c.index-named-number.result c.loop-number-test.true c.index-named-number.is in
    rw (p.1, p.2)
    (each_fail (spec.filled c.args.whole.entries.now c.args.whole.len) (map procedure c.loop-number.filled.items) _ _ _ _ _ _ c.loop-number.invariant c.in_err-read.ensures
    (ap (λ (xs : List Proc). enumerate_from c.loop-number.number (map procedure xs)) split))

pub loop-number-preserved : goal.loop-number-preserved
loop-number-preserved c =
    let split = entries_left c.args.named.now c.loop-number.number c.index-named-number.result c.loop-number-test.true c.index-named-number.is in
    rw (c.in_ok-push.ensures.items, map_push procedure c.loop-number.filled.items c.in_ok-read.read)
    (each_on (spec.filled c.args.whole.entries.now c.args.whole.len) (map procedure c.loop-number.filled.items) _ _ _ _ _ (procedure c.in_ok-read.read) _ c.loop-number.invariant c.in_ok-read.ensures
    (ap (λ (xs : List Proc). enumerate_from c.loop-number.number (map procedure xs)) split))

pub returns : goal.returns
returns c =
    each_done (spec.filled c.args.whole.entries.now c.args.whole.len) (map procedure c.loop-number.filled.items) _ _ _ c.loop-number.invariant
    (ap (λ (xs : List Proc). enumerate_from c.loop-number.number (map procedure xs)) (drop_all c.loop-number.number c.args.named.now (omega arith)))
