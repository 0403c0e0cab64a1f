use Rattle.std.proofs.Common.{◌+◌, ◌-◌, sym, ◌∙◌, arith}
use Rattle.std.proofs.lemmas.List.{map_push}
use Rattle.std.proofs.lemmas.Result.{err_from_is_err_and}
use Rattle.sial_syntax.specs.Tree.{plain_stmt}
use Rattle.table_verify.proofs.LoopLemmas.{turns_end, turns_full, turns_on, turns_fail}
use Rattle.table_verify.proofs.statements.+reading.Goals as goal

-- no statement comes next
pub body-returns-then-not-begin : goal.body-returns-then-not-begin
body-returns-then-not-begin t c = turns_end _ _ _ _ _ _ _ c.loop-turn.invariant (sym c.begin.ensures ∙ c.if-not-begin.true)

-- a statement that isn't read ends the body
pub body-returns-in_err-stmt : goal.body-returns-in_err-stmt
body-returns-in_err-stmt t c =
    let p = err_from_is_err_and c.from_residual.result c.from_residual.ensures.1 in
    rw (p.1, p.2) (turns_fail _ _ _ _ (c.args.whole.len - (c.loop-turn.turn + 1)) _ _ _ _ (omega arith) c.loop-turn.invariant (sym c.begin.ensures ∙ c.if-not-begin.false) c.in_err-stmt.ensures)

-- one statement more
pub body-loop-turn-preserved : goal.body-loop-turn-preserved
body-loop-turn-preserved t c =
    rw (c.in_ok-push.ensures.items, map_push plain_stmt c.loop-turn.stmts.items c.in_ok-stmt.stmt)
    (turns_on _ _ _ _ _ _ _ _ _ _ (omega arith) c.loop-turn.invariant (sym c.begin.ensures ∙ c.if-not-begin.false) c.in_ok-stmt.ensures)

-- no turn is left
pub body-returns : goal.body-returns
body-returns t c = turns_full _ _ _ _ _ _ _ c.loop-turn.invariant (omega arith)
