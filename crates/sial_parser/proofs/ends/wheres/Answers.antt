use Rattle.std.proofs.Common.{Ok, ◌∙◌, sym, ap, arith}
use Rattle.std.proofs.lemmas.Result.{err_from_is_err_and}
use Rattle.sial_parser.proofs.LoopLemmas.{wheres_fail, wheres_on, wheres_end, wheres_full}
use Rattle.sial_parser.proofs.ends.wheres.Goals as goal

-- the first fault ends the lines
pub returns-in_err-line : goal.returns-in_err-line
returns-in_err-line c =
    let p = err_from_is_err_and c.from_residual.result c.from_residual.ensures.1 in
    rw (p.1, p.2) (wheres_fail _ _ _ _ _ _ (omega arith) c.loop-turn.invariant _ c.in_err-line.ensures)

-- the lines are over
pub returns-in-None : goal.returns-in-None
returns-in-None c = wheres_end _ _ _ _ _ _ (omega arith) c.loop-turn.invariant c.in_ok-line.behind.now (c.in_ok-line.ensures ∙ ap (λ o. Ok (o, c.in_ok-line.behind.now)) c.in-None.is)

-- one line more
pub loop-turn-preserved : goal.loop-turn-preserved
loop-turn-preserved c =
    rw c.in_ok-push-in-Some.ensures.items
    (wheres_on _ _ _ _ _ _ (omega arith) c.loop-turn.invariant c.in-Some.cond c.in_ok-line.behind.now (c.in_ok-line.ensures ∙ ap (λ o. Ok (o, c.in_ok-line.behind.now)) c.in-Some.is))

-- more turns than words
pub returns : goal.returns
returns c = rw c.unexpected.ensures (sym c.loop-turn.invariant ∙ wheres_full _ _ _ _ _ c.loop-turn-test.false)
