use Rattle.std.proofs.Common.{Ok, ◌∙◌, sym, ap, arith}
use Rattle.std.proofs.lemmas.Result.{err_from_is_err_and}
use Rattle.sial_parser.proofs.LoopLemmas.{fails_too, indices_fail, indices_on, indices_end, indices_full}
use Rattle.sial_parser.proofs.lists.indices.Goals as goal

-- the first fault ends the list
pub returns-in_err-number : goal.returns-in_err-number
returns-in_err-number c =
    let p = err_from_is_err_and c.from_residual.result c.from_residual.ensures.1 in
    rw (p.1, p.2) (indices_fail _ _ _ _ _ _ _ (omega arith) c.loop-turn.invariant _ c.in_err-number.ensures)

-- the last index
pub returns-then-not-more : goal.returns-then-not-more
returns-then-not-more c =
    indices_end _ _ _ _ _ _ _ (omega arith) c.loop-turn.invariant _ c.in_ok-number.behind.now (c.in_ok-number.ensures ∙ ap (λ b. Ok ((c.in_ok-number.number, b), c.in_ok-number.behind.now)) c.if-not-more.true)
    ∙ ap (λ xs. Ok (xs, c.in_ok-number.behind.now)) (sym c.in_ok-push.ensures.items)

-- one index more
pub loop-turn-preserved : goal.loop-turn-preserved
loop-turn-preserved c =
    rw c.in_ok-push.ensures.items
    (indices_on _ _ _ _ _ _ _ (omega arith) c.loop-turn.invariant _ c.in_ok-number.behind.now (c.in_ok-number.ensures ∙ ap (λ b. Ok ((c.in_ok-number.number, b), c.in_ok-number.behind.now)) c.if-not-more.false))

-- no room for another
pub returns : goal.returns
returns c = fails_too _ _ _ (λ is. sym c.loop-turn.invariant ∙ indices_full _ _ _ _ _ _ c.loop-turn-test.false ∙ is) c.one_index_more.ensures
