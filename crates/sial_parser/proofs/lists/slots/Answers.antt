use Rattle.std.proofs.Common.{Ok, ◌∙◌, sym, ap, arith}
use Rattle.std.proofs.lemmas.Result.{err_from_is_err_and}
use Rattle.sial_parser.proofs.LoopLemmas.{fails_too, slots_fail, slots_on, slots_end, slots_full}
use Rattle.sial_parser.proofs.lists.slots.Goals as goal

-- the first fault ends the list
pub returns-in_err-slot : goal.returns-in_err-slot
returns-in_err-slot c =
    let p = err_from_is_err_and c.from_residual.result c.from_residual.ensures.1 in
    rw (p.1, p.2) (slots_fail _ _ _ _ _ _ (omega arith) c.loop-turn.invariant _ c.in_err-slot.ensures)

-- the last slot
pub returns-then-not-more : goal.returns-then-not-more
returns-then-not-more c =
    slots_end _ _ _ _ _ _ (omega arith) c.loop-turn.invariant _ c.in_ok-slot.behind.now (c.in_ok-slot.ensures ∙ ap (λ b. Ok ((c.in_ok-slot.slot, b), c.in_ok-slot.behind.now)) c.if-not-more.true)
    ∙ ap (λ xs. Ok (xs, c.in_ok-slot.behind.now)) (sym c.in_ok-push.ensures.items)

-- one slot more
pub loop-turn-preserved : goal.loop-turn-preserved
loop-turn-preserved c =
    rw c.in_ok-push.ensures.items
    (slots_on _ _ _ _ _ _ (omega arith) c.loop-turn.invariant _ c.in_ok-slot.behind.now (c.in_ok-slot.ensures ∙ ap (λ b. Ok ((c.in_ok-slot.slot, b), c.in_ok-slot.behind.now)) c.if-not-more.false))

-- no room for another
pub returns : goal.returns
returns c = fails_too _ _ _ (λ is. sym c.loop-turn.invariant ∙ slots_full _ _ _ _ _ c.loop-turn-test.false ∙ is) c.one_slot_more.ensures
