use Rattle.std.proofs.Common.{Ok, ◌∙◌, sym, ap, arith}
use Rattle.std.proofs.lemmas.Result.{err_from_is_err_and}
use Rattle.sial_parser.specs.Names.{kept}
use Rattle.sial_parser.proofs.ProgramLoops.{declarations_fail, declarations_on, declarations_end, declarations_full}
use Rattle.sial_parser.proofs.declarations.declarations.Goals as goal

-- the first fault ends the declarations
pub returns-in_err-next : goal.returns-in_err-next
returns-in_err-next c =
    let p = err_from_is_err_and c.from_residual.result c.from_residual.ensures.1 in
    rw (p.1, p.2) (declarations_fail _ _ _ _ _ (omega arith) c.loop-turn.invariant _ c.in_err-next.ensures)

-- no further declaration
pub returns-then-not-more : goal.returns-then-not-more
returns-then-not-more c =
    declarations_end _ _ _ _ _ (omega arith) c.loop-turn.invariant (kept c.in_ok-next.next) c.in_ok-next.behind.now
    (c.in_ok-next.ensures ∙ ap (λ b. Ok ((kept c.in_ok-next.next, b), c.in_ok-next.behind.now)) c.if-not-more.true)

-- one more
pub loop-turn-preserved : goal.loop-turn-preserved
loop-turn-preserved c =
    declarations_on _ _ _ _ _ (omega arith) c.loop-turn.invariant (kept c.in_ok-next.next) c.in_ok-next.behind.now
    (c.in_ok-next.ensures ∙ ap (λ b. Ok ((kept c.in_ok-next.next, b), c.in_ok-next.behind.now)) c.if-not-more.false)

-- more turns than names
pub returns : goal.returns
returns c = rw c.unexpected.ensures (sym c.loop-turn.invariant ∙ declarations_full _ _ _ _ c.loop-turn-test.false)
