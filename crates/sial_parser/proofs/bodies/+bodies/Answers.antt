use Rattle.std.proofs.Common.{◌≡◌, ◌+◌, ◌-◌, Ok, ◌∙◌, sym, ap, arith}
use Rattle.std.specs.Prelude.{option_map}
use Rattle.std.proofs.lemmas.List.{map_push}
use Rattle.std.proofs.lemmas.Result.{err_from_is_err_and}
use Rattle.sial_syntax.specs.Tree.{plain_stmt}
use Rattle.sial_parser.proofs.LoopLemmas.{turns_fail, turns_on, turns_end, turns_full, body_is}
use Rattle.sial_parser.proofs.bodies.+bodies.Goals as goal

-- the first fault ends the body
pub body-returns-in_err-next-clause-value : goal.body-returns-in_err-next-clause-value
body-returns-in_err-next-clause-value t c =
    let p = err_from_is_err_and c.from_residual.result c.from_residual.ensures.1 in
    rw (p.1, p.2) (turns_fail _ _ _ _ _ _ _ (omega arith) c.loop-turn.invariant.meaning _ c.in_err-next.ensures.value)

-- an end word
pub body-returns-in-None-clause-value : goal.body-returns-in-None-clause-value
body-returns-in-None-clause-value t c =
    turns_end _ _ _ _ _ _ _ (omega arith) c.loop-turn.invariant.meaning c.in_ok-next.behind.now (c.in_ok-next.ensures.value ∙ ap (λ o. Ok (option_map (λ s. (plain_stmt s, c.in_ok-next.after)) o, c.in_ok-next.behind.now)) c.in-None.is)

-- more turns than statements may follow
pub body-returns-clause-value : goal.body-returns-clause-value
body-returns-clause-value t c = rw c.unexpected.ensures (sym c.loop-turn.invariant.meaning ∙ turns_full _ _ _ _ _ _ c.loop-turn-test.false)

-- one statement more
pub body-loop-turn-preserved : goal.body-loop-turn-preserved
body-loop-turn-preserved t c = record {
  meaning = rw (c.in_ok-push-in-Some.ensures.items, map_push plain_stmt c.loop-turn.stmts.items c.in-Some.stmt)
      (turns_on _ _ _ _ _ _ _ (omega arith) c.loop-turn.invariant.meaning (plain_stmt c.in-Some.stmt, c.in_ok-next.after) c.in_ok-next.behind.now
      (c.in_ok-next.ensures.value ∙ ap (λ o. Ok (option_map (λ s. (plain_stmt s, c.in_ok-next.after)) o, c.in_ok-next.behind.now)) c.in-Some.is));
  fewer = omega (arith, c.in_ok-next.ensures.fewer);
}

-- no statement yet
pub body-loop-turn-init : goal.body-loop-turn-init
body-loop-turn-init t c =
    let k : c.args.most + 1 - 0 ≡ c.args.most + 1 = omega arith in
    record { meaning = rw (k, c.new-stmts.ensures.items) (body_is _ _ _ _ _); fewer = omega arith }
