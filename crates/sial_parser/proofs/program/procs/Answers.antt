use Rattle.std.proofs.Common.{◌+◌, ◌∷◌, [], Ok, length, ◌∙◌, sym, ap, arith}
use Rattle.std.specs.Prelude.{option_map}
use Rattle.std.proofs.lemmas.List.{map_push, length-map, length-append}
use Rattle.std.proofs.lemmas.Result.{err_from_is_err_and}
use Rattle.sial_syntax.specs.Tree.{procedure}
use Rattle.sial_parser.proofs.ProgramLoops.{procs_fail, procs_on, procs_end, procs_full}
use Rattle.sial_parser.proofs.program.procs.Goals as goal

-- the first fault ends the procedures
pub returns-in_err-next-clause-value : goal.returns-in_err-next-clause-value
returns-in_err-next-clause-value c =
    let p = err_from_is_err_and c.from_residual.result c.from_residual.ensures.1 in
    rw (p.1, p.2) (procs_fail _ _ _ _ _ _ _ _ _ _ (omega arith) (length-map c.loop-turn.procs.items procedure ∙ c.loop-turn.invariant.count) c.loop-turn.invariant.meaning _ c.in_err-next.ensures.value)

-- no further procedure
pub returns-in-None-clause-value : goal.returns-in-None-clause-value
returns-in-None-clause-value c =
    procs_end _ _ _ _ _ _ _ _ _ _ (omega arith) (length-map c.loop-turn.procs.items procedure ∙ c.loop-turn.invariant.count) c.loop-turn.invariant.meaning c.in_ok-next.behind.now
    (c.in_ok-next.ensures.value ∙ ap (λ o. Ok (option_map (λ p. (procedure p, c.in_ok-next.after)) o, c.in_ok-next.behind.now)) c.in-None.is)

-- one more
pub loop-turn-preserved : goal.loop-turn-preserved
loop-turn-preserved c = record {
  meaning = rw (c.in_ok-declare-in-Some.ensures, c.as_slice.ensures, c.in_ok-push-in-Some.ensures.items, map_push procedure c.loop-turn.procs.items c.in-Some.proc)
      (procs_on _ _ _ _ _ _ _ _ _ _ (omega arith) (length-map c.loop-turn.procs.items procedure ∙ c.loop-turn.invariant.count) c.loop-turn.invariant.meaning (procedure c.in-Some.proc, c.in_ok-next.after) c.in_ok-next.behind.now
      (c.in_ok-next.ensures.value ∙ ap (λ o. Ok (option_map (λ p. (procedure p, c.in_ok-next.after)) o, c.in_ok-next.behind.now)) c.in-Some.is));
  count = ap length c.in_ok-push-in-Some.ensures.items ∙ length-append c.loop-turn.procs.items (c.in-Some.proc ∷ []) ∙ ap (λ n. n + 1) c.loop-turn.invariant.count;
  fewer = omega (arith, c.in_ok-next.ensures.fewer, c.loop-turn.invariant.fewer);
}

-- more turns than names
pub returns-clause-value : goal.returns-clause-value
returns-clause-value c = rw c.unexpected.ensures (sym c.loop-turn.invariant.meaning ∙ procs_full _ _ _ _ _ _ _ _ c.loop-turn-test.false)
