use Rattle.std.proofs.Common.{◌≡◌, ◌-◌, ◌<◌, length, Ok, arith, sym, ◌∙◌, false-eqb, true-eqb}
use Rattle.std.proofs.lemmas.Result.{err_from_is_err_and}
use Rattle.sial_lexer.specs.Reading.{lex_from, ended, seen}
use Rattle.sial_lexer.proofs.ReadingLemmas.{read_whole, moved, stopped, at_end, no_turns, ends_as}
use Rattle.sial_lexer.proofs.lexer.read.Goals as goal
use Rattle.sial_lexer.proofs.lexer.read.Goals.{else-loop-turn-test, then-loop-turn-test+then-is_empty}

-- the first fault ends the loop
pub returns-in_err-rest : goal.returns-in_err-rest
returns-in_err-rest c =
    let p = err_from_is_err_and c.from_residual.result c.from_residual.ensures.1 in
    let some : 0 < length c.loop-turn.rest.now = omega (arith, false-eqb _ 0 c.if-is_empty.ensures) in
    rw (p.1, p.2, read_whole c.args.text.now (omega arith))
    (record { exact = stopped _ _ _ _ _ _ (omega arith) some c.loop-turn.invariant.meaning c.in_err-rest.ensures.exact })

-- a piece is taken
pub loop-turn-preserved : goal.loop-turn-preserved
loop-turn-preserved c =
    let some : 0 < length c.loop-turn.rest.now = omega (arith, false-eqb _ 0 c.if-is_empty.ensures) in
    record {
      meaning = moved _ _ _ _ _ _ _ (omega arith) some c.in_ok-rest.ensures.exact c.loop-turn.invariant.meaning;
      at = c.in_ok-rest.ensures.at ∙ c.loop-turn.invariant.at;
      line = omega (arith, c.in_ok-rest.ensures.line);
      few = omega (arith, c.in_ok-rest.ensures.tokens);
    }

-- all is read, or there were as many turns as bytes
read_all : (c : goal.After-finish) → lex_from (length c.args.text.now - c.loop-turn.turn) (seen c.loop-turn.scan) c.loop-turn.rest.now ≡ Ok (ended (seen c.loop-turn.scan))
read_all c = elim c.loop-turn-test.branch [
  | else-loop-turn-test w ↦ no_turns _ _ _ _ w.loop-turn-test.false
  | then-loop-turn-test+then-is_empty w ↦ at_end _ _ _ (true-eqb _ 0 w.if-is_empty.ensures)
]

pub returns : goal.returns
returns c = record { exact = ends_as c.finish.result _ _ _ (read_whole c.args.text.now (omega arith) ∙ sym c.loop-turn.invariant.meaning ∙ read_all c) c.finish.ensures }
