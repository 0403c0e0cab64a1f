use Rattle.std.proofs.Common.{◌≡◌, ℕ, List, Bor, None, Some, arith, sym, ap, ◌∙◌, false-eqb, true-eqb, length, ◌<◌}
use Rattle.std.specs.Prelude.{option_map}
use Rattle.input_text.specs.Parts as spec
use Rattle.input_text.proofs.WordLemmas.{moved, stopped, at_end, no_turns}
use Rattle.input_text.proofs.words.words_in.Goals as goal
use Rattle.input_text.proofs.words.words_in.Goals.{else-loop-turn-test, then-loop-turn-test+then-is_empty}

-- what can't be cut ends the loop
pub returns-in-None : goal.returns-in-None
returns-in-None c =
    let some : 0 < length c.loop-turn.rest.now = omega (arith, false-eqb _ 0 c.if-is_empty.ensures) in
    let none : spec.step c.loop-turn.words.items c.loop-turn.rest.now ≡ None = sym c.in_ok-left.ensures ∙ ap (option_map (λ (l : Bor (List ℕ)). (c.step.new.words.items, l.now))) c.in-None.is in
    sym (stopped (length c.args.line.now) c.loop-turn.turn c.loop-turn.words.items c.loop-turn.rest.now (spec.words_in c.args.line.now) (omega arith) some none c.loop-turn.invariant)

-- a part is taken
pub loop-turn-preserved : goal.loop-turn-preserved
loop-turn-preserved c =
    let some : 0 < length c.loop-turn.rest.now = omega (arith, false-eqb _ 0 c.if-is_empty.ensures) in
    let next : spec.step c.loop-turn.words.items c.loop-turn.rest.now ≡ Some (c.step.new.words.items, c.in-Some.left.now) = sym c.in_ok-left.ensures ∙ ap (option_map (λ (l : Bor (List ℕ)). (c.step.new.words.items, l.now))) c.in-Some.is in
    moved (length c.args.line.now) c.loop-turn.turn c.loop-turn.words.items c.step.new.words.items c.loop-turn.rest.now c.in-Some.left.now (spec.words_in c.args.line.now) (omega arith) some next c.loop-turn.invariant

-- all is read, or there were as many turns as bytes
pub returns : goal.returns
returns c = sym (elim c.loop-turn-test.branch [
  | else-loop-turn-test w ↦ no_turns _ _ _ _ w.loop-turn-test.false
  | then-loop-turn-test+then-is_empty w ↦ at_end _ _ _ (true-eqb _ 0 w.if-is_empty.ensures)
]) ∙ c.loop-turn.invariant
