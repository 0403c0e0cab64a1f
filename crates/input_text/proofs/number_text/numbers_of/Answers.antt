use Rattle.std.proofs.Common.{◌+◌, ◌<◌, length, arith, sym, ap, ◌∙◌, false-eqb}
use Rattle.std.proofs.lemmas.List.{length-drop}
use Rattle.std.proofs.lemmas.Result.{err_from_is_err_and}
use Rattle.input_text.specs.LineReading as spec
use Rattle.input_text.specs.Lines.{lines_of}
use Rattle.input_text.proofs.LinesLemmas.{moved, stopped_at, has_bytes}
use Rattle.input_text.proofs.number_text.numbers_of.Goals as goal

-- the first wrong line ends the loop
pub returns-in_err-add_numbers : goal.returns-in_err-add_numbers
returns-in_err-add_numbers c =
    let p = err_from_is_err_and c.from_residual.result c.from_residual.ensures.1 in
    let some : 0 < length c.loop-rest.rest.now = omega (arith, false-eqb _ 0 c.loop-rest-test.ensures) in
    rw (p.1, p.2)
    (stopped_at (spec.add_numbers c.args.most) c.loop-rest.line c.loop-rest.numbers.items c.loop-rest.rest.now c.first_line.result.0.now _ (spec.numbers_of_text c.args.most c.args.text.now)
    c.first_line.ensures.front some c.in_err-add_numbers.ensures c.loop-rest.invariant.meaning)

-- the numbers of a line are added
pub loop-rest-preserved : goal.loop-rest-preserved
loop-rest-preserved c =
    let some : 0 < length c.loop-rest.rest.now = omega (arith, false-eqb _ 0 c.loop-rest-test.ensures) in
    record {
      meaning = ap (λ r. spec.add_lines (spec.add_numbers c.args.most) (c.loop-rest.line + 1) c.add_numbers.new.numbers.items (lines_of r)) c.first_line.ensures.back
          ∙ moved (spec.add_numbers c.args.most) c.loop-rest.line c.loop-rest.numbers.items c.add_numbers.new.numbers.items c.loop-rest.rest.now (spec.numbers_of_text c.args.most c.args.text.now) some
          (ap (spec.add_numbers c.args.most c.loop-rest.numbers.items c.loop-rest.line) (sym c.first_line.ensures.front) ∙ c.in_ok-add_numbers.ensures) c.loop-rest.invariant.meaning;
      line = omega (arith, c.loop-rest.invariant.line, ap length c.first_line.ensures.back, length-drop (spec.line_len c.loop-rest.rest.now) c.loop-rest.rest.now, has_bytes c.loop-rest.rest.now some, some);
    }
