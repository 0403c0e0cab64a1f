use Rattle.std.proofs.Common.{◌+◌, ◌<◌, length, arith, sym, ap, ◌∙◌, false-eqb}
use Rattle.std.proofs.lemmas.List.{length-drop}
use Rattle.std.proofs.lemmas.Result.{err_from_is_err_and}
use Rattle.input_text.specs.LineReading as spec
use Rattle.input_text.specs.Seen.{seen}
use Rattle.input_text.specs.Lines.{lines_of}
use Rattle.input_text.proofs.LinesLemmas.{moved, stopped_at, has_bytes}
use Rattle.input_text.proofs.reading.read.Goals as goal

-- the first wrong line ends the loop
pub returns-in_err-add_line : goal.returns-in_err-add_line
returns-in_err-add_line c =
    let p = err_from_is_err_and c.from_residual.result c.from_residual.ensures.1 in
    let some : 0 < length c.loop-rest.rest.now = omega (arith, false-eqb _ 0 c.loop-rest-test.ensures) in
    rw (p.1, p.2)
    (stopped_at spec.add_line c.loop-rest.line (seen c.loop-rest.building) c.loop-rest.rest.now c.first_line.result.0.now _ (spec.given_in c.args.text.now) c.first_line.ensures.front some c.in_err-add_line.ensures.exact c.loop-rest.invariant.meaning)

-- a line is added
pub loop-rest-preserved : goal.loop-rest-preserved
loop-rest-preserved c =
    let some : 0 < length c.loop-rest.rest.now = omega (arith, false-eqb _ 0 c.loop-rest-test.ensures) in
    record {
      meaning = ap (λ r. spec.add_lines spec.add_line (c.loop-rest.line + 1) (seen c.add_line.new.building) (lines_of r)) c.first_line.ensures.back
          ∙ moved spec.add_line c.loop-rest.line (seen c.loop-rest.building) (seen c.add_line.new.building) c.loop-rest.rest.now (spec.given_in c.args.text.now) some
          (ap (spec.add_line (seen c.loop-rest.building) c.loop-rest.line) (sym c.first_line.ensures.front) ∙ c.in_ok-add_line.ensures.exact) c.loop-rest.invariant.meaning;
      tied = c.in_ok-add_line.ensures.tied;
      line = omega (arith, c.loop-rest.invariant.line, ap length c.first_line.ensures.back, length-drop (spec.line_len c.loop-rest.rest.now) c.loop-rest.rest.now, has_bytes c.loop-rest.rest.now some, some);
    }
