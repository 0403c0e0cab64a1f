use Rattle.std.proofs.Common.{◌≡◌, ◌∷◌, ◌++◌, []}
use Rattle.std.proofs.lemmas.Result.{err_from_is_err_and}
use Rattle.table_file.specs.Fields.{number, entries}
use Rattle.table_file.proofs.Loops.{entry_goes_on, entry_ends, entries_done}
use Rattle.table_file.proofs.fields.numbers.Goals as goal

pub returns-in_err-number : goal.returns-in_err-number
returns-in_err-number c =
    let p = err_from_is_err_and c.from_residual.result c.from_residual.ensures.1 in
    rw (p.1, p.2) (entry_ends (number 2) c.in_err-number.field-0.0 c.loop.numbers.items c.args.count c.loop.counter c.args.bytes.now c.loop.next (entries (number 2) c.args.count c.args.bytes.now c.args.at) c.loop-test.true c.in_err-number.ensures c.loop.invariant)

pub loop-preserved : goal.loop-preserved
loop-preserved c =
    let e : c.push.new.self.items ≡ c.loop.numbers.items ++ c.in_ok-number.number ∷ [] = c.in_ok-push.ensures.items in
    rw e (entry_goes_on (number 2) c.loop.numbers.items c.args.count c.loop.counter c.args.bytes.now c.loop.next c.in_ok-number.number c.in_ok-number.after (entries (number 2) c.args.count c.args.bytes.now c.args.at) c.loop-test.true c.in_ok-number.ensures c.loop.invariant)

pub returns : goal.returns
returns c = entries_done (number 2) c.loop.numbers.items c.args.count c.loop.counter c.args.bytes.now c.loop.next (entries (number 2) c.args.count c.args.bytes.now c.args.at) c.loop-test.false c.loop.invariant
