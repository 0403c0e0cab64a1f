use Rattle.std.proofs.lemmas.Result.{err_from_is_err_and}
use Rattle.table_file.specs.Fields.{all_exactly}
use Rattle.table_file.proofs.Loops.{byte_goes_on, byte_ends, bytes_done}
use Rattle.table_file.proofs.fields.all_exactly.Goals as goal

pub returns-in_err-after : goal.returns-in_err-after
returns-in_err-after c =
    let p = err_from_is_err_and c.from_residual.result c.from_residual.ensures.1 in
    rw (p.1, p.2) (byte_ends c.in_err-after.field-0.0 c.args.wanted c.args.count c.loop.counter c.args.bytes.now c.loop.next (all_exactly c.args.wanted c.args.count c.args.bytes.now c.args.at) c.loop-test.true c.in_err-after.ensures c.loop.invariant)

pub loop-preserved : goal.loop-preserved
loop-preserved c = byte_goes_on c.args.wanted c.args.count c.loop.counter c.args.bytes.now c.loop.next c.in_ok-after.after (all_exactly c.args.wanted c.args.count c.args.bytes.now c.args.at) c.loop-test.true c.in_ok-after.ensures c.loop.invariant

pub returns : goal.returns
returns c = bytes_done c.args.wanted c.args.count c.loop.counter c.args.bytes.now c.loop.next (all_exactly c.args.wanted c.args.count c.args.bytes.now c.args.at) c.loop-test.false c.loop.invariant
