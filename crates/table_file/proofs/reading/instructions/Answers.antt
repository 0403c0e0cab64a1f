use Rattle.std.proofs.Common.{◌≡◌, ◌∷◌, ◌++◌, []}
use Rattle.std.proofs.lemmas.Result.{err_from_is_err_and}
use Rattle.table_file.specs.Instructions.{instruction}
use Rattle.table_file.specs.Reading.{operation, counted, instructions}
use Rattle.table_file.proofs.Loops.{code_goes_on, code_ends, code_done, operation_fails, counted_fails, instruction_fails}
use Rattle.table_file.proofs.reading.instructions.Goals as goal

pub returns-in_err-opcode : goal.returns-in_err-opcode
returns-in_err-opcode c =
    let p = err_from_is_err_and c.from_residual.result c.from_residual.ensures.1 in
    rw (p.1, p.2) (code_ends c.in_err-opcode.field-0.0 (operation c.args.bytes.now c.loop.next) c.args.version c.args.texts.now c.loop.statements c.loop.code.items c.args.count c.loop.counter c.args.bytes.now c.loop.next (instructions c.args.version c.args.texts.now 0 c.args.count c.args.bytes.now c.args.at) c.loop-test.true (operation_fails c.args.version c.args.texts.now c.loop.statements c.args.bytes.now c.loop.next) c.in_err-opcode.ensures c.loop.invariant)

pub returns-in_err-more : goal.returns-in_err-more
returns-in_err-more c =
    let p = err_from_is_err_and c.from_residual-in_err-more.result c.from_residual-in_err-more.ensures.1 in
    rw (p.1, p.2) (code_ends c.in_err-more.field-0.0 (counted c.loop.statements c.in_ok-opcode.opcode c.loop.next) c.args.version c.args.texts.now c.loop.statements c.loop.code.items c.args.count c.loop.counter c.args.bytes.now c.loop.next (instructions c.args.version c.args.texts.now 0 c.args.count c.args.bytes.now c.args.at) c.loop-test.true (λ f n. counted_fails c.args.version c.args.texts.now c.loop.statements c.in_ok-opcode.opcode c.args.bytes.now c.loop.next c.in_ok-opcode.behind f n c.in_ok-opcode.ensures) c.in_err-more.ensures c.loop.invariant)

pub returns-in_err-read : goal.returns-in_err-read
returns-in_err-read c =
    let p = err_from_is_err_and c.from_residual-in_err-read.result c.from_residual-in_err-read.ensures.1 in
    rw (p.1, p.2) (code_ends c.in_err-read.field-0.0 (instruction c.args.version c.args.texts.now c.in_ok-opcode.opcode c.args.bytes.now c.in_ok-opcode.behind) c.args.version c.args.texts.now c.loop.statements c.loop.code.items c.args.count c.loop.counter c.args.bytes.now c.loop.next (instructions c.args.version c.args.texts.now 0 c.args.count c.args.bytes.now c.args.at) c.loop-test.true (λ f n. instruction_fails c.args.version c.args.texts.now c.loop.statements c.in_ok-more.more c.in_ok-opcode.opcode c.args.bytes.now c.loop.next c.in_ok-opcode.behind f n c.in_ok-opcode.ensures c.in_ok-more.ensures) c.in_err-read.ensures c.loop.invariant)

pub loop-preserved : goal.loop-preserved
loop-preserved c =
    let e : c.push.new.self.items ≡ c.loop.code.items ++ c.in_ok-read.read ∷ [] = c.in_ok-push.ensures.items in
    rw e (code_goes_on c.args.version c.args.texts.now c.loop.statements c.in_ok-more.more c.in_ok-opcode.opcode c.loop.code.items c.args.count c.loop.counter c.args.bytes.now c.loop.next c.in_ok-opcode.behind c.in_ok-read.read c.in_ok-read.after (instructions c.args.version c.args.texts.now 0 c.args.count c.args.bytes.now c.args.at) c.loop-test.true c.in_ok-opcode.ensures c.in_ok-more.ensures c.in_ok-read.ensures c.loop.invariant)

pub returns : goal.returns
returns c = code_done c.args.version c.args.texts.now c.loop.statements c.loop.code.items c.args.count c.loop.counter c.args.bytes.now c.loop.next (instructions c.args.version c.args.texts.now 0 c.args.count c.args.bytes.now c.args.at) c.loop-test.false c.loop.invariant
