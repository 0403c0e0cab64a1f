use Rattle.std.proofs.Common.{◌≡◌, ◌∷◌, ◌++◌, []}
use Rattle.std.proofs.lemmas.Result.{err_from_is_err_and}
use Rattle.table_file.specs.Fields.{entries, behind}
use Rattle.table_file.proofs.Loops.{entry_goes_on, entry_ends, entries_done}
use Rattle.table_file.proofs.reading.entries.Goals as goal

pub returns-in_err-entry : goal.returns-in_err-entry
returns-in_err-entry g c =
    let p = err_from_is_err_and c.from_residual.result c.from_residual.ensures.1 in
    rw (p.1, p.2) (entry_ends (g.T.Listed.reading c.args.texts.now) c.in_err-entry.field-0.0 c.loop.read.items c.args.count c.loop.counter c.args.bytes.now c.loop.next (behind c.args.front.items (entries (g.T.Listed.reading c.args.texts.now) c.args.count c.args.bytes.now c.args.at)) c.loop-test.true c.in_err-entry.ensures c.loop.invariant)

pub loop-preserved : goal.loop-preserved
loop-preserved g c =
    let e : c.push.new.self.items ≡ c.loop.read.items ++ c.in_ok-entry.entry ∷ [] = c.in_ok-push.ensures.items in
    rw e (entry_goes_on (g.T.Listed.reading c.args.texts.now) c.loop.read.items c.args.count c.loop.counter c.args.bytes.now c.loop.next c.in_ok-entry.entry c.in_ok-entry.after (behind c.args.front.items (entries (g.T.Listed.reading c.args.texts.now) c.args.count c.args.bytes.now c.args.at)) c.loop-test.true c.in_ok-entry.ensures c.loop.invariant)

pub returns : goal.returns
returns g c = entries_done (g.T.Listed.reading c.args.texts.now) c.loop.read.items c.args.count c.loop.counter c.args.bytes.now c.loop.next (behind c.args.front.items (entries (g.T.Listed.reading c.args.texts.now) c.args.count c.args.bytes.now c.args.at)) c.loop-test.false c.loop.invariant
