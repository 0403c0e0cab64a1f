use Rattle.std.proofs.Common.{◌+◌, drop, Ok}
use Rattle.std.specs.List.{flat_map}
use Rattle.sip_files.proofs.SinkLemmas.{then_wrote}
use Rattle.table_file.proofs.Writes.{first_failed, both_wrote, entries_split, entries_more, up_to_item, from_item}
use Rattle.table_file.proofs.writing.all.Goals as goal

pub returns-in_err-write : goal.returns-in_err-write
returns-in_err-write g c =
    let xs = c.args.entries.now in
    let i = c.loop-entry.entry-index in
    let x = c.entry-item.result in
    first_failed _ (flat_map g.T.Entry.bytes (drop (i + 1) xs)) c.from_residual.result (then_wrote _ c.loop-entry.invariant c.in_err-write.ensures) c.from_residual.ensures.0 (entries_split g.T.Entry.bytes xs i x (from_item xs i x c.loop-entry-test.true c.entry-item.is))

pub loop-entry-preserved : goal.loop-entry-preserved
loop-entry-preserved g c =
    let xs = c.args.entries.now in
    let i = c.loop-entry.entry-index in
    let x = c.entry-item.result in
    both_wrote _ (Ok tt) c.loop-entry.invariant c.in_ok-write.ensures (entries_more g.T.Entry.bytes xs i x (up_to_item xs i x c.loop-entry-test.true c.entry-item.is))
