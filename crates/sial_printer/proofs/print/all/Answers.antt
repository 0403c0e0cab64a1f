use Rattle.std.proofs.Common.{◌+◌, drop, Ok}
use Rattle.std.specs.List.{flat_map}
use Rattle.sial_syntax.specs.Tree.{tree}
use Rattle.sip_files.proofs.SinkLemmas.{then_wrote}
use Rattle.sial_printer.proofs.Writes.{first_failed, both_wrote, entries_split, entries_more, up_to_item, from_item}
use Rattle.sial_printer.proofs.print.all.Goals as goal

pub returns-in_err-print : goal.returns-in_err-print
returns-in_err-print g c =
    let text = g.T.Print.text (tree c.args.program.now) in
    let xs = c.args.some.now in
    let i = c.loop-one.one-index in
    let x = c.one-item.result in
    first_failed _ (flat_map text (drop (i + 1) xs)) c.from_residual.result (then_wrote _ c.loop-one.invariant c.in_err-print.ensures) c.from_residual.ensures.0 (entries_split text xs i x (from_item xs i x c.loop-one-test.true c.one-item.is))

pub loop-one-preserved : goal.loop-one-preserved
loop-one-preserved g c =
    let xs = c.args.some.now in
    let i = c.loop-one.one-index in
    let x = c.one-item.result in
    both_wrote _ (Ok tt) c.loop-one.invariant c.in_ok-print.ensures (entries_more (g.T.Print.text (tree c.args.program.now)) xs i x (up_to_item xs i x c.loop-one-test.true c.one-item.is))
