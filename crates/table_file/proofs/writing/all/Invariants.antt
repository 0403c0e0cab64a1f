use Rattle.std.proofs.Common.{take, Ok}
use Rattle.std.specs.List.{flat_map}
use Rattle.sip_files.specs.declared.fault.Failed.{Failed}
use Rattle.sip_files.specs.Sink.{Wrote}
use Rattle.table_file.proofs.writing.all.Given as goal

abbrev pub invariant-loop-entry : goal.invariant-loop-entry
invariant-loop-entry g l = Wrote {E = Failed} (g.K.Sink.written l.fn.sink) (g.K.Sink.written l.sink) (g.K.Sink.faults l.fn.sink) (g.K.Sink.faults l.sink) (g.K.Sink.kept l.fn.sink) (g.K.Sink.kept l.sink) (flat_map g.T.Entry.bytes (take l.entry-index l.entries)) (Ok tt)
