use Rattle.std.proofs.Common.{take, Ok}
use Rattle.std.specs.List.{flat_map}
use Rattle.sial_syntax.specs.Tree.{tree}
use Rattle.sip_files.specs.declared.fault.Failed.{Failed}
use Rattle.sip_files.specs.Sink.{Wrote}
use Rattle.sial_printer.proofs.print.all.Given as goal

abbrev pub invariant-loop-one : goal.invariant-loop-one
invariant-loop-one g l = Wrote {E = Failed} (g.K.Sink.written l.fn.sink) (g.K.Sink.written l.sink) (g.K.Sink.faults l.fn.sink) (g.K.Sink.faults l.sink) (g.K.Sink.kept l.fn.sink) (g.K.Sink.kept l.sink) (flat_map (g.T.Print.text (tree l.program)) (take l.one-index l.some)) (Ok tt)
