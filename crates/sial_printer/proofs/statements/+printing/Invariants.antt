use Rattle.std.proofs.Common.{take, Ok}
use Rattle.std.specs.List.{flat_map}
use Rattle.sial_syntax.specs.Tree.{tree, plain_form}
use Rattle.sial_syntax.specs.declared.statement.Stmt.{Stmt}
use Rattle.sip_files.specs.declared.fault.Failed.{Failed}
use Rattle.sip_files.specs.Sink.{Wrote}
use Rattle.sial_printer.specs.Lines.{statement}
use Rattle.sial_printer.specs.Spelling.{text_of}
use Rattle.sial_printer.proofs.statements.+printing.Given as goal

-- the statements so far are written
abbrev pub invariant-statements-loop-stmt : goal.invariant-statements-loop-stmt
invariant-statements-loop-stmt g l =
    Wrote {E = Failed} (g.K.Sink.written l.fn.sink) (g.K.Sink.written l.sink) (g.K.Sink.faults l.fn.sink) (g.K.Sink.faults l.sink) (g.K.Sink.kept l.fn.sink) (g.K.Sink.kept l.sink)
    (flat_map (λ (s : Stmt). text_of (statement (tree l.program) (plain_form s.form))) (take l.stmt-index l.stmts)) (Ok tt)
