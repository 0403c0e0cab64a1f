use Rattle.std.proofs.Common.{◌++◌, ap, ◌∙◌}
use Rattle.sip_files.proofs.SinkLemmas.{then_wrote, stopped}
use Rattle.table_file.proofs.Writes.{first_failed, both_wrote}
use Rattle.table_file.proofs.entry.InstructionEntry.write.Goals as goal

pub returns-in_err-write : goal.returns-in_err-write
returns-in_err-write g c =
    let row = c.row_of-row.result in
    first_failed _ (row.a ++ (row.b ++ row.c)) c.from_residual.result c.in_err-write.ensures c.from_residual.ensures.0 (ap (λ h. h ++ (row.a ++ (row.b ++ row.c))) c.row_head.ensures ∙ c.row_of-row.ensures)

pub returns-in_err-write-2 : goal.returns-in_err-write-2
returns-in_err-write-2 g c =
    let row = c.row_of-row.result in
    both_wrote _ c.from_residual-in_err-write-2.result c.in_ok-write.ensures (stopped (row.b ++ row.c) c.from_residual-in_err-write-2.result c.in_err-write-2.ensures c.from_residual-in_err-write-2.ensures.0) (ap (λ h. h ++ (row.a ++ (row.b ++ row.c))) c.row_head.ensures ∙ c.row_of-row.ensures)

pub returns-in_err-write-3 : goal.returns-in_err-write-3
returns-in_err-write-3 g c =
    let row = c.row_of-row.result in
    both_wrote _ c.from_residual-in_err-write-3.result c.in_ok-write.ensures (then_wrote c.from_residual-in_err-write-3.result c.in_ok-write-2.ensures (stopped row.c c.from_residual-in_err-write-3.result c.in_err-write-3.ensures c.from_residual-in_err-write-3.ensures.0)) (ap (λ h. h ++ (row.a ++ (row.b ++ row.c))) c.row_head.ensures ∙ c.row_of-row.ensures)

pub returns : goal.returns
returns g c =
    let row = c.row_of-row.result in
    both_wrote _ c.write-4.result c.in_ok-write.ensures (then_wrote c.write-4.result c.in_ok-write-2.ensures (then_wrote c.write-4.result c.in_ok-write-3.ensures c.write-4.ensures)) (ap (λ h. h ++ (row.a ++ (row.b ++ row.c))) c.row_head.ensures ∙ c.row_of-row.ensures)
