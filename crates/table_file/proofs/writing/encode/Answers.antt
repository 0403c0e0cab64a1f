use Rattle.std.proofs.Common.{◌++◌, refl, ap, ◌∙◌}
use Rattle.sip_files.proofs.SinkLemmas.{then_wrote, stopped}
use Rattle.table_file.specs.Bytes as spec
use Rattle.table_file.proofs.Writes.{first_failed, both_wrote, seven}
use Rattle.table_file.proofs.writing.encode.Goals as goal

pub returns-in_err-write : goal.returns-in_err-write
returns-in_err-write g c = record {
  wrote = first_failed _ (spec.list_bytes spec.text_bytes c.args.tables.now.texts ++ (spec.list_bytes spec.index_bytes c.args.tables.now.indices ++ (spec.list_bytes spec.array_bytes c.args.tables.now.arrays ++ (spec.list_bytes spec.scalar_bytes c.args.tables.now.scalars ++ (spec.list_bytes spec.procedure_bytes c.args.tables.now.procedures ++ (spec.list_bytes spec.instruction_bytes c.args.tables.now.code)))))) c.from_residual.result c.in_err-write.ensures c.from_residual.ensures.0
      (seven c.head.result (spec.head_bytes c.args.tables.now.code) (spec.list_bytes spec.text_bytes c.args.tables.now.texts) (spec.list_bytes spec.text_bytes c.args.tables.now.texts) (spec.list_bytes spec.index_bytes c.args.tables.now.indices) (spec.list_bytes spec.index_bytes c.args.tables.now.indices) (spec.list_bytes spec.array_bytes c.args.tables.now.arrays) (spec.list_bytes spec.array_bytes c.args.tables.now.arrays) (spec.list_bytes spec.scalar_bytes c.args.tables.now.scalars) (spec.list_bytes spec.scalar_bytes c.args.tables.now.scalars) (spec.list_bytes spec.procedure_bytes c.args.tables.now.procedures) (spec.list_bytes spec.procedure_bytes c.args.tables.now.procedures) (spec.list_bytes spec.instruction_bytes c.args.tables.now.code) (spec.list_bytes spec.instruction_bytes c.args.tables.now.code)
      (c.head.ensures ∙ ap spec.head_bytes c.code.ensures) refl refl refl refl refl refl);
}

pub returns-in_err-list : goal.returns-in_err-list
returns-in_err-list g c = record {
  wrote = both_wrote _ c.from_residual-in_err-list.result c.in_ok-write.ensures
      (stopped (spec.list_bytes spec.index_bytes c.args.tables.now.indices ++ (spec.list_bytes spec.array_bytes c.args.tables.now.arrays ++ (spec.list_bytes spec.scalar_bytes c.args.tables.now.scalars ++ (spec.list_bytes spec.procedure_bytes c.args.tables.now.procedures ++ (spec.list_bytes spec.instruction_bytes c.args.tables.now.code))))) c.from_residual-in_err-list.result c.in_err-list.ensures c.from_residual-in_err-list.ensures.0)
      (seven c.head.result (spec.head_bytes c.args.tables.now.code) (spec.list_bytes spec.text_bytes c.texts.result.now) (spec.list_bytes spec.text_bytes c.args.tables.now.texts) (spec.list_bytes spec.index_bytes c.args.tables.now.indices) (spec.list_bytes spec.index_bytes c.args.tables.now.indices) (spec.list_bytes spec.array_bytes c.args.tables.now.arrays) (spec.list_bytes spec.array_bytes c.args.tables.now.arrays) (spec.list_bytes spec.scalar_bytes c.args.tables.now.scalars) (spec.list_bytes spec.scalar_bytes c.args.tables.now.scalars) (spec.list_bytes spec.procedure_bytes c.args.tables.now.procedures) (spec.list_bytes spec.procedure_bytes c.args.tables.now.procedures) (spec.list_bytes spec.instruction_bytes c.args.tables.now.code) (spec.list_bytes spec.instruction_bytes c.args.tables.now.code)
      (c.head.ensures ∙ ap spec.head_bytes c.code.ensures) (ap (spec.list_bytes spec.text_bytes) c.texts.ensures) refl refl refl refl refl);
}

pub returns-in_err-list-2 : goal.returns-in_err-list-2
returns-in_err-list-2 g c = record {
  wrote = both_wrote _ c.from_residual-in_err-list-2.result c.in_ok-write.ensures
      (then_wrote c.from_residual-in_err-list-2.result c.in_ok-list.ensures (stopped (spec.list_bytes spec.array_bytes c.args.tables.now.arrays ++ (spec.list_bytes spec.scalar_bytes c.args.tables.now.scalars ++ (spec.list_bytes spec.procedure_bytes c.args.tables.now.procedures ++ (spec.list_bytes spec.instruction_bytes c.args.tables.now.code)))) c.from_residual-in_err-list-2.result c.in_err-list-2.ensures c.from_residual-in_err-list-2.ensures.0))
      (seven c.head.result (spec.head_bytes c.args.tables.now.code) (spec.list_bytes spec.text_bytes c.texts.result.now) (spec.list_bytes spec.text_bytes c.args.tables.now.texts) (spec.list_bytes spec.index_bytes c.indices.result.now) (spec.list_bytes spec.index_bytes c.args.tables.now.indices) (spec.list_bytes spec.array_bytes c.args.tables.now.arrays) (spec.list_bytes spec.array_bytes c.args.tables.now.arrays) (spec.list_bytes spec.scalar_bytes c.args.tables.now.scalars) (spec.list_bytes spec.scalar_bytes c.args.tables.now.scalars) (spec.list_bytes spec.procedure_bytes c.args.tables.now.procedures) (spec.list_bytes spec.procedure_bytes c.args.tables.now.procedures) (spec.list_bytes spec.instruction_bytes c.args.tables.now.code) (spec.list_bytes spec.instruction_bytes c.args.tables.now.code)
      (c.head.ensures ∙ ap spec.head_bytes c.code.ensures) (ap (spec.list_bytes spec.text_bytes) c.texts.ensures) (ap (spec.list_bytes spec.index_bytes) c.indices.ensures) refl refl refl refl);
}

pub returns-in_err-list-3 : goal.returns-in_err-list-3
returns-in_err-list-3 g c = record {
  wrote = both_wrote _ c.from_residual-in_err-list-3.result c.in_ok-write.ensures
      (then_wrote c.from_residual-in_err-list-3.result c.in_ok-list.ensures (then_wrote c.from_residual-in_err-list-3.result c.in_ok-list-2.ensures (stopped (spec.list_bytes spec.scalar_bytes c.args.tables.now.scalars ++ (spec.list_bytes spec.procedure_bytes c.args.tables.now.procedures ++ (spec.list_bytes spec.instruction_bytes c.args.tables.now.code))) c.from_residual-in_err-list-3.result c.in_err-list-3.ensures c.from_residual-in_err-list-3.ensures.0)))
      (seven c.head.result (spec.head_bytes c.args.tables.now.code) (spec.list_bytes spec.text_bytes c.texts.result.now) (spec.list_bytes spec.text_bytes c.args.tables.now.texts) (spec.list_bytes spec.index_bytes c.indices.result.now) (spec.list_bytes spec.index_bytes c.args.tables.now.indices) (spec.list_bytes spec.array_bytes c.arrays.result.now) (spec.list_bytes spec.array_bytes c.args.tables.now.arrays) (spec.list_bytes spec.scalar_bytes c.args.tables.now.scalars) (spec.list_bytes spec.scalar_bytes c.args.tables.now.scalars) (spec.list_bytes spec.procedure_bytes c.args.tables.now.procedures) (spec.list_bytes spec.procedure_bytes c.args.tables.now.procedures) (spec.list_bytes spec.instruction_bytes c.args.tables.now.code) (spec.list_bytes spec.instruction_bytes c.args.tables.now.code)
      (c.head.ensures ∙ ap spec.head_bytes c.code.ensures) (ap (spec.list_bytes spec.text_bytes) c.texts.ensures) (ap (spec.list_bytes spec.index_bytes) c.indices.ensures) (ap (spec.list_bytes spec.array_bytes) c.arrays.ensures) refl refl refl);
}

pub returns-in_err-list-4 : goal.returns-in_err-list-4
returns-in_err-list-4 g c = record {
  wrote = both_wrote _ c.from_residual-in_err-list-4.result c.in_ok-write.ensures
      (then_wrote c.from_residual-in_err-list-4.result c.in_ok-list.ensures (then_wrote c.from_residual-in_err-list-4.result c.in_ok-list-2.ensures (then_wrote c.from_residual-in_err-list-4.result c.in_ok-list-3.ensures (stopped (spec.list_bytes spec.procedure_bytes c.args.tables.now.procedures ++ (spec.list_bytes spec.instruction_bytes c.args.tables.now.code)) c.from_residual-in_err-list-4.result c.in_err-list-4.ensures c.from_residual-in_err-list-4.ensures.0))))
      (seven c.head.result (spec.head_bytes c.args.tables.now.code) (spec.list_bytes spec.text_bytes c.texts.result.now) (spec.list_bytes spec.text_bytes c.args.tables.now.texts) (spec.list_bytes spec.index_bytes c.indices.result.now) (spec.list_bytes spec.index_bytes c.args.tables.now.indices) (spec.list_bytes spec.array_bytes c.arrays.result.now) (spec.list_bytes spec.array_bytes c.args.tables.now.arrays) (spec.list_bytes spec.scalar_bytes c.scalars.result.now) (spec.list_bytes spec.scalar_bytes c.args.tables.now.scalars) (spec.list_bytes spec.procedure_bytes c.args.tables.now.procedures) (spec.list_bytes spec.procedure_bytes c.args.tables.now.procedures) (spec.list_bytes spec.instruction_bytes c.args.tables.now.code) (spec.list_bytes spec.instruction_bytes c.args.tables.now.code)
      (c.head.ensures ∙ ap spec.head_bytes c.code.ensures) (ap (spec.list_bytes spec.text_bytes) c.texts.ensures) (ap (spec.list_bytes spec.index_bytes) c.indices.ensures) (ap (spec.list_bytes spec.array_bytes) c.arrays.ensures) (ap (spec.list_bytes spec.scalar_bytes) c.scalars.ensures) refl refl);
}

pub returns-in_err-list-5 : goal.returns-in_err-list-5
returns-in_err-list-5 g c = record {
  wrote = both_wrote _ c.from_residual-in_err-list-5.result c.in_ok-write.ensures
      (then_wrote c.from_residual-in_err-list-5.result c.in_ok-list.ensures (then_wrote c.from_residual-in_err-list-5.result c.in_ok-list-2.ensures (then_wrote c.from_residual-in_err-list-5.result c.in_ok-list-3.ensures (then_wrote c.from_residual-in_err-list-5.result c.in_ok-list-4.ensures (stopped (spec.list_bytes spec.instruction_bytes c.args.tables.now.code) c.from_residual-in_err-list-5.result c.in_err-list-5.ensures c.from_residual-in_err-list-5.ensures.0)))))
      (seven c.head.result (spec.head_bytes c.args.tables.now.code) (spec.list_bytes spec.text_bytes c.texts.result.now) (spec.list_bytes spec.text_bytes c.args.tables.now.texts) (spec.list_bytes spec.index_bytes c.indices.result.now) (spec.list_bytes spec.index_bytes c.args.tables.now.indices) (spec.list_bytes spec.array_bytes c.arrays.result.now) (spec.list_bytes spec.array_bytes c.args.tables.now.arrays) (spec.list_bytes spec.scalar_bytes c.scalars.result.now) (spec.list_bytes spec.scalar_bytes c.args.tables.now.scalars) (spec.list_bytes spec.procedure_bytes c.procedures.result.now) (spec.list_bytes spec.procedure_bytes c.args.tables.now.procedures) (spec.list_bytes spec.instruction_bytes c.args.tables.now.code) (spec.list_bytes spec.instruction_bytes c.args.tables.now.code)
      (c.head.ensures ∙ ap spec.head_bytes c.code.ensures) (ap (spec.list_bytes spec.text_bytes) c.texts.ensures) (ap (spec.list_bytes spec.index_bytes) c.indices.ensures) (ap (spec.list_bytes spec.array_bytes) c.arrays.ensures) (ap (spec.list_bytes spec.scalar_bytes) c.scalars.ensures) (ap (spec.list_bytes spec.procedure_bytes) c.procedures.ensures) refl);
}

pub returns : goal.returns
returns g c = record {
  wrote = both_wrote _ c.list-6.result c.in_ok-write.ensures
      (then_wrote c.list-6.result c.in_ok-list.ensures (then_wrote c.list-6.result c.in_ok-list-2.ensures (then_wrote c.list-6.result c.in_ok-list-3.ensures (then_wrote c.list-6.result c.in_ok-list-4.ensures (then_wrote c.list-6.result c.in_ok-list-5.ensures c.list-6.ensures)))))
      (seven c.head.result (spec.head_bytes c.args.tables.now.code) (spec.list_bytes spec.text_bytes c.texts.result.now) (spec.list_bytes spec.text_bytes c.args.tables.now.texts) (spec.list_bytes spec.index_bytes c.indices.result.now) (spec.list_bytes spec.index_bytes c.args.tables.now.indices) (spec.list_bytes spec.array_bytes c.arrays.result.now) (spec.list_bytes spec.array_bytes c.args.tables.now.arrays) (spec.list_bytes spec.scalar_bytes c.scalars.result.now) (spec.list_bytes spec.scalar_bytes c.args.tables.now.scalars) (spec.list_bytes spec.procedure_bytes c.procedures.result.now) (spec.list_bytes spec.procedure_bytes c.args.tables.now.procedures) (spec.list_bytes spec.instruction_bytes c.code-2.result.now) (spec.list_bytes spec.instruction_bytes c.args.tables.now.code)
      (c.head.ensures ∙ ap spec.head_bytes c.code.ensures) (ap (spec.list_bytes spec.text_bytes) c.texts.ensures) (ap (spec.list_bytes spec.index_bytes) c.indices.ensures) (ap (spec.list_bytes spec.array_bytes) c.arrays.ensures) (ap (spec.list_bytes spec.scalar_bytes) c.scalars.ensures) (ap (spec.list_bytes spec.procedure_bytes) c.procedures.ensures) (ap (spec.list_bytes spec.instruction_bytes) c.code-2.ensures));
}
