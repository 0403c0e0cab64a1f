use Rattle.std.proofs.Common.{◌∷◌, ◌++◌, [], refl, ap}
use Rattle.sial_printer.proofs.Writes.{first_failed, both_wrote}
use Rattle.sip_files.proofs.SinkLemmas.{then_wrote, stopped}
use Rattle.sial_printer.proofs.part.quoted.Goals as goal

pub returns-in_err-write : goal.returns-in_err-write
returns-in_err-write g c = first_failed _ (c.args.text.now ++ 34 ∷ []) c.from_residual.result c.in_err-write.ensures c.from_residual.ensures.0 refl

pub returns-in_err-write-2 : goal.returns-in_err-write-2
returns-in_err-write-2 g c =
    both_wrote _ c.from_residual-in_err-write-2.result c.in_ok-write.ensures
    (stopped (34 ∷ []) c.from_residual-in_err-write-2.result c.in_err-write-2.ensures c.from_residual-in_err-write-2.ensures.0)
    (ap (λ t. 32 ∷ 34 ∷ t ++ 34 ∷ []) c.as_slice.ensures)

pub returns : goal.returns
returns g c =
    both_wrote _ c.write-3.result c.in_ok-write.ensures (then_wrote c.write-3.result c.in_ok-write-2.ensures c.write-3.ensures)
    (ap (λ t. 32 ∷ 34 ∷ t ++ 34 ∷ []) c.as_slice.ensures)
