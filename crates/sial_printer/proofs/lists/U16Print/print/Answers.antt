use Rattle.std.proofs.Common.{◌∷◌, refl, ap}
use Rattle.sial_printer.proofs.Writes.{first_failed, both_wrote}
use Rattle.sial_printer.proofs.lists.U16Print.print.Goals as goal

pub returns-in_err-write : goal.returns-in_err-write
returns-in_err-write g c = first_failed _ _ c.from_residual.result c.in_err-write.ensures c.from_residual.ensures.0 refl

pub returns : goal.returns
returns g c = both_wrote _ c.write-2.result c.in_ok-write.ensures c.write-2.ensures (ap (λ t. 44 ∷ 32 ∷ t) c.index_name.ensures)
