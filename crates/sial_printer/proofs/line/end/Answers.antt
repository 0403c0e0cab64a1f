use Rattle.std.proofs.Common.{◌∷◌, [], refl}
use Rattle.sial_printer.proofs.Writes.{first_failed, both_wrote}
use Rattle.sial_printer.proofs.line.end.Goals as goal

pub returns-in_err-all : goal.returns-in_err-all
returns-in_err-all g c = first_failed _ (10 ∷ []) c.from_residual.result c.in_err-all.ensures c.from_residual.ensures.0 refl

pub returns : goal.returns
returns g c = both_wrote _ c.write.result c.in_ok-all.ensures c.write.ensures refl
