use Rattle.std.proofs.Common.{decimal, [], ◌∷◌, ◌++◌}
use Rattle.sip_files.proofs.SinkLemmas.{then_wrote}
use Rattle.first_profile.proofs.print.write_number.Goals as goal

pub returns-in-Ok : goal.returns-in-Ok
returns-in-Ok types c = then_wrote {xs = 32 ∷ []} {ys = decimal c.args.number ++ 10 ∷ []} c.write_digits.result c.in-Ok.ensures c.write_digits.ensures
