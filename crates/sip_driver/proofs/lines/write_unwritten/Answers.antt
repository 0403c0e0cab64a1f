use Rattle.std.specs.Prelude.{codes}
use Rattle.std.proofs.Common.{◌∷◌, [], ◌++◌, Err, refl}
use Rattle.sip_files.proofs.SinkLemmas.{then_wrote, stopped}
use Rattle.sip_driver.proofs.lines.write_unwritten.Goals as goal

pub returns-in-Ok : goal.returns-in-Ok
returns-in-Ok g c =
    then_wrote {xs = codes "sip: write "} {ys = c.args.name.now ++ 10 ∷ []} c.write_line.result c.in-Ok.ensures c.write_line.ensures

pub returns-in-Err : goal.returns-in-Err
returns-in-Err g c =
    stopped {xs = codes "sip: write "} (c.args.name.now ++ 10 ∷ []) (Err c.in-Err.failed) c.in-Err.ensures refl
