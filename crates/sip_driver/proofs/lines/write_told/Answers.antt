use Rattle.std.specs.Prelude.{codes, decimal}
use Rattle.std.proofs.Common.{◌∷◌, [], ◌++◌, Err, refl}
use Rattle.sip_files.proofs.SinkLemmas.{then_wrote, stopped}
use Rattle.sip_driver.proofs.lines.write_told.Goals as goal

pub returns-in-Ok : goal.returns-in-Ok
returns-in-Ok g c =
    then_wrote {xs = c.args.front.now} {ys = decimal c.args.told.place ++ (codes ": " ++ (c.args.told.kind.now ++ 10 ∷ []))} c.write_place.result c.in-Ok.ensures c.write_place.ensures

pub returns-in-Err : goal.returns-in-Err
returns-in-Err g c =
    stopped {xs = c.args.front.now} (decimal c.args.told.place ++ (codes ": " ++ (c.args.told.kind.now ++ 10 ∷ []))) (Err c.in-Err.failed) c.in-Err.ensures refl
