use Rattle.std.specs.Prelude.{codes, decimal}
use Rattle.std.proofs.Common.{◌∷◌, [], ◌++◌, Err, refl}
use Rattle.sip_files.proofs.SinkLemmas.{then_wrote, stopped}
use Rattle.sip_driver.specs.Kinds.{space_kind_of}
use Rattle.sip_driver.proofs.lines.write_space.Goals as goal

pub returns-in-Ok : goal.returns-in-Ok
returns-in-Ok g c =
    then_wrote {xs = codes "sip: space "} {ys = c.args.fault.now.name ++ (codes " " ++ (decimal c.args.fault.now.value ++ (codes ": " ++ (space_kind_of c.args.fault.now.kind ++ (10 ∷ [])))))} c.write_misfit.result c.in-Ok.ensures c.write_misfit.ensures

pub returns-in-Err : goal.returns-in-Err
returns-in-Err g c =
    stopped {xs = codes "sip: space "} (c.args.fault.now.name ++ (codes " " ++ (decimal c.args.fault.now.value ++ (codes ": " ++ (space_kind_of c.args.fault.now.kind ++ (10 ∷ [])))))) (Err c.in-Err.failed) c.in-Err.ensures refl
