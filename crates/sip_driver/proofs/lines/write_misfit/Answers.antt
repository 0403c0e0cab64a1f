use Rattle.std.specs.Prelude.{codes, decimal}
use Rattle.std.proofs.Common.{ℕ, List, ◌∷◌, [], ◌++◌, Err, ap, refl}
use Rattle.sip_files.proofs.SinkLemmas.{then_wrote, stopped}
use Rattle.sip_driver.specs.Kinds.{space_kind_of}
use Rattle.sip_driver.proofs.WroteLemmas.{same_text}
use Rattle.sip_driver.proofs.lines.write_misfit.Goals as goal

pub returns-in-Ok : goal.returns-in-Ok
returns-in-Ok g c =
    let rest = codes " " ++ (decimal c.args.fault.now.value ++ (codes ": " ++ (space_kind_of c.args.fault.now.kind ++ (10 ∷ [])))) in
    same_text (ap (λ (t : List ℕ). t ++ rest) c.as_slice.ensures)
    (then_wrote {xs = c.as_slice.result.now} {ys = rest} c.write_value.result c.in-Ok.ensures
    (same_text (ap (λ (kind : List ℕ). codes " " ++ (decimal c.args.fault.now.value ++ (codes ": " ++ (kind ++ (10 ∷ []))))) c.space_kind.ensures) c.write_value.ensures))

pub returns-in-Err : goal.returns-in-Err
returns-in-Err g c =
    let rest = codes " " ++ (decimal c.args.fault.now.value ++ (codes ": " ++ (space_kind_of c.args.fault.now.kind ++ (10 ∷ [])))) in
    same_text (ap (λ (t : List ℕ). t ++ rest) c.as_slice.ensures)
    (stopped {xs = c.as_slice.result.now} rest (Err c.in-Err.failed) c.in-Err.ensures refl)
