use Rattle.std.proofs.Common.{◌++◌, ap, ◌∙◌}
use Rattle.sial_syntax.specs.Tree.{tree}
use Rattle.sial_printer.proofs.Writes.{first_failed, both_wrote}
use Rattle.std.proofs.Common.{◌-◌, take, drop, length}
use Rattle.std.specs.List.{flat_map}
use Rattle.sial_printer.specs.Parts.{further_slot}
use Rattle.sial_printer.proofs.SpacedLemmas.{first_slots}
use Rattle.sial_printer.proofs.lists.listed.Goals as goal

pub returns-in_err-write : goal.returns-in_err-write
returns-in_err-write g c =
    let xs = c.args.slots.now in
    let others = flat_map (further_slot (tree c.args.program.now)) (take (length xs - 1) (drop 1 xs)) in
    first_failed _ others c.from_residual.result c.in_err-write.ensures c.from_residual.ensures.0 (ap (λ h. h ++ others) c.slot_bytes.ensures ∙ first_slots (tree c.args.program.now) xs c.in-len1-up.len_at_least)

pub returns : goal.returns
returns g c =
    let xs = c.args.slots.now in
    let others = flat_map (further_slot (tree c.args.program.now)) (take (length xs - 1) (drop 1 xs)) in
    both_wrote _ c.all.result c.in_ok-write.ensures c.all.ensures (ap (λ h. h ++ others) c.slot_bytes.ensures ∙ first_slots (tree c.args.program.now) xs c.in-len1-up.len_at_least)
