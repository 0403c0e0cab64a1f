use Rattle.std.proofs.Common.{◌≡◌, sym, ap, ◌∙◌, arith, length}
use Rattle.sip_setting.specs.Seen.{setting_of}
use Rattle.exec_blocks.specs.Kept.{Kept}
use Rattle.exec_blocks.proofs.PlaceLemmas.{local-placed, temp-placed}
use Rattle.exec_blocks.proofs.blocks.Blocks.place.Goals as goal

pub overflow_add-result : goal.overflow_add-result
overflow_add-result c =
    let g = setting_of c.args.job.now in
    let placed = local-placed g c.args.self.now c.args.block.now.array _ c.requires.stands (sym c.array_kind.ensures ∙ c.in-Local.is) c.place_among-in-Local.ensures.within in
    let begins : c.self.inside.locals_at ≡ c.args.self.now.locals_at = ap (λ (b : Kept). b.locals_at) c.self.view_is in
    let many : length c.self.inside.seats.slots ≡ length c.args.self.now.seats.slots = ap (λ (b : Kept). length b.seats.slots) c.self.view_is in
    omega (arith, placed, begins, many, c.len-places.ensures, c.len-places.type_inv, c.place_among-in-Local.ensures.value)

pub overflow_add-result-in-Temp : goal.overflow_add-result-in-Temp
overflow_add-result-in-Temp c =
    let g = setting_of c.args.job.now in
    let placed = temp-placed g c.args.self.now c.args.block.now.array c.requires.stands c.requires.named.declared in
    let begins : c.self.inside.temps_at ≡ c.args.self.now.temps_at = ap (λ (b : Kept). b.temps_at) c.self.view_is in
    let many : length c.self.inside.seats.slots ≡ length c.args.self.now.seats.slots = ap (λ (b : Kept). length b.seats.slots) c.self.view_is in
    omega (arith, placed, begins, many, c.len-places.ensures, c.len-places.type_inv)
