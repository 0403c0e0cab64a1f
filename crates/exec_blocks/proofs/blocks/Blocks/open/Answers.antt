use Rattle.std.proofs.Common.{◌≡◌, ◌≤◌, length, sym, ap, subst, arith}
use Rattle.sip_setting.specs.Seen.{setting_of}
use Rattle.sial_meaning.specs.Own.{start_own}
use Rattle.block_seats.specs.Counted.{HasRunRoom}
use Rattle.block_seats.specs.Seated.{Seated}
use Rattle.exec_blocks.specs.Beginning.{static_blocks}
use Rattle.exec_blocks.specs.Kept.{Kept}
use Rattle.exec_blocks.specs.Standing.{BlocksStand}
use Rattle.exec_blocks.proofs.BeginLemmas.{room-none}
use Rattle.exec_blocks.proofs.StartLemmas.{start-stands}
use Rattle.exec_blocks.proofs.blocks.Blocks.open.Goals as goal

pub put_statics-requires-clause-room : goal.put_statics-requires-clause-room
put_statics-requires-clause-room c =
    let g = setting_of c.args.job.now in
    let laid = c.in_ok-blocks.ensures.laid in
    let seats : c.blocks-2.inside.seats ≡ c.in_ok-blocks.blocks.seats = ap (λ (k : Kept). k.seats) c.blocks-2.view_is in
    let many : static_blocks g ≤ length c.in_ok-blocks.blocks.seats.slots = omega (arith, laid.locals_at, laid.temps_at, laid.places) in
    subst (λ (s : Seated). HasRunRoom c.args.pool.now s 0 (static_blocks g)) (sym seats)
    (room-none g c.args.pool.now c.in_ok-blocks.blocks.seats c.requires.sound c.in_ok-blocks.ensures.none many c.requires.room)

pub returns-clause-begins : goal.returns-clause-begins
returns-clause-begins c =
    let g = setting_of c.args.job.now in
    subst (λ (k : Kept). BlocksStand g c.put_statics.new.pool k (start_own g)) (sym (ap (λ (k : Kept). record k { seats = c.put_statics.new.seats }) c.blocks-2.view_is))
    (start-stands g c.in_ok-blocks.blocks c.put_statics.new.seats (length c.blocks-2.inside.seats.slots) c.in_ok-blocks.ensures.laid c.put_statics.ensures.opens c.put_statics.ensures.start)
