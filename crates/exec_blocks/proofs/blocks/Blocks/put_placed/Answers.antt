use Rattle.std.proofs.Common.{ap}
use Rattle.sip_setting.specs.Seen.{setting_of}
use Rattle.exec_blocks.specs.Kept.{Kept}
use Rattle.exec_blocks.proofs.SeenLemmas.{seat-there}
use Rattle.exec_blocks.proofs.blocks.Blocks.put_placed.Goals as goal

pub put-requires-clause-at : goal.put-requires-clause-at
put-requires-clause-at c =
    seat-there (setting_of c.args.job.now) c.args.self.now c.args.values.now c.args.block.now c.self.inside.seats c.place-place.result (ap (λ (k : Kept). k.seats) c.self.view_is) c.place-place.ensures c.requires.stands.laid c.requires.named c.requires.own
