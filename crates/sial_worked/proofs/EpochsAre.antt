-- What epoch meanings and their courses come to.
use Rattle.std.proofs.Common.{refl}
use Rattle.sial_worked.specs.Clash.{ClashByEpochs}
use Rattle.sial_worked.specs.GoesOn.{GoesOnCourse}
use Rattle.sial_worked.specs.Stale.{StaleByEpochs}

pub clash-by-epochs : ClashByEpochs
clash-by-epochs = record { ends = refl; refused = refl; created = refl; pardo = refl; over = refl; traps = refl }

pub stale-by-epochs : StaleByEpochs
stale-by-epochs = record { ends = refl; refused = refl }

pub goes-on-course : GoesOnCourse
goes-on-course = record { created = refl; pardo = refl; traps = refl; printed = refl; over = refl; stays = refl; fold = refl }
