use Rattle.sial_meaning.proofs.EpochsAlongTheCourse.Deeds.{steps_touch_in_epochs, blocks_are_copies_written}
use Rattle.sial_meaning.proofs.EpochsAlongTheCourse.Points.{epochs_rise, one_epoch_one_copy}
use Rattle.sial_meaning.proofs.laws.along.epochs_along_the_course.Goals as goal

pub returns : goal.returns
returns c = record { rise = epochs_rise; copies = one_epoch_one_copy; touches = steps_touch_in_epochs; blocks = blocks_are_copies_written }
