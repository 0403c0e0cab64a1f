use Rattle.sial_meaning.proofs.EpochsAlongTheCourse.Points.{counts_rise, syncs_say_epochs, same_counts_one_point}
use Rattle.sial_meaning.proofs.laws.along.counts_along_the_course.Goals as goal

pub returns : goal.returns
returns c = record { rise = counts_rise; epochs = syncs_say_epochs; points = same_counts_one_point }
