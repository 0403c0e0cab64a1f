use Rattle.sial_meaning.proofs.PardosKeepTheControl.OfTheCourse.{iterations_keep, pardos_keep}
use Rattle.sial_meaning.proofs.laws.course.pardos_keep_the_control.Goals as goal

pub returns : goal.returns
returns c = record { iterations = iterations_keep; pardos = pardos_keep }
