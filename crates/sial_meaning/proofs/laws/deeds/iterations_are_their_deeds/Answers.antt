use Rattle.sial_meaning.proofs.IterationsAreTheirDeeds.Pardos.{iterations_are_deeds, pardos_are_deeds}
use Rattle.sial_meaning.proofs.IterationsAreTheirDeeds.Logs.{courses_are_deeds}
use Rattle.sial_meaning.proofs.laws.deeds.iterations_are_their_deeds.Goals as goal

pub returns : goal.returns
returns c = record { iterations = iterations_are_deeds; pardos = pardos_are_deeds; courses = courses_are_deeds }
