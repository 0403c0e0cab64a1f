use Rattle.code_places.proofs.Procedures.{procedures_follow}
use Rattle.code_places.proofs.ControlLemmas.{control_follows}
use Rattle.code_places.proofs.StepLemmas.{step_follows, steps_follow}
use Rattle.code_places.proofs.laws.steps_keep_to_the_code.Goals as goal

pub returns : goal.returns
returns c = record { procedures = procedures_follow; control = control_follows; step = step_follows; steps = steps_follow }
