use Rattle.code_places.proofs.LeadLemmas.{control_is_led}
use Rattle.code_places.proofs.StepLeads.{step_is_led}
use Rattle.code_places.proofs.laws.instructions_lead_the_cursor.Goals as goal

pub returns : goal.returns
returns c = record { control = control_is_led; step = step_is_led }
