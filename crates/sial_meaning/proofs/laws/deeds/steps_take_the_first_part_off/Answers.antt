use Rattle.sial_meaning.proofs.StepsTakeTheFirstPartOff.End.{iterations_end}
use Rattle.sial_meaning.proofs.StepsTakeTheFirstPartOff.Walk.{all_to_come, takes_first, done_and_to_come, beginnings_are_inside, steps_stay_inside, statements_inside}
use Rattle.sial_meaning.proofs.laws.deeds.steps_take_the_first_part_off.Goals as goal

pub returns : goal.returns
returns c = record { begins = all_to_come; step = takes_first; together = done_and_to_come; ends = iterations_end; inside = beginnings_are_inside; on = steps_stay_inside; statement = statements_inside }
