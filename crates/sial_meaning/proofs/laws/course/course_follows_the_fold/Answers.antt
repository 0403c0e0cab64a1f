use Rattle.sial_meaning.proofs.CourseFollowsTheFold.Steps.{course_goes_on}
use Rattle.sial_meaning.proofs.CourseFollowsTheFold.Walk.{follows_fold, first_trap, steps_reach_it}
use Rattle.sial_meaning.proofs.laws.course.course_follows_the_fold.Goals as goal

pub returns : goal.returns
returns c = record { follows = follows_fold; first_trap = first_trap; reached = steps_reach_it; goes_on = course_goes_on }
