use Rattle.machine_worked.proofs.RunsAre.{barrier-recorded, first-recorded, chunks-recorded, small-recorded, tight-recorded, gone-recorded, again-recorded, disk-recorded, top-recorded}
use Rattle.machine_worked.proofs.worked_runs.Goals as goal

pub returns-clause-barrier : goal.returns-clause-barrier
returns-clause-barrier c = barrier-recorded

pub returns-clause-first : goal.returns-clause-first
returns-clause-first c = first-recorded

pub returns-clause-chunks : goal.returns-clause-chunks
returns-clause-chunks c = chunks-recorded

pub returns-clause-tight : goal.returns-clause-tight
returns-clause-tight c = tight-recorded

pub returns-clause-gone : goal.returns-clause-gone
returns-clause-gone c = gone-recorded

pub returns-clause-again : goal.returns-clause-again
returns-clause-again c = again-recorded

pub returns-clause-disk : goal.returns-clause-disk
returns-clause-disk c = disk-recorded

pub returns-clause-top : goal.returns-clause-top
returns-clause-top c = top-recorded

pub returns-clause-small : goal.returns-clause-small
returns-clause-small c = small-recorded
