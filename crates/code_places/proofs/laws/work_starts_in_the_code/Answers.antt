use Rattle.code_places.proofs.Pushing.{work_starts, starts_without_calls}
use Rattle.code_places.proofs.laws.work_starts_in_the_code.Goals as goal

pub returns-clause-starts : goal.returns-clause-starts
returns-clause-starts c = work_starts

pub returns-clause-calls : goal.returns-clause-calls
returns-clause-calls c = starts_without_calls
