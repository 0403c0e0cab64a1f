use Rattle.machine_worked.proofs.RunsAre.{clash-recorded, mix-recorded, twice-recorded}
use Rattle.machine_worked.proofs.worked_ends.Goals as goal

pub returns-clause-clash : goal.returns-clause-clash
returns-clause-clash c = clash-recorded

pub returns-clause-mix : goal.returns-clause-mix
returns-clause-mix c = mix-recorded

pub returns-clause-twice : goal.returns-clause-twice
returns-clause-twice c = twice-recorded
