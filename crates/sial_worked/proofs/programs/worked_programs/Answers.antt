use Rattle.sial_worked.proofs.ProgramsRun as runs
use Rattle.sial_worked.proofs.programs.worked_programs.Goals as goal

pub returns : goal.returns
returns c = record {
  plain = runs.plain-runs;
  barrier = runs.barrier-runs;
  first = runs.first-runs;
  wrap = runs.wrap-runs;
  small = runs.small-runs;
  clash = runs.clash-runs;
  clash_add = runs.clash-add-runs;
  clash_max = runs.clash-max-runs;
  mix = runs.mix-runs;
  apart = runs.apart-runs;
  order = runs.order-runs;
  order_open = runs.order-open-runs;
  order_served = runs.order-served-runs;
  gone = runs.gone-runs;
  again = runs.again-runs;
  twice = runs.twice-runs;
  turns = runs.turns-runs;
  chunks = runs.chunks-runs;
  chunks_three = runs.chunks-three-runs;
  chunks_none = runs.chunks-none-runs;
  tight = runs.tight-runs;
  shape = runs.shape-runs;
  disk = runs.disk-runs;
  top = runs.top-runs;
}
