use Rattle.sial_worked.proofs.FeaturesRun as runs
use Rattle.sial_worked.proofs.features.feature_programs.Goals as goal

pub returns : goal.returns
returns c = record {
  parts = runs.parts-runs;
  forms = runs.forms-runs;
  nested = runs.nested-runs;
  wheres = runs.wheres-runs;
  rooms = runs.rooms-runs;
  given = runs.given-runs;
  kept = runs.kept-runs;
  other_block = runs.other-block-runs;
  private = runs.private-runs;
  unset_after = runs.unset-after-runs;
  inserted = runs.inserted-runs;
  missing = runs.missing-runs;
  deleted_put = runs.deleted-put-runs;
  deleted_twice = runs.deleted-twice-runs;
  allocated_twice = runs.allocated-twice-runs;
  not_allocated = runs.not-allocated-runs;
  second_array = runs.second-array-runs;
  served_clash = runs.served-clash-runs;
  named = runs.named-runs;
  reset = runs.reset-runs;
  rounds = runs.rounds-runs;
  beats = runs.beats-runs;
  stale = runs.stale-runs;
  goes_on = runs.goes-on-runs;
}
