use Rattle.std.proofs.Common.{◌≡◌, drop}
use Rattle.index_spaces.specs.Given.{place_from}
use Rattle.index_spaces.proofs.names.scalar_place.Given as goal

-- the scalars that are left have the place that all have
abbrev pub invariant-loop-place : goal.invariant-loop-place
invariant-loop-place l = place_from l.place (drop l.place l.scalars) l.name ≡ place_from 0 l.scalars l.name
