use Rattle.std.proofs.Common.{◌≡◌, drop}
use Rattle.index_spaces.specs.Given.{names_of, place_from}
use Rattle.index_spaces.proofs.names.array_place.Given as goal

-- the arrays that are left have the place that all have
abbrev pub invariant-loop-place : goal.invariant-loop-place
invariant-loop-place l = place_from l.place (names_of (drop l.place l.arrays)) l.name ≡ place_from 0 (names_of l.arrays) l.name
