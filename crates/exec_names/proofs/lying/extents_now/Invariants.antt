use Rattle.std.proofs.Common.{◌≡◌, map, take, length}
use Rattle.sial_syntax.specs.Spaces.{extent}
use Rattle.exec_names.specs.Naming.{extent_of}
use Rattle.exec_names.proofs.lying.extents_now.Given as goal

-- where the indices up to here lie is written
abbrev pub invariant-loop-k : goal.invariant-loop-k
invariant-loop-k l = record {
  written : map extent_of (take l.k l.into) ≡ map (extent l.spaces.spaces l.values) (take l.k l.at);
  long : length l.into ≡ length l.at;
}
