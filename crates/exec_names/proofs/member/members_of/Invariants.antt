use Rattle.std.proofs.Common.{◌≡◌, map, take, length}
use Rattle.sial_syntax.specs.Spaces.{Spaces}
use Rattle.sial_meaning.specs.Own.{Own}
use Rattle.exec_names.specs.Cutting.{IsCutAs}
use Rattle.exec_names.specs.Naming.{pair_of, tuple_of}
use Rattle.exec_names.proofs.member.members_of.Given as goal

-- the members up to here are written
abbrev pub invariant-loop-k : goal.invariant-loop-k
invariant-loop-k l = record {
  written : (spaces : Spaces) (o : Own) → IsCutAs spaces l.indices → o.values ≡ l.values → map pair_of (take l.k l.into) ≡ tuple_of spaces o (take l.k l.at);
  long : length l.into ≡ length l.at;
}
