use Rattle.std.proofs.Common.{◌≡◌, ◌-◌, ◌<◌, ◌^◌, [], map, length}
use Rattle.sial_syntax.specs.Limits.{most_statements}
use Rattle.sial_syntax.specs.Tree.{procedure}
use Rattle.sial_parser.specs.Names.{seen}
use Rattle.sial_parser.specs.Parsing as spec
use Rattle.sial_parser.proofs.program.procs.Given as goal

-- the procedures so far, and those that are left
abbrev pub invariant-loop-turn : goal.invariant-loop-turn
invariant-loop-turn l = record {
  meaning : spec.procs l.strict (seen l.names) (257 - l.turn) (seen l.before) (map procedure l.procs.items) l.left l.rest ≡ spec.procs l.strict (seen l.names) 257 (seen l.fn.before) [] most_statements l.words;
  count : length l.procs.items ≡ l.turn;
  fewer : l.left < 2 ^ 16;
}
