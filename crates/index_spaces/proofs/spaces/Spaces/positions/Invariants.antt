use Rattle.std.proofs.Common.{◌≡◌, ◌*◌, ◌^◌, ◌≤◌}
use Rattle.std.specs.Prelude.{sum_by}
use Rattle.sial_syntax.specs.Boxes.{numbers_from}
use Rattle.sial_syntax.specs.Spaces.{segment}
use Rattle.index_spaces.proofs.spaces.Spaces.positions.Given as goal

-- the positions of the segments up to here
abbrev pub invariant-loop-turn : goal.invariant-loop-turn
invariant-loop-turn l = record {
  counted : l.positions ≡ sum_by (λ k. (segment l.self.spaces l.kind k).len) (numbers_from l.first l.turn);
  few : l.positions ≤ l.turn * 2 ^ 32;
}
