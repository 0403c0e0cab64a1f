use Rattle.std.proofs.Common.{◌≡◌, ◌+◌, ◌-◌, map, fold, max}
use Rattle.sial_syntax.specs.Boxes.{numbers_from}
use Rattle.sial_syntax.specs.Spaces.{segment}
use Rattle.index_spaces.proofs.spaces.Spaces.widest_segment.Given as goal

-- the widest so far and those that are left have the width of all
abbrev pub invariant-loop-k : goal.invariant-loop-k
invariant-loop-k l =
    fold max l.widest (map (λ k. (segment l.self.spaces l.kind k).len) (numbers_from (l.first + l.k) (l.count - l.k)))
    ≡ fold max 0 (map (λ k. (segment l.self.spaces l.kind k).len) (numbers_from l.first l.count))
