use Rattle.std.proofs.Common.{◌≡◌, ◌+◌, ◌-◌, map, fold, max}
use Rattle.sial_syntax.specs.Boxes.{numbers_from}
use Rattle.sial_syntax.specs.Spaces.{pieces_of}
use Rattle.sequential_costs.proofs.cutting.most_pieces.Given as goal

-- the most so far and those that are left have the most of all
abbrev pub invariant-loop-k : goal.invariant-loop-k
invariant-loop-k l =
    fold max l.most (map (pieces_of l.spaces.spaces l.sub) (numbers_from (l.first + l.k) (l.count - l.k)))
    ≡ fold max 0 (map (pieces_of l.spaces.spaces l.sub) (numbers_from l.first l.count))
