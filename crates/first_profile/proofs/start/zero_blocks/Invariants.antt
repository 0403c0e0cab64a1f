use Rattle.std.proofs.Common.{◌≡◌, ◌+◌, ◌-◌, ◌++◌, map, replicate}
use Rattle.sial_syntax.specs.Boxes.{numbers_from}
use Rattle.sip_setting.specs.Seen.{setting_of}
use Rattle.first_profile.specs.Running.{segment_len}
use Rattle.first_profile.proofs.start.zero_blocks.Given as goal

-- the blocks so far, and those that are left
abbrev pub invariant-loop-turn : goal.invariant-loop-turn
invariant-loop-turn l =
    (map (λ b. b.items) l.blocks.items ++ map (λ k. replicate (segment_len (setting_of l.granted) l.index k) 0) (numbers_from (l.first + l.turn) (l.count - l.turn)))
    ≡ map (λ k. replicate (segment_len (setting_of l.granted) l.index k) 0) (numbers_from l.first l.count)
