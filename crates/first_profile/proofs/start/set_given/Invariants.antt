use Rattle.std.proofs.Common.{◌≡◌, ◌-◌, map, drop, length}
use Rattle.index_spaces.specs.Starting.{given_of}
use Rattle.sip_setting.specs.Given.{given}
use Rattle.first_profile.specs.Running.{with_all_given}
use Rattle.first_profile.proofs.start.set_given.Given as goal

-- the last blocks are set
abbrev pub invariant-loop-turn : goal.invariant-loop-turn
invariant-loop-turn l = l.machine ≡ with_all_given (map given (map given_of (drop (length l.blocks - l.turn) l.blocks))) l.fn.machine
