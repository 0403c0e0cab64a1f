use Rattle.std.proofs.Common.{◌≡◌, ◌++◌, map, drop}
use Rattle.sip_setting.specs.Seen.{setting_of}
use Rattle.first_profile.specs.Running.{zero_blocks}
use Rattle.first_profile.proofs.start.zeros.Given as goal

-- the arrays so far, and those that are left
abbrev pub invariant-loop-array : goal.invariant-loop-array
invariant-loop-array l =
    (map (λ a. map (λ b. b.items) a.items) l.statics.items ++ map (zero_blocks (setting_of l.granted)) (drop l.array-index l.array-items))
    ≡ map (zero_blocks (setting_of l.granted)) l.array-items
