use Rattle.std.proofs.Common.{◌≡◌, ℕ, drop}
use Rattle.std.specs.List.{list_any}
use Rattle.sip_setting.specs.Seen.{setting_of}
use Rattle.sial_syntax.specs.declared.array.ArrayKind.TheVariants.{Local}
use Rattle.sial_meaning.specs.LocalStep.{is_allocated, matched}
use Rattle.sial_meaning.specs.Own.{Own}
use Rattle.block_pool.specs.Memory.{Memory}
use Rattle.exec_blocks.specs.Allocating.{is_as}
use Rattle.exec_blocks.specs.Kept.{Kept, place_by}
use Rattle.exec_blocks.specs.Standing.{BlocksStand}
use Rattle.exec_blocks.proofs.locals.any_is.Given as goal

-- none of the matched blocks up to here is as wanted
abbrev pub invariant-loop-turn : goal.invariant-loop-turn
invariant-loop-turn l =
    (p : Memory) (b : Kept) (own : Own) → b.seats ≡ l.seats → l.first ≡ place_by (setting_of l.job) b l.array 0 Local → own.values ≡ l.values → BlocksStand (setting_of l.job) p b own
    → list_any (λ (n : ℕ). is_as l.allocated (is_allocated own l.array n)) (drop l.turn (matched (setting_of l.job) own l.array l.slots))
    ≡ list_any (λ (n : ℕ). is_as l.allocated (is_allocated own l.array n)) (matched (setting_of l.job) own l.array l.slots)
