use Rattle.std.proofs.Common.{◌≡◌, drop, length}
use Rattle.sip_setting.specs.Seen.{setting_of}
use Rattle.sial_syntax.specs.declared.array.ArrayKind.TheVariants.{Local}
use Rattle.sial_meaning.specs.LocalStep.{all_deallocated, matched}
use Rattle.sial_meaning.specs.Own.{Own}
use Rattle.block_seats.specs.Leaving.{Leaves}
use Rattle.block_seats.specs.Seated.{SeatsStand}
use Rattle.exec_blocks.specs.Kept.{Kept, place_by}
use Rattle.exec_blocks.specs.Standing.{BlocksStand, IsLaidOut}
use Rattle.exec_blocks.proofs.AllocateLemmas.{Changing}
use Rattle.exec_blocks.proofs.deallocating.clear_matched.Given as goal

-- the matched blocks from here on are still to be taken away
abbrev pub invariant-loop-turn : goal.invariant-loop-turn
invariant-loop-turn l = record {
  stands : SeatsStand l.pool l.seats;
  places : length l.seats.slots ≡ length l.fn.seats.slots;
  leaves : Leaves l.fn.pool l.pool l.fn.seats.slots l.seats.slots;
  changes : (b : Kept) (own : Own) → b.seats ≡ l.fn.seats → IsLaidOut (setting_of l.job) b → l.first ≡ place_by (setting_of l.job) b l.array 0 Local → own.values ≡ l.values → BlocksStand (setting_of l.job) l.fn.pool b own
      → Changing (setting_of l.job) l.pool (record b { seats = l.seats }) (all_deallocated l.array) (drop l.turn (matched (setting_of l.job) own l.array l.slots))
      (all_deallocated l.array (matched (setting_of l.job) own l.array l.slots) own);
}
