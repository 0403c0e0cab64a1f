use Rattle.std.proofs.Common.{◌≡◌, drop, length}
use Rattle.sip_setting.specs.Seen.{setting_of}
use Rattle.sial_syntax.specs.declared.array.ArrayKind.TheVariants.{Local}
use Rattle.sial_meaning.specs.LocalStep.{all_allocated, matched}
use Rattle.sial_meaning.specs.Own.{Own}
use Rattle.sial_meaning.specs.Setting.{block_count}
use Rattle.block_seats.specs.Counted.{HasRunRoom}
use Rattle.block_seats.specs.Leaving.{Leaves}
use Rattle.exec_blocks.specs.Kept.{Kept, place_by}
use Rattle.exec_blocks.specs.Standing.{BlocksStand, IsLaidOut}
use Rattle.exec_blocks.proofs.AllocateLemmas.{Changing}
use Rattle.exec_blocks.proofs.allocating.zero_matched.Given as goal

-- the matched blocks from here on are still to be allocated
abbrev pub invariant-loop-turn : goal.invariant-loop-turn
invariant-loop-turn l = record {
  room : HasRunRoom l.pool l.seats l.first (block_count (setting_of l.job) l.array);
  places : length l.seats.slots ≡ length l.fn.seats.slots;
  leaves : Leaves l.fn.pool l.pool l.fn.seats.slots l.seats.slots;
  changes : (b : Kept) (own : Own) → b.seats ≡ l.fn.seats → IsLaidOut (setting_of l.job) b → l.first ≡ place_by (setting_of l.job) b l.array 0 Local → own.values ≡ l.values → BlocksStand (setting_of l.job) l.fn.pool b own
      → Changing (setting_of l.job) l.pool (record b { seats = l.seats }) (all_allocated (setting_of l.job) l.array) (drop l.turn (matched (setting_of l.job) own l.array l.slots))
      (all_allocated (setting_of l.job) l.array (matched (setting_of l.job) own l.array l.slots) own);
}
