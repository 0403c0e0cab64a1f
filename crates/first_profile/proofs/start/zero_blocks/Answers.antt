use Rattle.std.proofs.Common.{ℕ, map, replicate}
use Rattle.std.proofs.lemmas.List.{map_push}
use Rattle.sip_setting.specs.Seen.{setting_of}
use Rattle.first_profile.specs.Running.{only_index, segment_len}
use Rattle.first_profile.proofs.NumbersFrom.{one_more}
use Rattle.first_profile.proofs.start.zero_blocks.Goals as goal

pub loop-turn-preserved : goal.loop-turn-preserved
loop-turn-preserved c =
    rw (
      c.in_ok-push.ensures.items,
      map_push (λ b. b.items) c.loop-turn.blocks.items c.in_ok-zero_block.field-0,
      c.in_ok-zero_block.ensures,
      one_more (λ (k : ℕ). replicate (segment_len (setting_of c.args.granted.now) (only_index c.as_slice.result.now) k) 0) (map (λ b. b.items) c.loop-turn.blocks.items) c.range-first.result.0 c.loop-turn.turn c.range-first.result.1 c.loop-turn-test.true,
    ) c.loop-turn.invariant
