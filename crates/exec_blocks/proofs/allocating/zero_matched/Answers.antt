use Rattle.std.proofs.Common.{◌≡◌, ◌+◌, ◌<◌, ℕ, length, Some, refl, sym, ap, ◌∙◌, arith}
use Rattle.sip_setting.specs.Seen.{setting_of}
use Rattle.sial_meaning.specs.LocalStep.{all_allocated, matched}
use Rattle.sial_meaning.specs.Setting.{block_count, block_words, zeros}
use Rattle.block_seats.specs.Seated.{Seated}
use Rattle.block_seats.proofs.RoomLemmas.{room-after, room-here}
use Rattle.block_seats.proofs.LeavingLemmas.{leaves-then}
use Rattle.exec_blocks.specs.Kept.{Kept}
use Rattle.exec_blocks.proofs.AllocateLemmas.{are-of, changing-all, changing-one, laid-still, local-place, matched-below}
use Rattle.exec_blocks.proofs.allocating.zero_matched.Goals as goal

pub zero_block-requires-clause-room : goal.zero_block-requires-clause-room
zero_block-requires-clause-room c =
    let g = setting_of c.args.job.now in
    let s = c.spaces-spaces.result.now in
    let n = c.matched_number-number.result in
    let below = matched-below g s c.args.array n c.spaces-spaces.ensures.spaces c.spaces-spaces.ensures.arrays c.matched_number-number.ensures.within in
    room-here c.loop-turn.pool c.loop-turn.seats c.args.first (block_count g c.args.array) (c.args.first + n) c.loop-turn.invariant.room (omega arith) (omega (arith, below))

pub zero_block-requires-clause-wide : goal.zero_block-requires-clause-wide
zero_block-requires-clause-wide c =
    let g = setting_of c.args.job.now in
    let s = c.spaces-spaces.result.now in
    let n = c.matched_number-number.result in
    let below = matched-below g s c.args.array n c.spaces-spaces.ensures.spaces c.spaces-spaces.ensures.arrays c.matched_number-number.ensures.within in
    c.loop-turn.invariant.leaves.wide (block_words g c.args.array n) (c.requires.wide c.args.array n c.requires.local below)

pub loop-turn-preserved : goal.loop-turn-preserved
loop-turn-preserved c =
    let g = setting_of c.args.job.now in
    let s = c.spaces-spaces.result.now in
    let n = c.matched_number-number.result in
    let below = matched-below g s c.args.array n c.spaces-spaces.ensures.spaces c.spaces-spaces.ensures.arrays c.matched_number-number.ensures.within in
    record {
      room = room-after c.args.first (block_count g c.args.array) (c.args.first + n) (zeros g c.args.array n) c.loop-turn.invariant.room (omega arith) (omega (arith, below)) c.zero_block.ensures;
      places = c.zero_block.ensures.places ∙ c.loop-turn.invariant.places;
      leaves = leaves-then c.loop-turn.invariant.leaves c.zero_block.ensures.leaves;
      changes = λ b own same laid at now stands.
          let there = c.matched_number-number.ensures.value g own (are-of g own s c.args.values.now c.spaces-spaces.ensures.spaces c.spaces-spaces.ensures.arrays now) in
          changing-one g b c.loop-turn.seats c.zero_block.new.seats (all_allocated g c.args.array) (λ k. Some (zeros g c.args.array k)) (matched g own c.args.array c.args.slots.now) c.args.array c.loop-turn.turn n (c.args.first + n) _ (λ k ks o. refl)
          (laid-still g b c.loop-turn.seats (c.loop-turn.invariant.places ∙ sym (ap (λ (x : Seated). length x.slots) same)) laid) c.requires.local below there (local-place g b c.args.array n c.args.first at) c.zero_block.ensures
          (c.loop-turn.invariant.changes b own same laid at now stands);
    }

pub returns-clause-does : goal.returns-clause-does
returns-clause-does c = λ b own same laid at now stands.
    let g = setting_of c.args.job.now in
    let s = c.spaces-spaces.result.now in
    let long = c.matched_count-turn-end.ensures.value g own (are-of g own s c.args.values.now c.spaces-spaces.ensures.spaces c.spaces-spaces.ensures.arrays now) in
    changing-all g c.loop-turn.pool (record b { seats = c.loop-turn.seats }) (all_allocated g c.args.array) (matched g own c.args.array c.args.slots.now) c.loop-turn.turn _ (λ o. refl) (omega (arith, long, c.loop-turn-test.false))
    (c.loop-turn.invariant.changes b own same laid at now stands)
