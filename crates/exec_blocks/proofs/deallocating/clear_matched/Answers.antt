use Rattle.std.proofs.Common.{◌≡◌, ◌+◌, ◌<◌, ℕ, length, None, refl, sym, ap, ◌∙◌, arith}
use Rattle.sip_setting.specs.Seen.{setting_of}
use Rattle.sial_meaning.specs.LocalStep.{all_deallocated, matched}
use Rattle.block_seats.specs.Seated.{Seated}
use Rattle.block_seats.proofs.LeavingLemmas.{leaves-then}
use Rattle.exec_blocks.specs.Kept.{Kept}
use Rattle.exec_blocks.proofs.AllocateLemmas.{are-of, changing-all, changing-one, laid-still, local-place, matched-below}
use Rattle.exec_blocks.proofs.deallocating.clear_matched.Goals as goal

pub loop-turn-preserved : goal.loop-turn-preserved
loop-turn-preserved c =
    let g = setting_of c.args.job.now in
    let s = c.spaces-spaces.result.now in
    let n = c.matched_number-number.result in
    let below = matched-below g s c.args.array n c.spaces-spaces.ensures.spaces c.spaces-spaces.ensures.arrays c.matched_number-number.ensures.within in
    record {
      stands = c.clear.ensures.stands;
      places = c.clear.ensures.places ∙ c.loop-turn.invariant.places;
      leaves = leaves-then c.loop-turn.invariant.leaves c.clear.ensures.leaves;
      changes = λ b own same laid at now stands.
          let there = c.matched_number-number.ensures.value g own (are-of g own s c.args.values.now c.spaces-spaces.ensures.spaces c.spaces-spaces.ensures.arrays now) in
          changing-one g b c.loop-turn.seats c.clear.new.self (all_deallocated c.args.array) (λ k. None) (matched g own c.args.array c.args.slots.now) c.args.array c.loop-turn.turn n (c.args.first + n) _ (λ k ks o. refl)
          (laid-still g b c.loop-turn.seats (c.loop-turn.invariant.places ∙ sym (ap (λ (x : Seated). length x.slots) same)) laid) c.requires.local below there (local-place g b c.args.array n c.args.first at) c.clear.ensures
          (c.loop-turn.invariant.changes b own same laid at now stands);
    }

pub returns-clause-does : goal.returns-clause-does
returns-clause-does c = λ b own same laid at now stands.
    let g = setting_of c.args.job.now in
    let s = c.spaces-spaces.result.now in
    let long = c.matched_count-turn-end.ensures.value g own (are-of g own s c.args.values.now c.spaces-spaces.ensures.spaces c.spaces-spaces.ensures.arrays now) in
    changing-all g c.loop-turn.pool (record b { seats = c.loop-turn.seats }) (all_deallocated c.args.array) (matched g own c.args.array c.args.slots.now) c.loop-turn.turn _ (λ o. refl) (omega (arith, long, c.loop-turn-test.false))
    (c.loop-turn.invariant.changes b own same laid at now stands)
