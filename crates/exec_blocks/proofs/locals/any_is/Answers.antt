use Rattle.std.proofs.Common.{◌≡◌, ◌+◌, ℕ, length, true, false, refl, sym, ap, ◌∙◌, arith}
use Rattle.std.specs.Prelude.{is_some}
use Rattle.sip_setting.specs.Seen.{setting_of}
use Rattle.sial_meaning.specs.LocalStep.{is_allocated, matched}
use Rattle.block_pool.specs.Standing.{lease_at}
use Rattle.block_seats.specs.Seated.{Seated}
use Rattle.exec_blocks.specs.Allocating.{is_as}
use Rattle.exec_blocks.proofs.AllocateLemmas.{any-end, any-none, any-one, are-of, local-place, match-here, matched-below, slot-allocated}
use Rattle.exec_blocks.proofs.locals.any_is.Goals as goal

pub matched_count-turn-end-requires : goal.matched_count-turn-end-requires
matched_count-turn-end-requires c =
    record {
      fits = match-here (setting_of c.args.job.now) c.spaces-spaces.result.now c.args.values.now c.args.array c.args.slots.now c.spaces-spaces.ensures.spaces c.spaces-spaces.ensures.arrays c.requires.fits;
    }

pub loop-turn-init : goal.loop-turn-init
loop-turn-init c = λ p b own same at now stands. refl

pub matched_number-number-requires-clause-fits : goal.matched_number-number-requires-clause-fits
matched_number-number-requires-clause-fits c =
    match-here (setting_of c.args.job.now) c.spaces-spaces.result.now c.args.values.now c.args.array c.args.slots.now c.spaces-spaces.ensures.spaces c.spaces-spaces.ensures.arrays c.requires.fits

pub overflow_add-first : goal.overflow_add-first
overflow_add-first c =
    let below = matched-below (setting_of c.args.job.now) c.spaces-spaces.result.now c.args.array c.matched_number-number.result c.spaces-spaces.ensures.spaces c.spaces-spaces.ensures.arrays c.matched_number-number.ensures.within in
    omega (arith, below, c.requires.short)

pub is_held-requires : goal.is_held-requires
is_held-requires c =
    let below = matched-below (setting_of c.args.job.now) c.spaces-spaces.result.now c.args.array c.matched_number-number.result c.spaces-spaces.ensures.spaces c.spaces-spaces.ensures.arrays c.matched_number-number.ensures.within in
    omega (arith, below, c.requires.within)

pub returns-then-is_wanted : goal.returns-then-is_wanted
returns-then-is_wanted c = λ p b own same at now stands.
    let g = setting_of c.args.job.now in
    let s = c.spaces-spaces.result.now in
    let n = c.matched_number-number.result in
    let below = matched-below g s c.args.array n c.spaces-spaces.ensures.spaces c.spaces-spaces.ensures.arrays c.matched_number-number.ensures.within in
    let there = c.matched_number-number.ensures.value g own (are-of g own s c.args.values.now c.spaces-spaces.ensures.spaces c.spaces-spaces.ensures.arrays now) in
    let held : is_some (lease_at c.args.seats.now.slots (c.args.first + n)) ≡ is_allocated own c.args.array n =
    ap (λ (x : Seated). is_some (lease_at x.slots (c.args.first + n))) (sym same) ∙ slot-allocated g p b own c.args.array n (c.args.first + n) c.requires.local below stands (local-place g b c.args.array n c.args.first at) in
    any-one (λ (k : ℕ). is_as c.args.allocated (is_allocated own c.args.array k)) (matched g own c.args.array c.args.slots.now) c.loop-turn.turn n
    _ there (ap (is_as c.args.allocated) (sym held ∙ sym c.is_held.ensures) ∙ (sym c.is_wanted.ensures ∙ c.if-is_wanted.true)) (c.loop-turn.invariant p b own same at now stands)

pub loop-turn-preserved : goal.loop-turn-preserved
loop-turn-preserved c = λ p b own same at now stands.
    let g = setting_of c.args.job.now in
    let s = c.spaces-spaces.result.now in
    let n = c.matched_number-number.result in
    let below = matched-below g s c.args.array n c.spaces-spaces.ensures.spaces c.spaces-spaces.ensures.arrays c.matched_number-number.ensures.within in
    let there = c.matched_number-number.ensures.value g own (are-of g own s c.args.values.now c.spaces-spaces.ensures.spaces c.spaces-spaces.ensures.arrays now) in
    let held : is_some (lease_at c.args.seats.now.slots (c.args.first + n)) ≡ is_allocated own c.args.array n =
    ap (λ (x : Seated). is_some (lease_at x.slots (c.args.first + n))) (sym same) ∙ slot-allocated g p b own c.args.array n (c.args.first + n) c.requires.local below stands (local-place g b c.args.array n c.args.first at) in
    any-none (λ (k : ℕ). is_as c.args.allocated (is_allocated own c.args.array k)) (matched g own c.args.array c.args.slots.now) c.loop-turn.turn n
    _ there (ap (is_as c.args.allocated) (sym held ∙ sym c.is_held.ensures) ∙ (sym c.is_wanted.ensures ∙ c.if-is_wanted.false)) (c.loop-turn.invariant p b own same at now stands)

pub returns : goal.returns
returns c = λ p b own same at now stands.
    let g = setting_of c.args.job.now in
    let s = c.spaces-spaces.result.now in
    let long = c.matched_count-turn-end.ensures.value g own (are-of g own s c.args.values.now c.spaces-spaces.ensures.spaces c.spaces-spaces.ensures.arrays now) in
    any-end (λ (k : ℕ). is_as c.args.allocated (is_allocated own c.args.array k)) (matched g own c.args.array c.args.slots.now) c.loop-turn.turn
    _ (omega (arith, long, c.loop-turn-test.false)) (c.loop-turn.invariant p b own same at now stands)
