use Rattle.std.proofs.Common.{rules, ◌<◌, ◌^◌, arith}
use Rattle.std.proofs.lemmas.Slice.{first_rest}
use Rattle.sial_syntax.specs.declared.operand.Slot.TheVariants.{At}
use Rattle.exec_names.proofs.TurnLemmas.{turned}
use Rattle.exec_names.proofs.matching.+place_in_turn.Goals as goal

pub overflow_mul-result : goal.overflow_mul-result
overflow_mul-result t c =
    let known = turned c.args.spaces.now.spaces c.args.values.now c.args.dims.now c.args.slots.now _ _ _ _ c.args.turn c.slot_first-first.result c.slot_count.result c.range.result.1 c.args.counts.matches c.args.counts.places (first_rest c.args.dims.now 0 c.in-len1-up.len_at_least) (first_rest c.args.slots.now (At 0) c.in-len1-up-slots.len_at_least)
    c.requires.slots c.requires.turn c.requires.places c.requires.matches c.slot_first-first.ensures c.slot_count.ensures c.range.ensures.count in
    let short : c.args.counts.places < 2 ^ 32 = omega arith in
    let below = known.below 0 known.places_some in
    omega (arith, short, below)

pub place_in_turn-requires : goal.place_in_turn-requires
place_in_turn-requires t c =
    let known = turned c.args.spaces.now.spaces c.args.values.now c.args.dims.now c.args.slots.now _ _ _ _ c.args.turn c.slot_first-first.result c.slot_count.result c.range.result.1 c.args.counts.matches c.args.counts.places (first_rest c.args.dims.now 0 c.in-len1-up.len_at_least) (first_rest c.args.slots.now (At 0) c.in-len1-up-slots.len_at_least)
    c.requires.slots c.requires.turn c.requires.places c.requires.matches c.slot_first-first.ensures c.slot_count.ensures c.range.ensures.count in
    (search rules, (known.are, (known.rest, (known.places_behind, known.matches_behind))))

pub overflow_add-result : goal.overflow_add-result
overflow_add-result t c =
    let known = turned c.args.spaces.now.spaces c.args.values.now c.args.dims.now c.args.slots.now _ _ _ _ c.args.turn c.slot_first-first.result c.slot_count.result c.range.result.1 c.args.counts.matches c.args.counts.places (first_rest c.args.dims.now 0 c.in-len1-up.len_at_least) (first_rest c.args.slots.now (At 0) c.in-len1-up-slots.len_at_least)
    c.requires.slots c.requires.turn c.requires.places c.requires.matches c.slot_first-first.ensures c.slot_count.ensures c.range.ensures.count in
    let short : c.args.counts.places < 2 ^ 32 = omega arith in
    let below = known.below c.place_in_turn.result c.place_in_turn.ensures.within in
    omega (arith, short, below)

pub returns-in-len1-up-slots-clause-value : goal.returns-in-len1-up-slots-clause-value
returns-in-len1-up-slots-clause-value t c =
    let known = turned c.args.spaces.now.spaces c.args.values.now c.args.dims.now c.args.slots.now _ _ _ _ c.args.turn c.slot_first-first.result c.slot_count.result c.range.result.1 c.args.counts.matches c.args.counts.places (first_rest c.args.dims.now 0 c.in-len1-up.len_at_least) (first_rest c.args.slots.now (At 0) c.in-len1-up-slots.len_at_least)
    c.requires.slots c.requires.turn c.requires.places c.requires.matches c.slot_first-first.ensures c.slot_count.ensures c.range.ensures.count in
    known.place c.place_in_turn.result c.place_in_turn.ensures.value

pub returns-in-len1-up-slots-clause-within : goal.returns-in-len1-up-slots-clause-within
returns-in-len1-up-slots-clause-within t c =
    let known = turned c.args.spaces.now.spaces c.args.values.now c.args.dims.now c.args.slots.now _ _ _ _ c.args.turn c.slot_first-first.result c.slot_count.result c.range.result.1 c.args.counts.matches c.args.counts.places (first_rest c.args.dims.now 0 c.in-len1-up.len_at_least) (first_rest c.args.slots.now (At 0) c.in-len1-up-slots.len_at_least)
    c.requires.slots c.requires.turn c.requires.places c.requires.matches c.slot_first-first.ensures c.slot_count.ensures c.range.ensures.count in
    known.below c.place_in_turn.result c.place_in_turn.ensures.within
