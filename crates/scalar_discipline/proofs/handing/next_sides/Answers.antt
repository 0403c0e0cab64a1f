use Rattle.std.proofs.Common.{map, sym, ap, ◌∙◌}
use Rattle.scalar_discipline.specs.Calls.{lists}
use Rattle.scalar_discipline.specs.Flat.{outside, sides_of}
use Rattle.scalar_discipline.specs.Handing.{hand_on, handed, handed_by, nowhere}
use Rattle.scalar_discipline.proofs.HandLemmas.{hand_append}
use Rattle.scalar_discipline.proofs.handing.next_sides.Goals as goal

pub returns : goal.returns
returns c =
    let calls = lists c.args.calls.now in
    let others = handed_by (map sides_of c.args.sides.now) 0 calls in
    c.hand_all.ensures
    ∙ (ap (hand_on others) (c.hand_on.ensures ∙ ap (hand_on (handed outside c.args.body.now)) c.in_ok-given.ensures)
    ∙ sym (hand_append (handed outside c.args.body.now) others (nowhere calls)))
