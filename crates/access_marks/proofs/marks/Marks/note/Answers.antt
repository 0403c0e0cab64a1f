use Rattle.std.proofs.Common.{◌≡◌, ◌<◌, Some, length, map, set, ap, arith, sym, ◌∙◌}
use Rattle.std.proofs.lemmas.List.{length-map, map-set}
use Rattle.sial_meaning.specs.Access.{mark_after}
use Rattle.access_marks.specs.Marks.{mark_at, mark_of}
use Rattle.access_marks.proofs.MarksLemmas.{mark_at-slot}
use Rattle.access_marks.proofs.marks.Marks.note.Goals as goal

pub returns-clause-noted : goal.returns-clause-noted
returns-clause-noted c =
    let slots = c.self.inside.slots.items in
    let low : c.args.block < length slots = omega (arith, c.requires, ap length c.self.view_is, length-map slots mark_of) in
    let noted : map mark_of (set slots c.args.block c.after.result) ≡ set (map mark_of slots) c.args.block
    (Some (mark_after (mark_at (map mark_of slots) c.args.block) c.args.epoch c.args.kind c.args.line)) =
    map-set mark_of slots c.args.block c.after.result
    ∙ ap (set (map mark_of slots) c.args.block)
    (c.after.ensures
    ∙ ap (λ m. Some (mark_after m c.args.epoch c.args.kind c.args.line)) (sym (mark_at-slot slots c.args.block c.index-slot.result.now low ∙ ap mark_of (sym c.index-slot.ensures)))) in
    rw c.self.view_is at noted
