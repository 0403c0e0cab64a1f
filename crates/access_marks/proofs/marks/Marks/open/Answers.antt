use Rattle.std.proofs.Common.{None, map, rules, refl, ap, ◌∙◌}
use Rattle.access_marks.specs.Marks.{mark_of}
use Rattle.access_marks.specs.declared.marks.Slot.{Slot}
use Rattle.access_marks.proofs.MarksLemmas.{marks-replicate}
use Rattle.access_marks.proofs.marks.Marks.open.Goals as goal

pub returns : goal.returns
returns c =
    let slot : Slot = record { epoch = 0; line = 0; kind = None } in
    ap (map mark_of) (c.in_ok-vec.ensures.items_if_clones_equal (search rules)) ∙ marks-replicate c.args.blocks slot None refl
