use Rattle.std.proofs.Common.{◌∙◌, sym}
use Rattle.exec_assign.proofs.PartLemmas.{part_named, part_of, part_uncut}
use Rattle.exec_assign.proofs.parts.is_part.Goals as goal

pub returns-then-has : goal.returns-then-has
returns-then-has c = λ spaces cut. part_named spaces c.args.target.now c.args.index (sym c.has.ensures ∙ c.if-has.true)

pub returns-in-Some : goal.returns-in-Some
returns-in-Some c = λ spaces cut.
    c.has-in-Some.ensures ∙ sym (part_of spaces c.args.indices.now c.args.target.now c.args.index c.in-Some.whole cut (sym c.has.ensures ∙ c.if-has.false) (sym c.super_of.ensures ∙ c.in-Some.is))

pub returns-in-None : goal.returns-in-None
returns-in-None c = λ spaces cut. sym (part_uncut spaces c.args.indices.now c.args.target.now c.args.index cut (sym c.super_of.ensures ∙ c.in-None.is))
