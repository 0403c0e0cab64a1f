use Rattle.std.proofs.Common.{refl, sym, ap, ◌∙◌}
use Rattle.sip_setting.specs.Seen.{setting_of}
use Rattle.sial_meaning.specs.Right.{is_insertion}
use Rattle.exec_sides.specs.declared.side.Side.{Side}
use Rattle.exec_sides.specs.declared.side.Side.TheVariants.{Alone}
use Rattle.exec_sides.specs.declared.side.Term.{Term}
use Rattle.exec_sides.specs.Seen.{side_of}
use Rattle.exec_assign.proofs.ExtentLemmas.{cut_here}
use Rattle.exec_assign.proofs.parts.is_insertion.Goals as goal

pub returns-in-Block : goal.returns-in-Block
returns-in-Block c =
    let g = setting_of c.args.job.now in
    let side = c.in-Alone.is ∙ ap (λ (t : Term). Alone t) c.in-Block.is in
    c.is_any_part.ensures g.spaces (cut_here g g.spaces c.indices.result.now c.indices.ensures.sound refl c.indices.ensures.value)
    ∙ sym (ap (λ (s : Side). is_insertion g.spaces c.args.target.now (side_of s)) side)
