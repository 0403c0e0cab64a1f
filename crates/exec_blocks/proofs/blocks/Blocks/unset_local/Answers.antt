use Rattle.std.proofs.Common.{sym, ap, ◌∙◌}
use Rattle.sip_setting.specs.Seen.{setting_of}
use Rattle.sial_syntax.specs.declared.classes.Side.{Side}
use Rattle.exec_blocks.specs.Clearing.{left_of}
use Rattle.exec_blocks.proofs.ClearLemmas.{forgets-more}
use Rattle.exec_blocks.proofs.blocks.Blocks.unset_local.Goals as goal

pub returns-in-Inner-clause-forgets : goal.returns-in-Inner-clause-forgets
returns-in-Inner-clause-forgets c = λ p s done.
    forgets-more (setting_of c.args.job.now) c.args.self.now c.args.array c.requires.stands.laid (sym c.array_kind.ensures ∙ c.in-Local.is)
    (λ block. ap (λ (side : Side). left_of side block) (sym c.side.ensures ∙ c.in-Inner.is)) done c.clear_local.ensures.clears
