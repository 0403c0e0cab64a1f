use Rattle.std.proofs.Common.{map, sym, ap, refl, ◌∙◌}
use Rattle.std.specs.List.{list_any}
use Rattle.sip_setting.specs.Seen.{setting_of}
use Rattle.sial_syntax.specs.declared.operand.BlockRef.{BlockRef}
use Rattle.sial_syntax.specs.declared.operand.Operand.{Operand}
use Rattle.sial_meaning.specs.LocalStep.{shared_operand}
use Rattle.sial_meaning.specs.Setting.{array_kind}
use Rattle.sial_meaning.specs.Statement.{is_missing}
use Rattle.exec_core.proofs.SharedLemmas.{missing_operand}
use Rattle.exec_core.proofs.local.Local.misses_operand.Goals as goal

pub returns-in-Block : goal.returns-in-Block
returns-in-Block c = λ own same.
    let g = setting_of c.args.job.now in
    c.misses.ensures own same
    ∙ (missing_operand g own c.in-Block.block (array_kind g c.in-Block.block.array) refl
    ∙ ap (λ (o : Operand). list_any (is_missing g own) (map (λ (b : BlockRef). b.array) (shared_operand g o))) (sym c.in-Block.is))
