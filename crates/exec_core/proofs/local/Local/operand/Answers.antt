use Rattle.std.proofs.Common.{map, sym, ap, ◌∙◌}
use Rattle.sip_setting.specs.Seen.{setting_of}
use Rattle.sial_syntax.specs.declared.operand.Operand.{Operand}
use Rattle.sial_meaning.specs.LocalStep.{shared_operand}
use Rattle.sial_meaning.specs.Statement.{named}
use Rattle.exec_core.proofs.local.Local.operand.Goals as goal

pub returns-in-Block : goal.returns-in-Block
returns-in-Block c = λ own same.
    c.if_shared.ensures own same ∙ ap (λ (o : Operand). map (named (setting_of c.args.job.now) own) (shared_operand (setting_of c.args.job.now) o)) (sym c.in-Block.is)
