use Rattle.std.proofs.Common.{sym, ap, ◌∙◌}
use Rattle.sip_setting.specs.Seen.{setting_of}
use Rattle.sip_tables.specs.declared.instruction.Operation.{Operation}
use Rattle.exec_core.specs.Instructions.{op_trap}
use Rattle.exec_core.proofs.local.Local.trap.Goals as goal

pub returns-in-Assign : goal.returns-in-Assign
returns-in-Assign c = λ own same. c.unless_operands.ensures own same ∙ ap (λ (o : Operation). op_trap (setting_of c.args.job.now) o own) (sym c.in-Assign.is)
