use Rattle.std.proofs.Common.{List, sym, subst}
use Rattle.sip_setting.specs.Seen.{setting_of}
use Rattle.sial_syntax.specs.declared.operand.Slot.{Slot}
use Rattle.sip_tables.specs.declared.instruction.Operation.{Operation}
use Rattle.sip_tables.specs.declared.instruction.Operation.TheVariants as op
use Rattle.exec_blocks.specs.Allocating.{Answers}
use Rattle.exec_blocks.specs.Standing.{BlocksStand}
use Rattle.exec_core.specs.Locals.{op_changed}
use Rattle.exec_core.proofs.locals.change.Goals as goal

pub returns-in-Allocate-clause-does : goal.returns-in-Allocate-clause-does
returns-in-Allocate-clause-does c = λ own partials same st.
    let g = setting_of c.args.job.now in
    subst (λ (o : Operation). Answers (op_changed g o own partials) (BlocksStand g c.allocate.new.pool c.allocate.new.self) c.allocate.result) (sym c.in-Allocate.is)
    (subst (λ (slots : List Slot). Answers (op_changed g (op.Allocate c.in-Allocate.array slots) own partials) (BlocksStand g c.allocate.new.pool c.allocate.new.self) c.allocate.result) c.as_slice.ensures
    (c.allocate.ensures.does own partials same st))

pub returns-in-Deallocate-clause-does : goal.returns-in-Deallocate-clause-does
returns-in-Deallocate-clause-does c = λ own partials same st.
    let g = setting_of c.args.job.now in
    subst (λ (o : Operation). Answers (op_changed g o own partials) (BlocksStand g c.deallocate.new.pool c.deallocate.new.self) c.deallocate.result) (sym c.in-Deallocate.is)
    (subst (λ (slots : List Slot). Answers (op_changed g (op.Deallocate c.in-Deallocate.array slots) own partials) (BlocksStand g c.deallocate.new.pool c.deallocate.new.self) c.deallocate.result) c.as_slice-in-Deallocate.ensures
    (c.deallocate.ensures.does own partials same st))
