use Rattle.std.proofs.Common.{◌≡◌, ◌<◌, ℕ, Option, length, sym, ap, ◌∙◌, subst}
use Rattle.std.specs.Prelude.{IfSome}
use Rattle.sip_setting.specs.Seen.{setting_of}
use Rattle.sip_tables.specs.declared.instruction.Operation.{Operation}
use Rattle.sip_tables.specs.Flatten.{flatten}
use Rattle.sial_syntax.specs.declared.operand.BlockRef.{BlockRef}
use Rattle.sial_meaning.specs.Statement.{named}
use Rattle.exec_control.proofs.StandLemmas.{at_in_code}
use Rattle.exec_core.specs.Instructions.{IsShared, op_transferred}
use Rattle.exec_core.specs.Parts.{Parts}
use Rattle.exec_core.specs.Shared.{named_of}
use Rattle.exec_core.proofs.InstructionLemmas.{transferred_shared, transferred_told, transfers_four}
use Rattle.exec_core.proofs.StandLemmas.{range_now, says_at}
use Rattle.exec_core.proofs.local.Local.named.Goals as goal

pub instruction-instruction-requires : goal.instruction-instruction-requires
instruction-instruction-requires c =
    let g = setting_of c.args.job.now in
    let w = c.requires.transfers.1 in
    subst (λ (n : ℕ). n < length (flatten g.program).code) (sym (c.at.ensures ∙ ap (λ (l : Parts). l.control.at) c.self.view_is))
    (at_in_code g c.args.self.now.control w.rest w.own w.stands.control)

pub shared-requires : goal.shared-requires
shared-requires c =
    let g = setting_of c.args.job.now in
    let l = c.args.self.now in
    let w = c.requires.transfers.1 in
    let i = c.instruction-instruction.result.now in
    let says = says_at g l w.rest w.own i c.at.result w.stands.control (c.at.ensures ∙ ap (λ (q : Parts). q.control.at) c.self.view_is) c.instruction-instruction.ensures in
    subst (λ (o : Operation). IfSome (op_transferred o) (IsShared g l.control.values)) c.in-Get.is
    (transferred_shared g c.spaces-spaces.ensures.sound w.runs_well.indices l.control.values w.rest i (range_now g c.requires.transfers.0 l w) w.runs_well.good says)

pub shared-requires-in-Request : goal.shared-requires-in-Request
shared-requires-in-Request c =
    let g = setting_of c.args.job.now in
    let l = c.args.self.now in
    let w = c.requires.transfers.1 in
    let i = c.instruction-instruction.result.now in
    let says = says_at g l w.rest w.own i c.at.result w.stands.control (c.at.ensures ∙ ap (λ (q : Parts). q.control.at) c.self.view_is) c.instruction-instruction.ensures in
    subst (λ (o : Operation). IfSome (op_transferred o) (IsShared g l.control.values)) c.in-Request.is
    (transferred_shared g c.spaces-spaces.ensures.sound w.runs_well.indices l.control.values w.rest i (range_now g c.requires.transfers.0 l w) w.runs_well.good says)

pub shared-requires-in-Put : goal.shared-requires-in-Put
shared-requires-in-Put c =
    let g = setting_of c.args.job.now in
    let l = c.args.self.now in
    let w = c.requires.transfers.1 in
    let i = c.instruction-instruction.result.now in
    let says = says_at g l w.rest w.own i c.at.result w.stands.control (c.at.ensures ∙ ap (λ (q : Parts). q.control.at) c.self.view_is) c.instruction-instruction.ensures in
    subst (λ (o : Operation). IfSome (op_transferred o) (IsShared g l.control.values)) c.in-Put.is
    (transferred_shared g c.spaces-spaces.ensures.sound w.runs_well.indices l.control.values w.rest i (range_now g c.requires.transfers.0 l w) w.runs_well.good says)

pub shared-requires-in-Prepare : goal.shared-requires-in-Prepare
shared-requires-in-Prepare c =
    let g = setting_of c.args.job.now in
    let l = c.args.self.now in
    let w = c.requires.transfers.1 in
    let i = c.instruction-instruction.result.now in
    let says = says_at g l w.rest w.own i c.at.result w.stands.control (c.at.ensures ∙ ap (λ (q : Parts). q.control.at) c.self.view_is) c.instruction-instruction.ensures in
    subst (λ (o : Operation). IfSome (op_transferred o) (IsShared g l.control.values)) c.in-Prepare.is
    (transferred_shared g c.spaces-spaces.ensures.sound w.runs_well.indices l.control.values w.rest i (range_now g c.requires.transfers.0 l w) w.runs_well.good says)

pub unreachable-requires : goal.unreachable-requires
unreachable-requires c =
    let g = setting_of c.args.job.now in
    let w = c.requires.transfers.1 in
    let i = c.instruction-instruction.result.now in
    let says = says_at g c.args.self.now w.rest w.own i c.at.result w.stands.control (c.at.ensures ∙ ap (λ (q : Parts). q.control.at) c.self.view_is) c.instruction-instruction.ensures in
    transfers_four i.operation c.requires.transfers.2 (sym (transferred_told g w.rest i says) ∙ c.requires.transfers.3)
    c.in_default.not-Get c.in_default.not-Request c.in_default.not-Put c.in_default.not-Prepare

pub returns-in-Get : goal.returns-in-Get
returns-in-Get c = λ p rest own partials st.
    let g = setting_of c.args.job.now in
    let i = c.instruction-instruction.result.now in
    let says = says_at g c.args.self.now rest own i c.at.result st.control (c.at.ensures ∙ ap (λ (q : Parts). q.control.at) c.self.view_is) c.instruction-instruction.ensures in
    subst (λ (t : Option BlockRef). IfSome t (λ (block : BlockRef). named_of c.shared.result ≡ named g own block)) (sym (transferred_told g rest i says ∙ ap op_transferred c.in-Get.is))
    (c.shared.ensures own (sym st.control.values))

pub returns-in-Request : goal.returns-in-Request
returns-in-Request c = λ p rest own partials st.
    let g = setting_of c.args.job.now in
    let i = c.instruction-instruction.result.now in
    let says = says_at g c.args.self.now rest own i c.at.result st.control (c.at.ensures ∙ ap (λ (q : Parts). q.control.at) c.self.view_is) c.instruction-instruction.ensures in
    subst (λ (t : Option BlockRef). IfSome t (λ (block : BlockRef). named_of c.shared-in-Request.result ≡ named g own block)) (sym (transferred_told g rest i says ∙ ap op_transferred c.in-Request.is))
    (c.shared-in-Request.ensures own (sym st.control.values))

pub returns-in-Put : goal.returns-in-Put
returns-in-Put c = λ p rest own partials st.
    let g = setting_of c.args.job.now in
    let i = c.instruction-instruction.result.now in
    let says = says_at g c.args.self.now rest own i c.at.result st.control (c.at.ensures ∙ ap (λ (q : Parts). q.control.at) c.self.view_is) c.instruction-instruction.ensures in
    subst (λ (t : Option BlockRef). IfSome t (λ (block : BlockRef). named_of c.shared-in-Put.result ≡ named g own block)) (sym (transferred_told g rest i says ∙ ap op_transferred c.in-Put.is))
    (c.shared-in-Put.ensures own (sym st.control.values))

pub returns-in-Prepare : goal.returns-in-Prepare
returns-in-Prepare c = λ p rest own partials st.
    let g = setting_of c.args.job.now in
    let i = c.instruction-instruction.result.now in
    let says = says_at g c.args.self.now rest own i c.at.result st.control (c.at.ensures ∙ ap (λ (q : Parts). q.control.at) c.self.view_is) c.instruction-instruction.ensures in
    subst (λ (t : Option BlockRef). IfSome t (λ (block : BlockRef). named_of c.shared-in-Prepare.result ≡ named g own block)) (sym (transferred_told g rest i says ∙ ap op_transferred c.in-Prepare.is))
    (c.shared-in-Prepare.ensures own (sym st.control.values))
