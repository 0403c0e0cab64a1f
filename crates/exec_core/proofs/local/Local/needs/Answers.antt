use Rattle.std.proofs.Common.{◌<◌, ℕ, length, map, sym, ap, ◌∙◌, subst}
use Rattle.sip_setting.specs.Seen.{setting_of}
use Rattle.sip_tables.specs.Flatten.{flatten}
use Rattle.sial_meaning.specs.Next.{next_of}
use Rattle.sial_meaning.specs.Statement.{named}
use Rattle.exec_control.proofs.StandLemmas.{at_in_code}
use Rattle.exec_core.specs.Instructions.{op_reads, op_trap}
use Rattle.exec_core.specs.Parts.{Parts}
use Rattle.exec_core.specs.Shared.{needed}
use Rattle.exec_core.proofs.InstructionLemmas.{needs_told, reads_shared}
use Rattle.exec_core.proofs.SharedLemmas.{needs_err, needs_ok}
use Rattle.exec_core.proofs.StandLemmas.{range_now, says_at}
use Rattle.exec_core.proofs.local.Local.needs.Goals as goal

pub instruction-instruction-requires : goal.instruction-instruction-requires
instruction-instruction-requires c =
    let g = setting_of c.args.job.now in
    let w = c.requires.at_work.1 in
    subst (λ (n : ℕ). n < length (flatten g.program).code) (sym (c.at.ensures ∙ ap (λ (l : Parts). l.control.at) c.self.view_is))
    (at_in_code g c.args.self.now.control w.rest w.own w.stands.control)

pub reads-requires : goal.reads-requires
reads-requires c =
    let g = setting_of c.args.job.now in
    let l = c.args.self.now in
    let w = c.requires.at_work.1 in
    let i = c.instruction-instruction.result.now in
    let says = says_at g l w.rest w.own i c.at.result w.stands.control (c.at.ensures ∙ ap (λ (q : Parts). q.control.at) c.self.view_is) c.instruction-instruction.ensures in
    reads_shared g c.spaces-spaces.ensures.sound w.runs_well.indices l.control.values w.rest i (range_now g c.requires.at_work.0 l w) w.runs_well.good says

pub returns-in-Some : goal.returns-in-Some
returns-in-Some c = λ p rest own partials st.
    let g = setting_of c.args.job.now in
    let i = c.instruction-instruction.result.now in
    let says = says_at g c.args.self.now rest own i c.at.result st.control (c.at.ensures ∙ ap (λ (q : Parts). q.control.at) c.self.view_is) c.instruction-instruction.ensures in
    needs_err i.line (needed g (next_of rest) own) (op_trap g i.operation own) c.in-Some.kind (map (named g own) (op_reads g i.operation)) (needs_told g rest i own says) (sym (c.trap.ensures own st.created) ∙ c.in-Some.is)

pub returns-in-None : goal.returns-in-None
returns-in-None c = λ p rest own partials st.
    let g = setting_of c.args.job.now in
    let i = c.instruction-instruction.result.now in
    let says = says_at g c.args.self.now rest own i c.at.result st.control (c.at.ensures ∙ ap (λ (q : Parts). q.control.at) c.self.view_is) c.instruction-instruction.ensures in
    needs_ok i.line (needed g (next_of rest) own) (op_trap g i.operation own) c.reads.result (map (named g own) (op_reads g i.operation)) (needs_told g rest i own says) (sym (c.trap.ensures own st.created) ∙ c.in-None.is)
    (c.reads.ensures own (sym st.control.values))
