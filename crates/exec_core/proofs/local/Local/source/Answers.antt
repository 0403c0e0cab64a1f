use Rattle.std.proofs.Common.{◌≡◌, ◌<◌, ℕ, List, Result, Ok, Err, length, sym, ap, ◌∙◌, subst}
use Rattle.std.specs.Prelude.{IfOk, IfErr, IfSome}
use Rattle.sip_setting.specs.Seen.{setting_of}
use Rattle.sip_tables.specs.declared.instruction.Operation.{Operation}
use Rattle.sip_tables.specs.Flatten.{flatten}
use Rattle.sial_meaning.specs.declared.trap.Trap.{Trap}
use Rattle.exec_blocks.specs.Standing.{IsNamed}
use Rattle.exec_control.proofs.StandLemmas.{at_in_code}
use Rattle.exec_core.specs.Instructions.{op_sending, op_sent}
use Rattle.exec_core.specs.Parts.{Parts}
use Rattle.exec_core.proofs.SendingLemmas.{sending_told, sends_two, sent_named, sent_told}
use Rattle.exec_core.proofs.StandLemmas.{range_now, says_at}
use Rattle.exec_core.proofs.local.Local.source.Goals as goal

pub instruction-instruction-requires : goal.instruction-instruction-requires
instruction-instruction-requires c =
    let g = setting_of c.args.job.now in
    let w = c.requires.sends.0 in
    subst (λ (n : ℕ). n < length (flatten g.program).code) (sym (c.at.ensures ∙ ap (λ (l : Parts). l.control.at) c.self.view_is))
    (at_in_code g c.args.self.now.control w.rest w.own w.stands.control)

pub unreachable-requires : goal.unreachable-requires
unreachable-requires c =
    let g = setting_of c.args.job.now in
    let w = c.requires.sends.0 in
    let i = c.instruction-instruction.result.now in
    let says = says_at g c.args.self.now w.rest w.own i c.at.result w.stands.control (c.at.ensures ∙ ap (λ (q : Parts). q.control.at) c.self.view_is) c.instruction-instruction.ensures in
    sends_two i.operation c.requires.sends.1 (sym (sent_told g w.rest i says) ∙ c.requires.sends.2) c.in_default.not-Put c.in_default.not-Prepare

pub sent-requires-clause-named : goal.sent-requires-clause-named
sent-requires-clause-named c =
    let g = setting_of c.args.job.now in
    let l = c.args.self.now in
    let w = c.requires.sends.0 in
    let i = c.instruction-instruction.result.now in
    let says = says_at g l w.rest w.own i c.at.result w.stands.control (c.at.ensures ∙ ap (λ (q : Parts). q.control.at) c.self.view_is) c.instruction-instruction.ensures in
    subst (λ (o : Operation). IfSome (op_sent o) (IsNamed g l.control.values)) c.in-Put.is
    (sent_named g c.spaces-spaces.ensures.sound w.runs_well.indices l.control.values w.rest i (range_now g c.args.pool.now l w) w.runs_well.good says)

pub sent-requires-in-Prepare-clause-named : goal.sent-requires-in-Prepare-clause-named
sent-requires-in-Prepare-clause-named c =
    let g = setting_of c.args.job.now in
    let l = c.args.self.now in
    let w = c.requires.sends.0 in
    let i = c.instruction-instruction.result.now in
    let says = says_at g l w.rest w.own i c.at.result w.stands.control (c.at.ensures ∙ ap (λ (q : Parts). q.control.at) c.self.view_is) c.instruction-instruction.ensures in
    subst (λ (o : Operation). IfSome (op_sent o) (IsNamed g l.control.values)) c.in-Prepare.is
    (sent_named g c.spaces-spaces.ensures.sound w.runs_well.indices l.control.values w.rest i (range_now g c.args.pool.now l w) w.runs_well.good says)

pub returns-in-Put-clause-ok : goal.returns-in-Put-clause-ok
returns-in-Put-clause-ok c = λ rest own partials st.
    let g = setting_of c.args.job.now in
    let i = c.instruction-instruction.result.now in
    let says = says_at g c.args.self.now rest own i c.at.result st.control (c.at.ensures ∙ ap (λ (q : Parts). q.control.at) c.self.view_is) c.instruction-instruction.ensures in
    subst (λ (s : Result (List ℕ) Trap). IfOk c.sent.result (λ words. s ≡ Ok words.now)) (sym (sending_told g rest i own says ∙ ap (λ (o : Operation). op_sending g i.line o own) c.in-Put.is))
    (c.sent.ensures.ok own (sym st.control.values) st.blocks)

pub returns-in-Put-clause-err : goal.returns-in-Put-clause-err
returns-in-Put-clause-err c = λ rest own partials st.
    let g = setting_of c.args.job.now in
    let i = c.instruction-instruction.result.now in
    let says = says_at g c.args.self.now rest own i c.at.result st.control (c.at.ensures ∙ ap (λ (q : Parts). q.control.at) c.self.view_is) c.instruction-instruction.ensures in
    subst (λ (s : Result (List ℕ) Trap). IfErr c.sent.result (λ trap. s ≡ Err trap)) (sym (sending_told g rest i own says ∙ ap (λ (o : Operation). op_sending g i.line o own) c.in-Put.is))
    (c.sent.ensures.err own (sym st.control.values) st.blocks)

pub returns-in-Prepare-clause-ok : goal.returns-in-Prepare-clause-ok
returns-in-Prepare-clause-ok c = λ rest own partials st.
    let g = setting_of c.args.job.now in
    let i = c.instruction-instruction.result.now in
    let says = says_at g c.args.self.now rest own i c.at.result st.control (c.at.ensures ∙ ap (λ (q : Parts). q.control.at) c.self.view_is) c.instruction-instruction.ensures in
    subst (λ (s : Result (List ℕ) Trap). IfOk c.sent-in-Prepare.result (λ words. s ≡ Ok words.now)) (sym (sending_told g rest i own says ∙ ap (λ (o : Operation). op_sending g i.line o own) c.in-Prepare.is))
    (c.sent-in-Prepare.ensures.ok own (sym st.control.values) st.blocks)

pub returns-in-Prepare-clause-err : goal.returns-in-Prepare-clause-err
returns-in-Prepare-clause-err c = λ rest own partials st.
    let g = setting_of c.args.job.now in
    let i = c.instruction-instruction.result.now in
    let says = says_at g c.args.self.now rest own i c.at.result st.control (c.at.ensures ∙ ap (λ (q : Parts). q.control.at) c.self.view_is) c.instruction-instruction.ensures in
    subst (λ (s : Result (List ℕ) Trap). IfErr c.sent-in-Prepare.result (λ trap. s ≡ Err trap)) (sym (sending_told g rest i own says ∙ ap (λ (o : Operation). op_sending g i.line o own) c.in-Prepare.is))
    (c.sent-in-Prepare.ensures.err own (sym st.control.values) st.blocks)
