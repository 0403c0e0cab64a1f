use Rattle.std.proofs.Common.{◌≡◌, ◌<◌, ℕ, List, Option, length, sym, ap, ◌∙◌, subst}
use Rattle.std.proofs.lemmas.Result.{on_err_weaker}
use Rattle.sip_setting.specs.Seen.{setting_of}
use Rattle.sip_tables.specs.Flatten.{flatten}
use Rattle.sial_meaning.specs.Next.{next_of}
use Rattle.block_seats.specs.Leaving.{Leaves}
use Rattle.code_places.specs.Standing.{HasAt}
use Rattle.exec_blocks.proofs.NeedLemmas.{need-kept, room-of-local}
use Rattle.exec_blocks.specs.Allocating.{HasLocalRoom}
use Rattle.exec_blocks.specs.Kept.{Kept}
use Rattle.exec_blocks.specs.Needing.{MeetsNeed}
use Rattle.exec_blocks.specs.Standing.{AreIn}
use Rattle.exec_control.proofs.StandLemmas.{at_in_code, item_is}
use Rattle.exec_core.specs.Locals.{OpMatches}
use Rattle.exec_core.specs.Parts.{Parts}
use Rattle.exec_core.specs.Printing.{Does}
use Rattle.exec_core.specs.Stands.{LocalStands}
use Rattle.exec_core.proofs.LocalLemmas.{left_unchanged, locals_changed, locals_match, op_of_locals}
use Rattle.exec_core.proofs.StandLemmas.{range_now, says_at}
use Rattle.exec_core.proofs.local.Local.change_locals.Goals as goal

pub instruction-instruction-requires : goal.instruction-instruction-requires
instruction-instruction-requires c =
    let g = setting_of c.args.job.now in
    let w = c.requires.of_locals.0 in
    subst (λ (n : ℕ). n < length (flatten g.program).code) (sym (c.at.ensures ∙ ap (λ (l : Parts). l.control.at) c.self.view_is))
    (at_in_code g c.args.self.now.control w.rest w.own w.stands.control)

pub change-done-requires : goal.change-done-requires
change-done-requires c =
    let g = setting_of c.args.job.now in
    let p = c.args.pool.now in
    let l = c.args.self.now in
    let w = c.requires.of_locals.0 in
    let i = c.instruction-instruction.result.now in
    let at_is = c.at.ensures ∙ ap (λ (q : Parts). q.control.at) c.self.view_is in
    let says = says_at g l w.rest w.own i c.at.result w.stands.control at_is c.instruction-instruction.ensures in
    let item = item_is g l.control w.rest w.own i w.stands.control (subst (λ (n : ℕ). HasAt g.program n i) at_is c.instruction-instruction.ensures) in
    let is = op_of_locals g.program w.rest i says c.requires.of_locals.1 in
    let blocks_are = sym (ap (λ (q : Parts). q.blocks) c.self.view_is) in
    record {
      stands = subst (λ (b : Kept). AreIn g p b) blocks_are w.stands.seated;
      matches =
          subst (λ (v : List ℕ). OpMatches g v i.operation) (sym (c.values-values.ensures ∙ ap (λ (q : Parts). q.control.values) c.self.view_is))
          (locals_match g c.spaces-spaces.ensures.sound w.runs_well.indices l.control.values w.rest i.line i.operation (range_now g p l w) w.runs_well.good is item);
      wide = c.requires.wide;
      room = λ array kind. subst (λ (b : Kept). HasLocalRoom g p b array) blocks_are (room-of-local g p l.blocks w.own w.stands.seated w.stands.blocks c.requires.need array kind);
    }

pub returns : goal.returns
returns c =
    let g = setting_of c.args.job.now in
    let p = c.args.pool.now in
    let new = c.change-done.new.pool in
    let w = c.requires.of_locals.0 in
    let i = c.instruction-instruction.result.now in
    let seen = c.self.view_is in
    let l : Parts = record { control = c.self.inside.control; scalars = c.self.inside.scalars; blocks = c.self.inside.blocks; created = c.self.inside.created.items } in
    let after : Parts = record l { control = c.past.new.control; blocks = c.change-done.new.blocks } in
    let slots_are = ap (λ (q : Parts). q.blocks.seats.slots) seen in
    let kept = on_err_weaker c.change-done.result (λ both. both.1) c.change-done.ensures.trapped in
    let says = says_at g c.args.self.now w.rest w.own i c.at.result w.stands.control (c.at.ensures ∙ ap (λ (q : Parts). q.control.at) seen) c.instruction-instruction.ensures in
    let is = op_of_locals g.program w.rest i says c.requires.of_locals.1 in
    record {
      does = λ values rest own partials st.
          let here : LocalStands g p l rest own partials = subst (λ (q : Parts). LocalStands g p q rest own partials) (sym seen) st in
          let item = item_is g l.control rest own i here.control (subst (λ (n : ℕ). HasAt g.program n i) c.at.ensures c.instruction-instruction.ensures) in
          subst (λ (q : Parts). Does g new q after own partials values c.past.result (next_of rest)) seen
          (locals_changed g p new l c.past.new.control c.change-done.new.blocks i.line own partials c.change-done.result c.past.result c.change-done.ensures.stands c.past.ensures.ok c.past.ensures.err kept
          values rest i.operation is item here (c.change-done.ensures.does own partials (sym (c.values-values.ensures ∙ here.control.values)) here.blocks)
          (λ done held same. c.past.ensures.passes done g rest own held here.control same));
      need =
          need-kept g l.blocks c.change-done.new.blocks (subst (λ (b : Kept). AreIn g p b) (sym (ap (λ (q : Parts). q.blocks) seen)) w.stands.seated) c.change-done.ensures.stands c.change-done.ensures.leaves
          (subst (λ (b : Kept). MeetsNeed g p b) (sym (ap (λ (q : Parts). q.blocks) seen)) c.requires.need);
      leaves = subst (λ (xs : List (Option ℕ)). Leaves p new xs c.change-done.new.blocks.seats.slots) slots_are c.change-done.ensures.leaves;
      trapped = left_unchanged c.change-done.result c.past.result (new ≡ p) c.past.ensures.ok (on_err_weaker c.change-done.result (λ both. both.0) c.change-done.ensures.trapped);
    }
