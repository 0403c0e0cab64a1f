use Rattle.std.proofs.Common.{◌≡◌, ℕ, true, refl, sym, ap, ◌∙◌, subst}
use Rattle.sip_setting.specs.Seen.{setting_of}
use Rattle.sial_meaning.specs.declared.trap.TrapKind.TheVariants.{LocalMissing}
use Rattle.sial_meaning.specs.LocalStep.{all_deallocated, matched}
use Rattle.exec_blocks.specs.Kept.{Kept}
use Rattle.exec_blocks.specs.Standing.{BlocksStand}
use Rattle.exec_blocks.proofs.AllocateLemmas.{answers-done, answers-trap}
use Rattle.exec_blocks.proofs.blocks.Blocks.deallocate.Goals as goal

pub returns-then-any_is-clause-does : goal.returns-then-any_is-clause-does
returns-then-any_is-clause-does c = λ own partials now stands.
    let g = setting_of c.args.job.now in
    answers-trap LocalMissing _ (all_deallocated c.args.array (matched g own c.args.array c.args.slots.now) own) partials _
    (sym c.if-any_is.true ∙ c.any_is.ensures c.args.pool.now c.args.self.now own (sym (ap (λ (k : Kept). k.seats) c.self.view_is)) c.first_local-first.ensures.first now stands)

pub returns-else-any_is-clause-does : goal.returns-else-any_is-clause-does
returns-else-any_is-clause-does c = λ own partials now stands.
    let g = setting_of c.args.job.now in
    answers-done LocalMissing _ (all_deallocated c.args.array (matched g own c.args.array c.args.slots.now) own) partials _
    (sym c.if-any_is.false ∙ c.any_is.ensures c.args.pool.now c.args.self.now own (sym (ap (λ (k : Kept). k.seats) c.self.view_is)) c.first_local-first.ensures.first now stands)
    (subst (λ (k : Kept). BlocksStand g c.clear_matched.new.pool k (all_deallocated c.args.array (matched g own c.args.array c.args.slots.now) own)) (sym (ap (λ (k : Kept). record k { seats = c.clear_matched.new.seats }) c.self.view_is))
    (c.clear_matched.ensures.does c.args.self.now own (sym (ap (λ (k : Kept). k.seats) c.self.view_is)) c.requires.stands.laid c.first_local-first.ensures.first now stands))
