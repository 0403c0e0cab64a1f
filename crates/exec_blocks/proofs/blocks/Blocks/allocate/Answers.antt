use Rattle.std.proofs.Common.{◌≡◌, ℕ, true, refl, sym, ap, ◌∙◌, subst}
use Rattle.sip_setting.specs.Seen.{setting_of}
use Rattle.sial_meaning.specs.declared.trap.TrapKind.TheVariants.{LocalTwice}
use Rattle.sial_meaning.specs.LocalStep.{all_allocated, matched}
use Rattle.exec_blocks.specs.Kept.{Kept}
use Rattle.exec_blocks.specs.Standing.{BlocksStand}
use Rattle.exec_blocks.proofs.AllocateLemmas.{answers-done, answers-trap}
use Rattle.exec_blocks.proofs.blocks.Blocks.allocate.Goals as goal

pub returns-then-any_is-clause-does : goal.returns-then-any_is-clause-does
returns-then-any_is-clause-does c = λ own partials now stands.
    let g = setting_of c.args.job.now in
    answers-trap LocalTwice _ (all_allocated g c.args.array (matched g own c.args.array c.args.slots.now) own) partials _
    (sym c.if-any_is.true ∙ c.any_is.ensures c.args.pool.now c.args.self.now own (sym (ap (λ (k : Kept). k.seats) c.self.view_is)) c.first_local-first.ensures.first now stands)

pub returns-else-any_is-clause-does : goal.returns-else-any_is-clause-does
returns-else-any_is-clause-does c = λ own partials now stands.
    let g = setting_of c.args.job.now in
    answers-done LocalTwice _ (all_allocated g c.args.array (matched g own c.args.array c.args.slots.now) own) partials _
    (sym c.if-any_is.false ∙ c.any_is.ensures c.args.pool.now c.args.self.now own (sym (ap (λ (k : Kept). k.seats) c.self.view_is)) c.first_local-first.ensures.first now stands)
    (subst (λ (k : Kept). BlocksStand g c.zero_matched.new.pool k (all_allocated g c.args.array (matched g own c.args.array c.args.slots.now) own)) (sym (ap (λ (k : Kept). record k { seats = c.zero_matched.new.seats }) c.self.view_is))
    (c.zero_matched.ensures.does c.args.self.now own (sym (ap (λ (k : Kept). k.seats) c.self.view_is)) c.requires.stands.laid c.first_local-first.ensures.first now stands))
