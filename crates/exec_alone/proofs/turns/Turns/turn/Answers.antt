use Rattle.std.proofs.Common.{◌≡◌, ℕ, ◌+◌, ◌-◌, ◌^◌, ◌<◌, ◌≤◌, List, [], ◌∷◌, ◌++◌, sym, ap, ◌∙◌, subst, arith}
use Rattle.std.specs.Vec.{vec_len}
use Rattle.sial_syntax.specs.Boxes.{volume}
use Rattle.sial_syntax.specs.Spaces.{box_of}
use Rattle.sip_setting.specs.Seen.{setting_of}
use Rattle.sial_meaning.specs.Control.{control, taken}
use Rattle.sial_meaning.specs.Rest.{Rest, Within}
use Rattle.exec_core.specs.Moves.{TakesUp}
use Rattle.exec_core.specs.Stands.{LocalStands}
use Rattle.exec_alone.specs.Alone.{AloneStands, LedTo}
use Rattle.exec_alone.specs.Turns.{turns_of, TurnsBelow}
use Rattle.exec_alone.proofs.AloneLemmas.{at-end, end-is, below-first, below-second, past-first, popped, taken-to, left-to}
use Rattle.exec_alone.proofs.turns.Turns.turn.Goals as goal

pub tuples-requires : goal.tuples-requires
tuples-requires c =
    let w = c.requires.at_end in
    record { at_end = at-end (setting_of c.args.job.now) c.args.pool.now c.args.local.now w.0.rest w.0.own w.0.partials w.0.stands.local w.1 }

pub take_up-requires-clause-may_take_up : goal.take_up-requires-clause-may_take_up
take_up-requires-clause-may_take_up c =
    let g = setting_of c.args.job.now in
    let w = c.requires.at_end in
    let e = end-is w.0.rest w.1 in
    let here : LocalStands g c.args.pool.now c.args.local.now (Within e.0 e.1 e.2) w.0.own w.0.partials =
    subst (λ (r : Rest). LocalStands g c.args.pool.now c.args.local.now r w.0.own w.0.partials) e.3 w.0.stands.local in
    record {
      within = record { pardo = e.0; number = e.1; more = e.2; own = w.0.own; stands = here.control };
      below = below-first c.place-number.result c.tuples.result (volume (box_of g.spaces e.0.indices)) (2 ^ 64 - 1) (c.tuples.ensures c.args.pool.now e.0 e.1 e.2 w.0.own w.0.partials here) c.if-number-tuples.true;
    }

pub leave-requires-clause-at_end : goal.leave-requires-clause-at_end
leave-requires-clause-at_end c =
    let w = c.requires.at_end in at-end (setting_of c.args.job.now) c.args.pool.now c.args.local.now w.0.rest w.0.own w.0.partials w.0.stands.local w.1

pub returns-then-number-tuples-clause-does : goal.returns-then-number-tuples-clause-does
returns-then-number-tuples-clause-does c = λ rest own partials st is.
    let g = setting_of c.args.job.now in
    let old = c.args.pool.now in
    let l = c.args.local.now in
    let new = c.take_up.new.pool in
    let e = end-is rest is in
    let size = volume (box_of g.spaces e.0.indices) in
    let here : AloneStands g old l c.args.self.now (Within e.0 e.1 e.2) own partials = subst (λ (r : Rest). AloneStands g old l c.args.self.now r own partials) e.3 st in
    let number : c.place-number.result ≡ e.1 = c.place-number.ensures (turns_of e.2) e.1 here.turns_are in
    let many = c.tuples.ensures old e.0 e.1 e.2 own partials here.local in
    let less : e.1 < size = subst (λ (n : ℕ). n < size) number (below-first c.place-number.result c.tuples.result size (2 ^ 64 - 1) many c.if-number-tuples.true) in
    let low : e.1 < 2 ^ 64 - 1 = subst (λ (n : ℕ). n < 2 ^ 64 - 1) number (below-second c.place-number.result c.tuples.result size (2 ^ 64 - 1) many c.if-number-tuples.true) in
    let took = subst (λ (n : ℕ). TakesUp g new c.take_up.new.self e.0 partials (taken g e.0 n e.2 own) c.take_up.result) number (c.take_up.ensures.does e.0 e.1 e.2 own partials here.local) in
    subst (λ (r : Rest). LedTo g new c.take_up.new.self c.advance.new.self partials (control g r own)) (sym e.3)
    (taken-to g new c.take_up.new.self c.advance.new.self partials e.0 e.1 e.2 own c.take_up.result less (c.advance.ensures (turns_of e.2) e.1 here.turns_are low) took)

pub returns-else-number-tuples-clause-does : goal.returns-else-number-tuples-clause-does
returns-else-number-tuples-clause-does c = λ rest own partials st is.
    let g = setting_of c.args.job.now in
    let old = c.args.pool.now in
    let l = c.args.local.now in
    let new = c.leave.new.pool in
    let e = end-is rest is in
    let size = volume (box_of g.spaces e.0.indices) in
    let here : AloneStands g old l c.args.self.now (Within e.0 e.1 e.2) own partials = subst (λ (r : Rest). AloneStands g old l c.args.self.now r own partials) e.3 st in
    let number : c.place-number.result ≡ e.1 = c.place-number.ensures (turns_of e.2) e.1 here.turns_are in
    let w = c.requires.at_end in
    let f = end-is w.0.rest w.1 in
    let there : TurnsBelow (2 ^ 64 - 1) (Within f.0 f.1 f.2) = subst (TurnsBelow (2 ^ 64 - 1)) f.3 w.0.low in
    let its : c.place-number.result ≡ f.1 = c.place-number.ensures (turns_of f.2) f.1 (w.0.stands.turns_are ∙ ap turns_of f.3) in
    let low : c.place-number.result < 2 ^ 64 - 1 = subst (λ (n : ℕ). n < 2 ^ 64 - 1) (sym its) there.0 in
    let many = c.tuples.ensures old e.0 e.1 e.2 own partials here.local in
    let most : size ≤ e.1 = subst (λ (n : ℕ). size ≤ n) number (past-first c.place-number.result c.tuples.result size (2 ^ 64 - 1) many c.if-number-tuples.false low) in
    subst (λ (r : Rest). LedTo g new c.leave.new.self c.pop.new.self.items partials (control g r own)) (sym e.3)
    (left-to g new c.leave.new.self c.pop.new.self.items partials e.0 e.1 e.2 own most
    (popped c.self.inside.places.items c.pop.new.self.items (turns_of e.2) e.1 (vec_len c.self.inside.places) (omega (arith, c.self.inside.places.ok.0)) (c.self.view_is ∙ here.turns_are) c.pop.ensures.rest)
    (c.leave.ensures.does e.0 e.1 e.2 own partials here.local))
