use Rattle.std.proofs.Common.{◌≡◌, ◌++◌, drop, List, Bool, sym, subst, rules, ◌∙◌, ap}
use Rattle.scalar_discipline.specs.Calls.{lists}
use Rattle.scalar_discipline.specs.Distinct.{LeadAlike}
use Rattle.scalar_discipline.specs.Rounds.{leads_on}
use Rattle.scalar_discipline.specs.declared.call.Call.{Call}
use Rattle.scalar_discipline.proofs.DistinctLemmas.{alike_same, one_more_distinct}
use Rattle.scalar_discipline.proofs.distinct.all_distinct.Goals as goal

pub loop-own-init : goal.loop-own-init
loop-own-init c =
    let calls = lists c.args.calls.now in
    let all : lists c.in_ok-all.all.items ++ lists (drop 0 c.args.calls.now) ≡ calls = search rules in
    subst (λ (cs : List (List Call)). LeadAlike cs calls) (sym all) (alike_same calls)

pub loop-own-preserved : goal.loop-own-preserved
loop-own-preserved c =
    one_more_distinct c.args.calls.now c.loop-own.own-index c.own-item.result c.in_ok-distinct.field-0 c.loop-own.all.items c.push.new.self.items
    c.loop-own-test.true c.own-item.is c.in_ok-push.ensures.items
    (λ (reach : List Bool). c.in_ok-distinct.ensures reach ∙ ap (leads_on reach) c.as_slice.ensures.value)
    c.loop-own.invariant
