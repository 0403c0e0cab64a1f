use Rattle.std.proofs.Common.{option_map, ap, sym, ◌∙◌, arith}
use Rattle.sial_syntax.specs.declared.condition.Cond.{Cond}
use Rattle.table_verify.specs.declared.rest.Rest.{Rest}
use Rattle.table_verify.specs.Rest.{seen}
use Rattle.table_verify.proofs.LoopLemmas.{wheres_end, wheres_full, wheres_on}
use Rattle.table_verify.proofs.closings.wheres.Goals as goal

pub returns-in_default : goal.returns-in_default
returns-in_default c = wheres_end _ _ _ _ _ c.loop-turn.invariant (sym c.where_at.ensures ∙ ap (option_map (λ (x : Cond × Rest). (x.0, seen x.1))) c.in_default.is)

pub loop-turn-preserved : goal.loop-turn-preserved
loop-turn-preserved c =
    rw c.in_ok-push.ensures.items
    (wheres_on _ _ _ _ _ _ _ _ (omega arith) c.loop-turn.invariant (sym c.where_at.ensures ∙ ap (option_map (λ (x : Cond × Rest). (x.0, seen x.1))) c.in-Some.is))

pub returns : goal.returns
returns c = wheres_full _ _ _ _ _ c.loop-turn.invariant (omega arith)
