use Rattle.std.proofs.Common.{Bool, None, refl, sym, ◌∙◌, subst}
use Rattle.sip_setting.specs.Seen.{setting_of}
use Rattle.exec_control.specs.Stands.{IsBegun}
use Rattle.exec_control.proofs.WhereLemmas.{fails, goes_on, ends, none_looked, begins, begins_at_end}
use Rattle.exec_control.proofs.wheres.body_if_met.Goals as goal

pub loop-at-init : goal.loop-at-init
loop-at-init c pardo number more own proper follows first_is end_is scalars values = none_looked c.args.first pardo.wheres own

pub returns-then-not-is_met : goal.returns-then-not-is_met
returns-then-not-is_met c pardo number more own proper follows first_is end_is scalars values =
    let looked = c.loop-at.invariant pardo number more own proper follows first_is end_is scalars values in
    let unmet = sym (c.is_met.ensures own scalars values) ∙ c.if-not-is_met.true in
    let all = fails (setting_of c.args.job.now).program pardo number more c.args.first c.loop-at.at own c.instruction.result.now proper follows first_is looked c.instruction.ensures c.in-Where.cond c.in-Where.is unmet in
    subst (λ (b : Bool). IsBegun pardo b None) (sym all) refl

pub returns-in_default : goal.returns-in_default
returns-in_default c pardo number more own proper follows first_is end_is scalars values =
    let looked = c.loop-at.invariant pardo number more own proper follows first_is end_is scalars values in
    begins pardo c.args.first c.loop-at.at own looked first_is
    (ends (setting_of c.args.job.now).program pardo number more c.args.first c.loop-at.at own c.instruction.result.now proper follows first_is looked c.instruction.ensures (λ cond is. c.in_default.not-Where cond is))

pub loop-at-preserved : goal.loop-at-preserved
loop-at-preserved c pardo number more own proper follows first_is end_is scalars values =
    let looked = c.loop-at.invariant pardo number more own proper follows first_is end_is scalars values in
    let holds = sym (c.is_met.ensures own scalars values) ∙ c.if-not-is_met.false in
    goes_on (setting_of c.args.job.now).program pardo number more c.args.first c.loop-at.at own c.instruction.result.now proper follows first_is looked c.instruction.ensures c.in-Where.cond c.in-Where.is holds

pub returns : goal.returns
returns c pardo number more own proper follows first_is end_is scalars values =
    let looked = c.loop-at.invariant pardo number more own proper follows first_is end_is scalars values in
    let past = c.loop-at-test.false in
    begins_at_end (setting_of c.args.job.now).program pardo number more c.args.first c.loop-at.at c.args.end own follows first_is end_is past looked
