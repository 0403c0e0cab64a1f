use Rattle.std.proofs.Common.{ℕ, Option, subst}
use Rattle.std.specs.Prelude.{IfSome}
use Rattle.table_verify.specs.Faults.{NestAt}
use Rattle.table_verify.proofs.FirstLemmas.{nest_at}
use Rattle.table_verify.proofs.first.nest.Goals as goal

pub returns-in_ok-number-in-Some : goal.returns-in_ok-number-in-Some
returns-in_ok-number-in-Some c =
    nest_at c.args.tables.now c.in-Some.at c.in_ok-number-in-Some.field-0 c.in_ok-number-in-Some.ensures
    (subst (λ (o : Option ℕ). IfSome o (λ n. NestAt n c.args.tables.now)) c.in-Some.is c.in_ok-at.ensures.fault)
