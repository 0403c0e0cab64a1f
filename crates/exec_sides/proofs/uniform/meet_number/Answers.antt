use Rattle.std.proofs.Common.{length, sym, subst, arith}
use Rattle.kernel_permute.specs.declared.how.How.{How}
use Rattle.exec_sides.specs.Met.{Met}
use Rattle.exec_sides.specs.Seen.{lengths_of}
use Rattle.exec_sides.proofs.Numbers.{fill-meets, number-meets}
use Rattle.exec_sides.proofs.uniform.meet_number.Goals as goal

pub returns-in-Set : goal.returns-in-Set
returns-in-Set c =
    subst (λ (how : How). Met how (lengths_of c.args.to.now) (λ t. c.args.number) c.args.into.now c.fill.new.to) (sym c.in-Set.is)
    (fill-meets (lengths_of c.args.to.now) c.args.number c.args.into.now c.fill.new.to c.requires.words c.fill.ensures.value)

pub returns-in_default : goal.returns-in_default
returns-in_default c =
    number-meets c.args.how (lengths_of c.args.to.now) c.args.number (length c.args.into.now) c.args.into.now c.contract_any.new.to (omega arith) c.requires.words
    (record { named = c.contract_any.ensures.named; others = c.contract_any.ensures.others; len = c.contract_any.ensures.len })
