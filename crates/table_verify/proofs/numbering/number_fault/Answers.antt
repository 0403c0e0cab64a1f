use Rattle.std.proofs.Common.{ℕ, List, ap, take}
use Rattle.sip_tables.specs.declared.instruction.Instruction.{Instruction}
use Rattle.sial_syntax.specs.declared.program.Program.{Program}
use Rattle.sial_syntax.specs.Tree.{tree}
use Rattle.table_verify.specs.Numbering.{declared}
use Rattle.table_verify.proofs.NumberLemmas.{number_zero, number_from, none_by, some_by}
use Rattle.table_verify.proofs.numbering.number_fault.Goals as goal

pub returns-in_default : goal.returns-in_default
returns-in_default c = number_zero c.args.tables.now (none_by (λ (x : Program × ℕ). (tree x.0, x.1)) c.in_ok-program.field-0 (declared c.args.tables.now) c.in_ok-program.ensures c.in_default.is)

pub returns : goal.returns
returns c =
    let n = c.in_ok-count.count in
    number_from c.args.tables.now n (tree c.in-Some.program) c.in-Some.next (take n c.code.result.now) c.texts.result.now c.first_other.result c.in_ok-count.ensures.front
    (some_by (λ (x : Program × ℕ). (tree x.0, x.1)) c.in_ok-program.field-0 (declared c.args.tables.now) (c.in-Some.program, c.in-Some.next) c.in_ok-program.ensures c.in-Some.is)
    (ap (λ (is : List Instruction). take n is) c.code.ensures) c.texts.ensures c.first_other.ensures
