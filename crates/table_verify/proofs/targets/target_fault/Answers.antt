use Rattle.std.proofs.Common.{ℕ, List, Option, ap, sym, subst, take, ◌∙◌}
use Rattle.sip_tables.specs.declared.instruction.Instruction.{Instruction}
use Rattle.table_verify.specs.JumpFaults.{IsFirst}
use Rattle.table_verify.specs.Starting.{some_other, first_call}
use Rattle.table_verify.specs.TargetFaults.{TargetAt}
use Rattle.table_verify.proofs.TargetLemmas.{target_zero, target_from}
use Rattle.table_verify.proofs.targets.target_fault.Goals as goal

pub returns-then-some_other : goal.returns-then-some_other
returns-then-some_other c =
    let n = c.in_ok-count.count in
    target_zero c.args.tables.now n (take n c.code.result.now) c.as_slice.result.now c.procedures.result.now c.in_ok-count.ensures.front (ap (λ (is : List Instruction). take n is) c.code.ensures) c.procedures.ensures
    (c.as_slice.ensures.value ∙ c.in_ok-starts.ensures) (sym c.some_other.ensures ∙ c.if-some_other.true)

pub returns : goal.returns
returns c =
    let n = c.in_ok-count.count in
    let code = take n c.code.result.now in
    let many = c.procedures_len.result in
    let known = c.in_ok-starts.starts.items in
    subst (λ (o : Option ℕ). IsFirst (λ (at : ℕ). TargetAt at c.args.tables.now) o) (sym c.earlier.ensures)
    (target_from c.args.tables.now n code known c.procedures.result.now many c.in_ok-first_wrong.field-0 c.first_call-call.result c.in_ok-count.ensures.front
    (ap (λ (is : List Instruction). take n is) c.code.ensures) c.procedures.ensures c.procedures_len.ensures c.in_ok-starts.ensures
    (ap (λ (ns : List ℕ). some_other ns 0 c.procedures.result.now) (sym c.as_slice.ensures.value) ∙ (sym c.some_other.ensures ∙ c.if-some_other.false))
    c.in_ok-first_wrong.ensures (c.first_call-call.ensures ∙ ap (λ (ns : List ℕ). first_call many ns 0 code) c.as_slice-2.ensures.value))
