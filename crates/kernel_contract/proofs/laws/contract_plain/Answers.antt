use Rattle.std.proofs.Common.{◌≡◌, ℕ, ◌<◌, ◌+◌, arith, refl, length, subst, rules}
use Rattle.kernel_contract.specs.Parts.{Replaced}
use Rattle.kernel_contract.specs.Walks.{count, gone}
use Rattle.kernel_contract.proofs.ContractionLemmas.{AreTargets-further, Contracted-Replaced, Reaches-b, Reaches-further, Replaced-further, target_at, value_at}
use Rattle.kernel_contract.proofs.laws.contract_plain.Goals as goal

pub plain_row-requires : goal.plain_row-requires
plain_row-requires g c =
    let first = gone c.args.free_a.now c.loop-row.row in
    let in_a = (λ (j : ℕ) (column : j < count c.args.free_b.now). Reaches-further c.args.a.now c.args.b.now c.args.to.now c.loop-row.to c.args.free_a.now c.args.free_b.now c.args.shared.now first 1
    (λ i. c.step-here.result.a) (λ i. c.step-here.result.to) c.requires (omega (arith, c.step-here.ensures.gone, c.step-here.ensures.within)) c.loop-row.invariant.done.len (omega arith) (omega arith) (omega arith) (λ i row. let one : first + i ≡ first = omega arith in rw one c.step-here.ensures.offsets.a) (λ i row. let one : first + i ≡ first = omega arith in rw one c.step-here.ensures.offsets.to) 0 j (omega arith) column) in
    let in_b = λ (j : ℕ) (column : j < count c.args.free_b.now).
    Reaches-b (length c.args.a.now) (length c.args.b.now) (length c.args.to.now) c.args.free_a.now c.args.free_b.now c.args.shared.now
    first j c.requires (omega (arith, c.step-here.ensures.gone, c.step-here.ensures.within)) column in
    let targets = AreTargets-further c.args.a.now c.args.b.now c.args.to.now c.loop-row.to c.args.free_a.now c.args.free_b.now c.args.shared.now first 1
    (λ i. c.step-here.result.a) (λ i. c.step-here.result.to) c.requires (omega (arith, c.step-here.ensures.gone, c.step-here.ensures.within)) c.loop-row.invariant.done.len (omega arith) (omega arith) (omega arith) (λ i row. let one : first + i ≡ first = omega arith in rw one c.step-here.ensures.offsets.a) (λ i row. let one : first + i ≡ first = omega arith in rw one c.step-here.ensures.offsets.to) in
    (search rules, (search rules, (in_a, (in_b, targets))))

pub loop-row-preserved : goal.loop-row-preserved
loop-row-preserved g c =
    let first = gone c.args.free_a.now c.loop-row.row in
    record {
      stands = c.step-here.ensures.stands;
      done = rw c.step-here.ensures.gone
          (Replaced-further c.args.a.now c.args.b.now c.args.to.now c.loop-row.to c.args.free_a.now c.args.free_b.now c.args.shared.now first 1
          (λ i. c.step-here.result.a) (λ i. c.step-here.result.to) c.requires (omega (arith, c.step-here.ensures.gone, c.step-here.ensures.within)) c.loop-row.invariant.done.len (omega arith) (omega arith) (omega arith) (λ i row. let one : first + i ≡ first = omega arith in rw one c.step-here.ensures.offsets.a) (λ i row. let one : first + i ≡ first = omega arith in rw one c.step-here.ensures.offsets.to)
          c.args.how c.plain_row.new.to c.loop-row.invariant.done c.plain_row.ensures);
    }

pub returns : goal.returns
returns g c =
    let all : gone c.args.free_a.now c.loop-row.row ≡ count c.args.free_a.now = rw c.loop-row-test.false refl in
    Contracted-Replaced c.args.a.now c.args.b.now c.args.to.now c.loop-row.to c.args.free_a.now c.args.free_b.now c.args.shared.now c.args.how
    (subst (λ n. Replaced c.args.how (target_at c.args.free_a.now c.args.free_b.now)
    (value_at c.args.a.now c.args.b.now c.args.free_a.now c.args.free_b.now c.args.shared.now) n (count c.args.free_b.now) c.args.to.now c.loop-row.to) all
    c.loop-row.invariant.done)
