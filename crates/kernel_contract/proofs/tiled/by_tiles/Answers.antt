use Rattle.std.proofs.Common.{◌≡◌, ℕ, ◌<◌, arith, refl, get_or, length, subst, rules}
use Rattle.kernel_contract.specs.Parts.{Replaced}
use Rattle.kernel_contract.specs.Walks.{count, gone}
use Rattle.kernel_contract.proofs.ContractionLemmas.{AreTargets-further, Contracted-Replaced, Reaches-b, Reaches-further, Replaced-further, target_at, value_at}
use Rattle.kernel_contract.proofs.tiled.by_tiles.Goals as goal

pub across-requires : goal.across-requires
across-requires g c =
    let first = gone c.args.free_a.now c.loop-rows.rows in
    let in_a = Reaches-further c.args.a.now c.args.b.now c.args.to.now c.loop-rows.to c.args.free_a.now c.args.free_b.now c.args.shared.now first c.run-run.result.len
    (λ i. get_or c.run-run.result.a i 0) (λ i. get_or c.run-run.result.to i 0) c.requires (omega (arith, c.run-run.ensures.gone, c.run-run.ensures.within)) c.loop-rows.invariant.done.len (omega arith) (omega arith) (omega arith) c.run-run.ensures.run.a c.run-run.ensures.run.to in
    let in_b = λ (j : ℕ) (column : j < count c.args.free_b.now).
    Reaches-b (length c.args.a.now) (length c.args.b.now) (length c.args.to.now) c.args.free_a.now c.args.free_b.now c.args.shared.now
    first j c.requires (omega (arith, c.run-run.ensures.gone, c.run-run.ensures.within, c.run-run.ensures.run.some)) column in
    let targets = AreTargets-further c.args.a.now c.args.b.now c.args.to.now c.loop-rows.to c.args.free_a.now c.args.free_b.now c.args.shared.now first c.run-run.result.len
    (λ i. get_or c.run-run.result.a i 0) (λ i. get_or c.run-run.result.to i 0) c.requires (omega (arith, c.run-run.ensures.gone, c.run-run.ensures.within)) c.loop-rows.invariant.done.len (omega arith) (omega arith) (omega arith) c.run-run.ensures.run.a c.run-run.ensures.run.to in
    (search rules, (search rules, (c.run-run.ensures.run.some, (c.run-run.ensures.run.len, (c.run-run.ensures.run.filled, (in_a, (in_b, targets)))))))

pub loop-rows-preserved : goal.loop-rows-preserved
loop-rows-preserved g c =
    let first = gone c.args.free_a.now c.loop-rows.rows in
    record {
      stands = c.run-run.ensures.stands;
      within = c.run-run.ensures.within;
      done = rw c.run-run.ensures.gone
          (Replaced-further c.args.a.now c.args.b.now c.args.to.now c.loop-rows.to c.args.free_a.now c.args.free_b.now c.args.shared.now first c.run-run.result.len
          (λ i. get_or c.run-run.result.a i 0) (λ i. get_or c.run-run.result.to i 0) c.requires (omega (arith, c.run-run.ensures.gone, c.run-run.ensures.within)) c.loop-rows.invariant.done.len (omega arith) (omega arith) (omega arith) c.run-run.ensures.run.a c.run-run.ensures.run.to
          c.args.how c.across.new.to c.loop-rows.invariant.done c.across.ensures);
    }

pub returns : goal.returns
returns g c =
    let all : gone c.args.free_a.now c.loop-rows.rows ≡ count c.args.free_a.now = rw c.loop-rows-test.false refl in
    Contracted-Replaced c.args.a.now c.args.b.now c.args.to.now c.loop-rows.to c.args.free_a.now c.args.free_b.now c.args.shared.now c.args.how
    (subst (λ n. Replaced c.args.how (target_at c.args.free_a.now c.args.free_b.now)
    (value_at c.args.a.now c.args.b.now c.args.free_a.now c.args.free_b.now c.args.shared.now) n (count c.args.free_b.now) c.args.to.now c.loop-rows.to) all
    c.loop-rows.invariant.done)
