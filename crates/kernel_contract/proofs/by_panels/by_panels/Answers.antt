use Rattle.std.proofs.Common.{◌≡◌, ℕ, ◌+◌, ◌<◌, ◌≤◌, arith, refl, length, subst, rules}
use Rattle.kernel_contract.specs.Parts.{Replaced}
use Rattle.kernel_contract.specs.Walks.{count, gone}
use Rattle.kernel_contract.proofs.ColumnLemmas.{AreTargets-run, Reaches-row, Reaches-run, Replaced-run}
use Rattle.kernel_contract.proofs.ContractionLemmas.{Contracted-Replaced, target_at, value_at}
use Rattle.kernel_contract.proofs.by_panels.by_panels.Goals as goal

pub through-requires : goal.through-requires
through-requires g c =
    let first = gone c.args.free_b.now c.loop-columns.columns in
    let few : first + c.run-group.result.len ≤ count c.args.free_b.now = omega (arith, c.run-group.ensures.gone, c.run-group.ensures.within) in
    let run = c.run-group.ensures.run in
    let in_a = λ (i : ℕ) (row : i < count c.args.free_a.now).
    Reaches-row (length c.args.a.now) (length c.args.b.now) (length c.args.to.now) c.args.free_a.now c.args.free_b.now c.args.shared.now
    i first c.requires.fits row (omega (arith, run.some)) in
    let in_b = Reaches-run c.args.a.now c.args.b.now c.args.to.now c.loop-columns.to c.args.free_a.now c.args.free_b.now c.args.shared.now first c.run-group.result
    c.requires.fits few c.loop-columns.invariant.done.len (omega arith) (omega arith) (omega arith) c.requires.rows run in
    let targets = AreTargets-run c.args.a.now c.args.b.now c.args.to.now c.loop-columns.to c.args.free_a.now c.args.free_b.now c.args.shared.now first c.run-group.result
    c.requires.fits few c.loop-columns.invariant.done.len (omega arith) (omega arith) (omega arith) c.requires.rows run in
    (search rules, (search rules, (run.some, (run.len, (run.filled, (c.requires.positions, (in_a, (in_b, targets))))))))

pub loop-columns-preserved : goal.loop-columns-preserved
loop-columns-preserved g c =
    let first = gone c.args.free_b.now c.loop-columns.columns in
    let few : first + c.run-group.result.len ≤ count c.args.free_b.now = omega (arith, c.run-group.ensures.gone, c.run-group.ensures.within) in
    record {
      stands = c.run-group.ensures.stands;
      within = c.run-group.ensures.within;
      done = rw c.run-group.ensures.gone
          (Replaced-run c.args.a.now c.args.b.now c.args.to.now c.loop-columns.to c.args.free_a.now c.args.free_b.now c.args.shared.now first c.run-group.result
          c.requires.fits few c.loop-columns.invariant.done.len (omega arith) (omega arith) (omega arith) c.requires.rows c.run-group.ensures.run
          c.args.how c.through.new.to c.loop-columns.invariant.done c.through.ensures);
    }

pub returns : goal.returns
returns g c =
    let all : gone c.args.free_b.now c.loop-columns.columns ≡ count c.args.free_b.now = rw c.loop-columns-test.false refl in
    Contracted-Replaced c.args.a.now c.args.b.now c.args.to.now c.loop-columns.to c.args.free_a.now c.args.free_b.now c.args.shared.now c.args.how
    (subst (λ n. Replaced c.args.how (target_at c.args.free_a.now c.args.free_b.now)
    (value_at c.args.a.now c.args.b.now c.args.free_a.now c.args.free_b.now c.args.shared.now) (count c.args.free_a.now) n c.args.to.now c.loop-columns.to) all
    c.loop-columns.invariant.done)
