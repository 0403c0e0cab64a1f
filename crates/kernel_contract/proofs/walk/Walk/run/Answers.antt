use Rattle.std.proofs.Common.{arith, ◌∙◌, length-set, length, ap}
use Rattle.std.proofs.lemmas.List.{length-replicate}
use Rattle.kernel_contract.specs.Walks.{gone}
use Rattle.kernel_contract.proofs.WalkLemmas.{IsRun-of, IsRun-push, gone-le}
use Rattle.kernel_contract.proofs.walk.Walk.run.Goals as goal

pub loop-self-init : goal.loop-self-init
loop-self-init g c = record {
  stands = c.step.ensures.stands;
  run = IsRun-of c.args.axes.now (gone c.args.axes.now c.args.self.now) c.of-run.result c.step.result c.requires.some c.step.ensures.offsets
      c.of-run.ensures.len c.of-run.ensures.a c.of-run.ensures.b c.of-run.ensures.to;
  gone = omega (arith, c.step.ensures.gone, c.of-run.ensures.len);
  len_a = ap length c.of-run.ensures.a ∙ length-replicate _ _;
  len_b = ap length c.of-run.ensures.b ∙ length-replicate _ _;
  len_to = ap length c.of-run.ensures.to ∙ length-replicate _ _;
}

pub loop-self-preserved : goal.loop-self-preserved
loop-self-preserved g c =
    let s = c.loop-self.invariant in
    let push = c.push.ensures in
    record {
      stands = c.step-in-loop-self.ensures.stands;
      run = IsRun-push c.args.axes.now (gone c.args.axes.now c.args.self.now) c.loop-self.run c.push.new.self c.step-in-loop-self.result
          c.if-run.true s.len_a s.len_b s.len_to s.run (rw s.gone at c.step-in-loop-self.ensures.offsets) push.len push.a push.b push.to;
      gone = omega (arith, c.step-in-loop-self.ensures.gone, s.gone, push.len);
      len_a = ap length push.a ∙ length-set _ _ _ ∙ s.len_a;
      len_b = ap length push.b ∙ length-set _ _ _ ∙ s.len_b;
      len_to = ap length push.to ∙ length-set _ _ _ ∙ s.len_to;
    }

pub returns-else-run-clause-within : goal.returns-else-run-clause-within
returns-else-run-clause-within g c = gone-le c.args.axes.now c.loop-self.self.left c.loop-self.self.at c.loop-self.invariant.stands.position
