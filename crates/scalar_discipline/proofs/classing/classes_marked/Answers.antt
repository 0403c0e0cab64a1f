use Rattle.scalar_discipline.specs.Deeds.{class_marked}
use Rattle.scalar_discipline.proofs.ListLemmas.{numbers_turn}
use Rattle.scalar_discipline.proofs.classing.classes_marked.Goals as goal

pub loop-scalar-preserved : goal.loop-scalar-preserved
loop-scalar-preserved c =
    numbers_turn (class_marked c.args.written.now c.args.mixed.now) c.loop-scalar.classes.items c.push.new.self.items _ c.class_marked.result c.loop-scalar.scalar c.args.count
    c.loop-scalar-test.true c.class_marked.ensures c.in_ok-push.ensures.items c.loop-scalar.invariant
