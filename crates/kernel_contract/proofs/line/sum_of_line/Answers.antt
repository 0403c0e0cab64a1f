use Rattle.std.proofs.Common.{length}
use Rattle.kernel_contract.proofs.LineLemmas.{reached_on_line}
use Rattle.kernel_contract.proofs.line.sum_of_line.Goals as goal

pub number_at-left-requires : goal.number_at-left-requires
number_at-left-requires c = reached_on_line (λ x. x.a) c.args.axis.now c.args.from_a c.loop-n.n (length c.args.a.now) c.requires.in_a c.loop-n-test.true

pub number_at-right-requires : goal.number_at-right-requires
number_at-right-requires c = reached_on_line (λ x. x.b) c.args.axis.now c.args.from_b c.loop-n.n (length c.args.b.now) c.requires.in_b c.loop-n-test.true
