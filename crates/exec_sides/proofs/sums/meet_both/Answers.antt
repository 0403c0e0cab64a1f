use Rattle.exec_sides.specs.Seen.{lengths_of}
use Rattle.exec_sides.proofs.Joining.{both-met}
use Rattle.exec_sides.proofs.sums.meet_both.Goals as goal

pub returns : goal.returns
returns c =
    both-met c.args.how c.args.second (lengths_of c.args.to.now) _ _ c.args.into.now c.copy_by_name.new.into c.copy_by_name-2.new.into
    c.copy_by_name.ensures c.copy_by_name-2.ensures
