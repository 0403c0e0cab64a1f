use Rattle.std.proofs.Common.{sym, ◌∙◌}
use Rattle.shape_check.proofs.ListLemmas.{others_in}
use Rattle.shape_check.proofs.lists.others_in.Goals as goal

pub returns : goal.returns
returns c = c.each_in_either.ensures ∙ sym (others_in c.args.list.now c.args.without.now c.args.target.now)
