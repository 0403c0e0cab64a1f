use Rattle.sial_syntax.specs.Tree.{tree}
use Rattle.first_profile.proofs.ProfileLemmas.{found}
use Rattle.first_profile.proofs.profile.is_first_tree.Goals as goal

pub returns : goal.returns
returns c = found (tree c.args.program.now) c.is_of_profile.result c.is_of_profile.ensures
