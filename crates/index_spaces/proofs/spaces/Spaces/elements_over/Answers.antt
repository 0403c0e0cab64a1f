use Rattle.std.proofs.Common.{◌∙◌}
use Rattle.index_spaces.proofs.ElementLemmas.{elements_by_positions}
use Rattle.index_spaces.proofs.spaces.Spaces.elements_over.Goals as goal

pub returns : goal.returns
returns c = c.product.ensures ∙ elements_by_positions c.args.self.now.spaces c.args.indices.now
