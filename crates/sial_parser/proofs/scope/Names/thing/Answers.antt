use Rattle.std.proofs.Common.{◌∙◌}
use Rattle.sial_parser.proofs.NamesLemmas.{looked}
use Rattle.sial_parser.proofs.scope.Names.thing.Goals as goal

pub returns : goal.returns
returns c = c.copied.ensures ∙ c.get.ensures.value ∙ looked c.args.name.now c.args.self.now.things.entries
