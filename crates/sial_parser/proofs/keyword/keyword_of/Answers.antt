use Rattle.std.proofs.Common.{◌∙◌, ap, map}
use Rattle.sial_parser.specs.Words.{entry_of}
use Rattle.sial_parser.proofs.keyword.keyword_of.Goals as goal

pub returns : goal.returns
returns c = c.look_up.ensures ∙ ap (λ t. entry_of (map (λ e. (e.0.now, e.1)) t) c.args.word.now) c.as_slice.ensures
