use Rattle.sial_parser.proofs.TextLemmas.{text_found, text_read, one_tree, proper_tree}
use Rattle.sial_parser.proofs.laws.texts_and_trees.Goals as goal

pub returns : goal.returns
returns c = record { exactly = λ text p. (text_found text p, text_read text p); one_tree = one_tree; proper = proper_tree }
