use Rattle.sial_meaning.proofs.StatesAreWhole.Blocks.{blocks-are-the-map, blocks-are-apart, absent-blocks-are-not-there, nothing-else-is-there, held-blocks-are-the-map}
use Rattle.sial_meaning.proofs.whole.blocks_are_the_map.Goals as goal

pub returns : goal.returns
returns c = record { block = blocks-are-the-map; apart = blocks-are-apart; absent = absent-blocks-are-not-there; others = nothing-else-is-there; held = held-blocks-are-the-map }
