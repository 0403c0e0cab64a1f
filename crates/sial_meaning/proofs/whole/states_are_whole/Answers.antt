use Rattle.sial_meaning.proofs.StatesAreWhole.Maps.{blocks-of-states-are-the-map, locals-of-states-are-the-map, absent-locals-are-not-there, temps-of-states-are-the-map}
use Rattle.sial_meaning.proofs.StatesAreWhole.Steps.{reached-states-are-whole, outcomes-are-reached}
use Rattle.sial_meaning.proofs.whole.states_are_whole.Goals as goal

pub returns : goal.returns
returns c = record { whole = reached-states-are-whole; outcome = outcomes-are-reached; block = blocks-of-states-are-the-map; local = locals-of-states-are-the-map; absent = absent-locals-are-not-there; held = temps-of-states-are-the-map }
