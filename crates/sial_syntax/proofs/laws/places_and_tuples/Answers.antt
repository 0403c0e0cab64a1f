use Rattle.sial_syntax.proofs.BoxLemmas.{place-of-tuple, tuple-of-place, place-within, tuple-within}
use Rattle.sial_syntax.proofs.laws.places_and_tuples.Goals as goal

pub returns : goal.returns
returns c = record { place = place-of-tuple; tuple = tuple-of-place; place_within = place-within; tuple_within = tuple-within }
