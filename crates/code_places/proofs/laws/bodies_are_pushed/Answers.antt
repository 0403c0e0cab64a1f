use Rattle.code_places.proofs.Pushing.{place_push, follows_push, returns_push, values_push}
use Rattle.code_places.proofs.laws.bodies_are_pushed.Goals as goal

pub returns : goal.returns
returns c = record { place = place_push; follows = follows_push; returns = returns_push; values = values_push }
