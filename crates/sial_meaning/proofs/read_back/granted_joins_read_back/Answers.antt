use Rattle.sial_meaning.proofs.AssignmentsReadBack.GrantedJoins.{sums-read-back, differences-read-back, outer-products-read-back, contractions-read-back, scalings-read-back}
use Rattle.sial_meaning.proofs.read_back.granted_joins_read_back.Goals as goal

pub returns : goal.returns
returns c = record { sums = sums-read-back; differences = differences-read-back; outer_products = outer-products-read-back; contractions = contractions-read-back; scalings = scalings-read-back }
