use Rattle.sial_meaning.proofs.AssignmentsReadBack.Joins.{sums-by-name, differences-by-name, outer-products-by-name, contractions-by-name, contractions-to-numbers, scalings-by-name, fills-everywhere}
use Rattle.sial_meaning.proofs.read_back.joins_read_back.Goals as goal

pub returns : goal.returns
returns c = record { sums = sums-by-name; differences = differences-by-name; outer_products = outer-products-by-name; contractions = contractions-by-name; numbers = contractions-to-numbers; scalings = scalings-by-name; fills = fills-everywhere }
