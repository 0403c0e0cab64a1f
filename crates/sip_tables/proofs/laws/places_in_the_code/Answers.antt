use Rattle.sip_tables.proofs.PlaceLemmas.{statements_stand, stop_stands, procedures_stand, entries_are_numbers}
use Rattle.sip_tables.proofs.laws.places_in_the_code.Goals as goal

pub returns : goal.returns
returns c = record { statements = statements_stand; stop = stop_stands; procedures = procedures_stand; entries = entries_are_numbers }
