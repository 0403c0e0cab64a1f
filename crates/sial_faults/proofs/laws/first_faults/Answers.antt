use Rattle.sial_faults.proofs.Order.{fault_is_told}
use Rattle.sial_faults.proofs.TextFaults.{first_stands, none_stand, programs_have_form}
use Rattle.sial_faults.proofs.laws.first_faults.Goals as goal

pub returns : goal.returns
returns c = record { told = fault_is_told; stands = first_stands; none_stands = none_stand; form = programs_have_form }
