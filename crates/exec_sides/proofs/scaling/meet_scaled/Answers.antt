use Rattle.exec_sides.specs.Seen.{lengths_of, seen, sight_of}
use Rattle.exec_sides.proofs.Joining.{met-same}
use Rattle.exec_sides.proofs.Pairs.{scaled-fits, scaled-is}
use Rattle.exec_sides.proofs.scaling.meet_scaled.Goals as goal

pub contract_by_name-requires : goal.contract_by_name-requires
contract_by_name-requires c = record { fits = scaled-fits (sight_of c.args.to.now c.args.into.now) (seen c.args.from.now) c.args.number c.requires.fits }

pub returns : goal.returns
returns c = met-same c.args.how (lengths_of c.args.to.now) _ _ c.args.into.now c.contract_by_name.new.into (λ t. scaled-is c.args.to.now.at.now t (seen c.args.from.now) c.args.number) c.contract_by_name.ensures
