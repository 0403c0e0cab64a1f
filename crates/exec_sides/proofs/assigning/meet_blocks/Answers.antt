use Rattle.std.proofs.Common.{true, false}
use Rattle.exec_sides.specs.Seen.{seen, sight_of}
use Rattle.exec_sides.proofs.Paired.{outer-assigned, outer-fits, sum-assigned, sum-copies, times-assigned, times-fits}
use Rattle.exec_sides.proofs.assigning.meet_blocks.Goals as goal

pub join_by_name-requires-clause-first : goal.join_by_name-requires-clause-first
join_by_name-requires-clause-first c = let fits = c.requires.fits in (sum-copies fits.0 fits.1 c.args.how (sight_of c.args.to.now c.args.into.now) (seen c.args.left.now) (seen c.args.right.now) false c.args.bin c.in-Plus.is fits.2).0

pub join_by_name-requires-clause-second : goal.join_by_name-requires-clause-second
join_by_name-requires-clause-second c = let fits = c.requires.fits in (sum-copies fits.0 fits.1 c.args.how (sight_of c.args.to.now c.args.into.now) (seen c.args.left.now) (seen c.args.right.now) false c.args.bin c.in-Plus.is fits.2).1

pub join_by_name-requires-in-Minus-clause-first : goal.join_by_name-requires-in-Minus-clause-first
join_by_name-requires-in-Minus-clause-first c = let fits = c.requires.fits in (sum-copies fits.0 fits.1 c.args.how (sight_of c.args.to.now c.args.into.now) (seen c.args.left.now) (seen c.args.right.now) true c.args.bin c.in-Minus.is fits.2).0

pub join_by_name-requires-in-Minus-clause-second : goal.join_by_name-requires-in-Minus-clause-second
join_by_name-requires-in-Minus-clause-second c = let fits = c.requires.fits in (sum-copies fits.0 fits.1 c.args.how (sight_of c.args.to.now c.args.into.now) (seen c.args.left.now) (seen c.args.right.now) true c.args.bin c.in-Minus.is fits.2).1

pub contract_by_name-requires : goal.contract_by_name-requires
contract_by_name-requires c = let fits = c.requires.fits in record { fits = times-fits fits.0 fits.1 c.args.how (sight_of c.args.to.now c.args.into.now) (seen c.args.left.now) (seen c.args.right.now) c.args.bin c.in-Times.is fits.2 }

pub contract_by_name-requires-in-Outer : goal.contract_by_name-requires-in-Outer
contract_by_name-requires-in-Outer c = let fits = c.requires.fits in record { fits = outer-fits fits.0 fits.1 c.args.how (sight_of c.args.to.now c.args.into.now) (seen c.args.left.now) (seen c.args.right.now) c.args.bin c.in-Outer.is fits.2 }

pub returns-in-Plus : goal.returns-in-Plus
returns-in-Plus c = λ spaces values fits. sum-assigned spaces values c.args.how (sight_of c.args.to.now c.args.into.now) (seen c.args.left.now) (seen c.args.right.now) false c.args.bin c.join_by_name.new.into c.in-Plus.is fits c.join_by_name.ensures

pub returns-in-Minus : goal.returns-in-Minus
returns-in-Minus c = λ spaces values fits. sum-assigned spaces values c.args.how (sight_of c.args.to.now c.args.into.now) (seen c.args.left.now) (seen c.args.right.now) true c.args.bin c.join_by_name-in-Minus.new.into c.in-Minus.is fits c.join_by_name-in-Minus.ensures

pub returns-in-Times : goal.returns-in-Times
returns-in-Times c = λ spaces values fits. times-assigned spaces values c.args.how (sight_of c.args.to.now c.args.into.now) (seen c.args.left.now) (seen c.args.right.now) c.args.bin c.contract_by_name.new.into c.in-Times.is fits c.contract_by_name.ensures

pub returns-in-Outer : goal.returns-in-Outer
returns-in-Outer c = λ spaces values fits. outer-assigned spaces values c.args.how (sight_of c.args.to.now c.args.into.now) (seen c.args.left.now) (seen c.args.right.now) c.args.bin c.contract_by_name-in-Outer.new.into c.in-Outer.is fits c.contract_by_name-in-Outer.ensures
