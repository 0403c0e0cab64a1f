use Rattle.std.proofs.Common.{ap}
use Rattle.exec_sides.specs.Seen.{seen, sight_of, term_of}
use Rattle.exec_sides.proofs.Paired.{left-assigned, left-copy, right-assigned, right-copy}
use Rattle.exec_sides.proofs.assigning.meet_pair.Goals as goal

pub meet_scaled-requires : goal.meet_scaled-requires
meet_scaled-requires c =
    let fits = c.requires.fits in
    record { fits = left-copy fits.0 fits.1 c.args.how (sight_of c.args.to.now c.args.into.now) (seen c.in-Block.block) c.in-Number-right.number c.args.bin (term_of c.args.left.now) (term_of c.args.right.now) (ap term_of c.in-Block.is) (ap term_of c.in-Number-right.is) fits.2 }

pub meet_scaled-requires-in-Block-right-2 : goal.meet_scaled-requires-in-Block-right-2
meet_scaled-requires-in-Block-right-2 c =
    let fits = c.requires.fits in
    record { fits = right-copy fits.0 fits.1 c.args.how (sight_of c.args.to.now c.args.into.now) (seen c.in-Block-right-2.block) c.in-Number.number c.args.bin (term_of c.args.left.now) (term_of c.args.right.now) (ap term_of c.in-Number.is) (ap term_of c.in-Block-right-2.is) fits.2 }

pub returns-in-Number-right : goal.returns-in-Number-right
returns-in-Number-right c = λ spaces values fits.
    left-assigned spaces values c.args.how (sight_of c.args.to.now c.args.into.now) (seen c.in-Block.block) c.in-Number-right.number c.args.bin (term_of c.args.left.now) (term_of c.args.right.now) c.meet_scaled.new.into (ap term_of c.in-Block.is) (ap term_of c.in-Number-right.is) fits c.meet_scaled.ensures

pub returns-in-Block-right-2 : goal.returns-in-Block-right-2
returns-in-Block-right-2 c = λ spaces values fits.
    right-assigned spaces values c.args.how (sight_of c.args.to.now c.args.into.now) (seen c.in-Block-right-2.block) c.in-Number.number c.args.bin (term_of c.args.left.now) (term_of c.args.right.now) c.meet_scaled-in-Block-right-2.new.into (ap term_of c.in-Number.is) (ap term_of c.in-Block-right-2.is) fits c.meet_scaled-in-Block-right-2.ensures
