use Rattle.std.proofs.Common.{ap}
use Rattle.exec_sides.specs.Seen.{seen, term_of}
use Rattle.exec_sides.proofs.ScalarSides.{contraction-number, number-contraction, pair-number}
use Rattle.exec_sides.proofs.scalars.of_pair.Goals as goal

pub of_blocks-requires : goal.of_blocks-requires
of_blocks-requires c =
    let fits = c.requires.fits in
    record { fits = number-contraction fits.0 fits.1 (seen c.in-Block.block) (seen c.in-Block-right-2.other) c.args.bin (term_of c.args.left.now) (term_of c.args.right.now) 0 (ap term_of c.in-Block.is) (ap term_of c.in-Block-right-2.is) fits.2 }

pub returns-in-Number-right : goal.returns-in-Number-right
returns-in-Number-right c = λ spaces values fits.
    pair-number spaces c.args.bin c.in-Number.number c.in-Number-right.other c.of_numbers.result (term_of c.args.left.now) (term_of c.args.right.now) (ap term_of c.in-Number.is) (ap term_of c.in-Number-right.is) c.of_numbers.ensures

pub returns-in-Block-right-2 : goal.returns-in-Block-right-2
returns-in-Block-right-2 c = λ spaces values fits.
    contraction-number spaces values (seen c.in-Block.block) (seen c.in-Block-right-2.other) c.args.bin (term_of c.args.left.now) (term_of c.args.right.now) c.of_blocks.result (ap term_of c.in-Block.is) (ap term_of c.in-Block-right-2.is) fits c.of_blocks.ensures
