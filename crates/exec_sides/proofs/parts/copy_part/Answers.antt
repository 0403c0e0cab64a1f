use Rattle.std.proofs.Common.{◌≡◌, length, arith}
use Rattle.exec_sides.specs.Seen.{seen, sight_of}
use Rattle.exec_sides.proofs.PartBlocks.{nothing-meets, nothing-to-meet}
use Rattle.exec_sides.proofs.parts.copy_part.Goals as goal

pub returns-then-is_empty : goal.returns-then-is_empty
returns-then-is_empty c =
    let none : length c.args.into.now ≡ 0 = grind arith in
    nothing-to-meet c.args.how (sight_of c.args.to.now c.args.into.now) (seen c.args.from.now) c.requires.fits.target none

pub returns-then-is_empty-2 : goal.returns-then-is_empty-2
returns-then-is_empty-2 c =
    let none : length c.args.from.now.words.now ≡ 0 = grind arith in
    nothing-meets c.args.how (sight_of c.args.to.now c.args.into.now) (seen c.args.from.now) c.requires.fits.same c.requires.fits.source none
