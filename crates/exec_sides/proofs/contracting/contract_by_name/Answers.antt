use Rattle.std.proofs.Common.{◌≡◌, length, arith}
use Rattle.std.proofs.lemmas.List.{nil_from_length}
use Rattle.exec_sides.specs.Contracting.{summed}
use Rattle.exec_sides.specs.Seen.{lengths_of, seen, sight_of}
use Rattle.exec_sides.proofs.Contractions.{first-of-nothing, second-of-nothing}
use Rattle.exec_sides.proofs.Joining.{empty-met}
use Rattle.exec_sides.proofs.contracting.contract_by_name.Goals as goal

pub returns-then-is_empty : goal.returns-then-is_empty
returns-then-is_empty c =
    let none : length c.args.into.now ≡ 0 = grind arith in
    empty-met c.args.how (lengths_of c.args.to.now) (λ t. summed c.args.to.now.at.now t (seen c.args.left.now) (seen c.args.right.now)) c.args.into.now c.requires.fits.target.words none

pub returns-then-is_empty-2 : goal.returns-then-is_empty-2
returns-then-is_empty-2 c =
    let none : length c.args.left.now.words.now ≡ 0 = grind arith in
    first-of-nothing (sight_of c.args.to.now c.args.into.now) (seen c.args.left.now) (seen c.args.right.now) c.requires.fits c.args.how c.args.into.now c.meet_number.new.into (nil_from_length c.args.left.now.words.now none) c.meet_number.ensures

pub returns-then-is_empty-3 : goal.returns-then-is_empty-3
returns-then-is_empty-3 c =
    let none : length c.args.right.now.words.now ≡ 0 = grind arith in
    second-of-nothing (sight_of c.args.to.now c.args.into.now) (seen c.args.left.now) (seen c.args.right.now) c.requires.fits c.args.how c.args.into.now c.meet_number-then-is_empty-3.new.into (nil_from_length c.args.right.now.words.now none) c.meet_number-then-is_empty-3.ensures
