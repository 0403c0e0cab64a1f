use Rattle.std.proofs.Common.{sym, ◌∙◌}
use Rattle.exec_sides.specs.Seen.{seen, sight_of}
use Rattle.exec_sides.proofs.Allowed.{cut-allowed, named-part, part-assigned}
use Rattle.exec_sides.proofs.Linking.{copy-assigned, named-copy}
use Rattle.exec_sides.proofs.assigning.meet_block.Goals as goal

pub copy_by_name-requires : goal.copy_by_name-requires
copy_by_name-requires c =
    let fits = c.requires.fits in
    record { fits = named-copy fits.0 fits.1 (sight_of c.args.to.now c.args.into.now) (seen c.args.from.now) fits.2.target fits.2.side (sym c.have_same.ensures ∙ c.if-have_same.true) }

pub copy_part-requires : goal.copy_part-requires
copy_part-requires c =
    let fits = c.requires.fits in
    record {
      fits = named-part fits.0 fits.1 (sight_of c.args.to.now c.args.into.now) (seen c.args.from.now) fits.2.flat fits.2.target fits.2.side
          (cut-allowed fits.0 c.args.how c.args.to.now.at.now (seen c.args.from.now) fits.2.agrees (sym c.have_same.ensures ∙ c.if-have_same.false));
    }

pub returns-then-have_same : goal.returns-then-have_same
returns-then-have_same c = λ spaces values fits.
    copy-assigned spaces values c.args.how (sight_of c.args.to.now c.args.into.now) (seen c.args.from.now) c.copy_by_name.new.into fits.target fits.side (sym c.have_same.ensures ∙ c.if-have_same.true) c.copy_by_name.ensures

pub returns-else-have_same : goal.returns-else-have_same
returns-else-have_same c = λ spaces values fits.
    part-assigned spaces values c.args.how (sight_of c.args.to.now c.args.into.now) (seen c.args.from.now) c.copy_part.new.into fits.flat fits.target fits.side
    (cut-allowed spaces c.args.how c.args.to.now.at.now (seen c.args.from.now) fits.agrees (sym c.have_same.ensures ∙ c.if-have_same.false)) c.copy_part.ensures
