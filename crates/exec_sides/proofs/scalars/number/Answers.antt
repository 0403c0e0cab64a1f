use Rattle.std.proofs.Common.{ap, sym, subst, ◌∙◌, []}
use Rattle.std.specs.Prelude.{unwrap_or}
use Rattle.exec_sides.specs.Fits.{FitsNumber}
use Rattle.sial_meaning.specs.Right as sides
use Rattle.exec_sides.specs.Seen.{side_of, term_of}
use Rattle.exec_sides.proofs.ScalarSides.{alone-number}
use Rattle.exec_sides.proofs.scalars.number.Goals as goal

pub returns-in-Number : goal.returns-in-Number
returns-in-Number c = record {
  value = λ spaces values fits. alone-number spaces c.in-Number.number (side_of c.args.side.now) (ap side_of c.in-Alone.is ∙ ap (λ t. sides.Alone (term_of t)) c.in-Number.is);
}

pub returns-in-Joined : goal.returns-in-Joined
returns-in-Joined c = record {
  value = λ spaces values fits.
      let is = ap side_of c.in-Joined.is in
      c.of_pair.ensures spaces values (subst (λ (s : sides.Side). FitsNumber spaces values s) is fits) ∙ sym (ap (λ s. unwrap_or (sides.side_at spaces [] s) 0) is);
}
