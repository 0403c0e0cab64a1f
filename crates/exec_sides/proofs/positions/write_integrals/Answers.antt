use Rattle.std.proofs.Common.{◌∙◌, ◌++◌, ◌∷◌, [], map, sym, ap, length-set, arith}
use Rattle.std.proofs.lemmas.List.{take_more_set}
use Rattle.sial_syntax.specs.Boxes.{numbers_from}
use Rattle.exec_sides.specs.Seen.{extents_of}
use Rattle.exec_sides.proofs.PlaceByPlace.{integral_of, integrals_all, integrals_more}
use Rattle.exec_sides.proofs.positions.write_integrals.Goals as goal

pub loop-place-preserved : goal.loop-place-preserved
loop-place-preserved c =
    let test = c.loop-place-test.true in
    let long = c.loop-place.invariant.long in
    record {
      done =
          take_more_set c.loop-place.into c.loop-place.place c.integral_at.result (omega (arith, test, long))
          ∙ (ap (λ xs. xs ++ c.integral_at.result ∷ []) c.loop-place.invariant.done
          ∙ (ap (λ n. map (integral_of (extents_of c.args.extents.now)) (numbers_from 0 c.loop-place.place) ++ n ∷ []) c.integral_at.ensures
          ∙ sym (integrals_more (integral_of (extents_of c.args.extents.now)) c.loop-place.place)));
      long = length-set c.loop-place.into c.loop-place.place c.integral_at.result ∙ long;
    }

pub returns : goal.returns
returns c =
    let long = c.loop-place.invariant.long in
    integrals_all (extents_of c.args.extents.now) c.loop-place.into c.loop-place.place (omega arith) (omega arith) (long ∙ c.requires.words) c.loop-place.invariant.done
