use Rattle.std.proofs.Common.{◌∙◌, ◌++◌, ◌∷◌, [], sym, ap, take, arith, length-set}
use Rattle.std.proofs.lemmas.List.{take_more_set}
use Rattle.exec_sides.specs.Parts.{starts_in}
use Rattle.exec_sides.specs.Seen.{extents_of}
use Rattle.exec_sides.proofs.Filling.{lies-read, starts_read}
use Rattle.exec_sides.proofs.parts.starts_of.Goals as goal

pub start_in-requires : goal.start_in-requires
start_in-requires c =
    let test = c.loop-k-test.true in
    lies-read c.args.parts.now c.args.wholes.now c.loop-k.k c.index-parts-k.result c.index-wholes-k.result c.requires.within test c.index-parts-k.is c.index-wholes-k.is

pub loop-k-preserved : goal.loop-k-preserved
loop-k-preserved c =
    let test = c.loop-k-test.true in
    let same = c.requires.same in
    let few = c.requires.few in
    let long = c.loop-k.invariant.long in
    record {
      done =
          take_more_set c.loop-k.starts c.loop-k.k c.start_in.result (omega (arith, test, few, long))
          ∙ (ap (λ xs. xs ++ c.start_in.result ∷ []) c.loop-k.invariant.done
          ∙ (ap (λ n. starts_in (extents_of (take c.loop-k.k c.args.parts.now)) (extents_of (take c.loop-k.k c.args.wholes.now)) ++ n ∷ []) c.start_in.ensures
          ∙ sym (starts_read c.args.parts.now c.args.wholes.now c.loop-k.k c.index-parts-k.result c.index-wholes-k.result test (omega (arith, test, same)) c.index-parts-k.is c.index-wholes-k.is)));
      long = length-set c.loop-k.starts c.loop-k.k c.start_in.result ∙ long;
    }
