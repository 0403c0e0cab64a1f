use Rattle.std.proofs.Common.{◌≡◌, ◌≤◌, List, [], ◌∷◌, ◌++◌, sum, slice_index_or, ap, sym, ◌∙◌, subst, refl, arith, IsTrue}
use Rattle.index_spaces.specs.declared.extent.Extent.{Extent}
use Rattle.index_spaces.specs.Placed.{follow_from, are_near, lengths_of}
use Rattle.index_spaces.proofs.SegmentLemmas.{follow_push, near_push, is_short_at, lengths_push, sum_push}
use Rattle.index_spaces.proofs.cuts.extents.Goals as goal

pub loop-len-preserved : goal.loop-len-preserved
loop-len-preserved c =
    let i = c.loop-len.len-index in
    let es = c.loop-len.segments.items in
    let len = slice_index_or c.args.lengths.now i 0 in
    let e : Extent = record { start = c.loop-len.start; len = len } in
    let new : c.push.new.self.items ≡ es ++ e ∷ [] = c.in_ok-push.ensures.items in
    let short : len ≤ 1024 = is_short_at c.args.lengths.now i 0 c.requires.short c.loop-len-test.true in
    record {
      lengths = ap lengths_of new ∙ lengths_push c.args.lengths.now i es e c.loop-len.invariant.lengths c.loop-len-test.true refl;
      start = omega (arith, ap (λ (x : List Extent). sum (lengths_of x)) new, sum_push es e, c.loop-len.invariant.start);
      near = omega (arith, short, c.loop-len.invariant.near);
      follow = subst (λ (x : List Extent). IsTrue (follow_from 1 x)) (sym new) (follow_push 1 es e c.loop-len.invariant.follow c.loop-len.invariant.start);
      small = subst (λ (x : List Extent). IsTrue (are_near x)) (sym new) (near_push es e c.loop-len.invariant.small (omega (arith, c.loop-len.invariant.near, c.requires.few, c.loop-len-test.true)) short);
    }
