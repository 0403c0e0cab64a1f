use Rattle.std.proofs.Common.{◌+◌, ◌-◌, ◌%◌, ◌<◌, slice_index_or, ap, ◌∙◌, length-set, arith}
use Rattle.std.proofs.Math.Nat.{mod-lt}
use Rattle.sial_syntax.specs.Spaces.{first_of}
use Rattle.index_spaces.specs.Laid.{over}
use Rattle.index_spaces.specs.Placed.{spans_of}
use Rattle.index_spaces.proofs.BoxLemmas.{count_some, write_turn, passed_turn, write_done}
use Rattle.index_spaces.proofs.boxes.write_tuple.Goals as goal

pub nonzero_rem-into : goal.nonzero_rem-into
nonzero_rem-into c =
    omega (arith, c.row_of-row.ensures.count, count_some (over (spans_of c.args.spans.now)) c.args.indices.now (c.loop-k.k - 1) c.loop-k.k (omega arith) (omega arith) (omega (arith, c.requires.within)))

pub nonzero_div-left : goal.nonzero_div-left
nonzero_div-left c =
    omega (arith, c.row_of-row.ensures.count, count_some (over (spans_of c.args.spans.now)) c.args.indices.now (c.loop-k.k - 1) c.loop-k.k (omega arith) (omega arith) (omega (arith, c.requires.within)))

pub overflow_cast-into-in-loop-k : goal.overflow_cast-into-in-loop-k
overflow_cast-into-in-loop-k c =
    let some : 0 < c.row_of-row.result.count =
    omega (arith, c.row_of-row.ensures.count, count_some (over (spans_of c.args.spans.now)) c.args.indices.now (c.loop-k.k - 1) c.loop-k.k (omega arith) (omega arith) (omega (arith, c.requires.within))) in
    omega (arith, mod-lt c.loop-k.left some, c.row_of-row.ensures.short c.requires.short)

pub overflow_add-into : goal.overflow_add-into
overflow_add-into c =
    let some : 0 < c.row_of-row.result.count =
    omega (arith, c.row_of-row.ensures.count, count_some (over (spans_of c.args.spans.now)) c.args.indices.now (c.loop-k.k - 1) c.loop-k.k (omega arith) (omega arith) (omega (arith, c.requires.within))) in
    omega (arith, mod-lt c.loop-k.left some, c.row_of-row.ensures.short c.requires.short)

pub loop-k-preserved : goal.loop-k-preserved
loop-k-preserved c =
    let spaces = over (spans_of c.args.spans.now) in
    record {
      done = write_turn spaces c.args.indices.now c.loop-k.into (c.loop-k.k - 1) c.loop-k.k c.args.rank c.loop-k.left _ (omega arith) (omega arith) c.loop-k.invariant.long (omega (arith, c.requires.within)) c.loop-k.invariant.left c.loop-k.invariant.done
          (ap (λ f. f + c.loop-k.left % c.row_of-row.result.count) c.row_of-row.ensures.first ∙ ap (λ n. first_of spaces (slice_index_or c.args.indices.now (c.loop-k.k - 1) 0) + c.loop-k.left % n) c.row_of-row.ensures.count);
      left = passed_turn spaces c.args.indices.now (c.loop-k.k - 1) c.loop-k.k c.args.rank c.loop-k.left c.row_of-row.result.count (omega arith) (omega arith) c.loop-k.invariant.left c.row_of-row.ensures.count;
      long = length-set c.loop-k.into (c.loop-k.k - 1) _ ∙ c.loop-k.invariant.long;
    }

pub returns : goal.returns
returns c = write_done (over (spans_of c.args.spans.now)) c.args.indices.now c.loop-k.into c.loop-k.k c.args.rank (omega (arith, c.loop-k-test.false)) c.loop-k.invariant.done c.requires.within
