use Rattle.std.proofs.Common.{rules, ◌≡◌, replicate, sym, arith}
use Rattle.std.proofs.lemmas.List.{length-replicate}
use Rattle.block_store.proofs.LaidLemmas.{in_order, zeros_at_first, all_ended}
use Rattle.block_store.proofs.memory_store.MemoryStore.open.Goals as goal

pub invariant_of-result : goal.invariant_of-result
invariant_of-result c =
    let i = c.loop-size.invariant in
    let all = all_ended c.args.sizes.now c.loop-size.ends.items c.loop-size.end c.loop-size.size-index i.ends i.last c.loop-size-test.false in
    let words : c.in_ok-words.words.items ≡ replicate c.loop-size.end 0 = search rules in
    rw (all.ends, words) (in_order 0 c.args.sizes.now _ (rw length-replicate (sym all.last)))

pub returns : goal.returns
returns c =
    let i = c.loop-size.invariant in
    let all = all_ended c.args.sizes.now c.loop-size.ends.items c.loop-size.end c.loop-size.size-index i.ends i.last c.loop-size-test.false in
    let words : c.in_ok-words.words.items ≡ replicate c.loop-size.end 0 = search rules in
    rw (all.ends, words) (zeros_at_first 0 c.args.sizes.now c.loop-size.end (omega (arith, all.last)))
