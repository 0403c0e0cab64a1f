use Rattle.std.proofs.Common.{◌≡◌, ℕ, List, length, take, ap, ◌∙◌, sym, arith, slice_set}
use Rattle.std.proofs.lemmas.List.{length-replicate, take_all}
use Rattle.block_pool.specs.contracts.pool.Pool.{the_view}
use Rattle.block_pool.specs.Memory.{Memory, words_at, with_front, zeros_at}
use Rattle.block_pool.proofs.Taking.{taken_then_copied, taken_then_written, with_front-all}
use Rattle.block_pool.proofs.pool.Pool.send_copy.Goals as goal

pub returns : goal.returns
returns c =
    let took = c.take_slot-slot.ensures in
    let p : Memory = c.args.self.now in
    let p1 : Memory = c.take_slot-slot.new.self in
    let from : ℕ = c.args.from.now in
    let zeros : List ℕ = zeros_at p c.take_slot-slot.result in
    let sent : List ℕ = words_at p.words from in
    let len : length sent ≡ length zeros = sym (rw length-replicate (c.requires.wide c.take_slot-slot.result took.was.within took.named)) in
    let all : take (length c.words-len.result.now) sent ≡ sent = rw c.words-len.ensures (take_all (length sent) sent (omega arith)) in
    let copied : with_front (words_at p1.words c.take_slot-slot.result) (take (length c.words-len.result.now) (words_at p1.words from)) ≡ sent =
    taken_then_copied _ _ _ _ _ _ took from (length c.words-len.result.now) c.requires.from ∙ (ap (with_front zeros) all ∙ with_front-all zeros sent len) in
    let rows : c.self.inside.rows ≡ p1.words = ap (λ (q : Memory). q.words) c.self.view_is in
    let written : c.copy_front.new.self ≡ slice_set c.self.inside.rows c.take_slot-slot.result sent =
    c.copy_front.ensures ∙ rw (rows, c.from.view_is) (ap (slice_set p1.words c.take_slot-slot.result) copied) in
    taken_then_written _ _ _ _ _ _ took _ sent len (rw (← c.self.view_is) (ap (λ (w : List (List ℕ)). record (the_view c.self.inside) { words = w }) written))
