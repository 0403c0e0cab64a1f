use Rattle.std.proofs.Common.{◌≡◌, ◌≤◌, ℕ, List, length, take, ap, ◌∙◌, slice_set}
use Rattle.std.proofs.lemmas.List.{length-replicate, length-take-le}
use Rattle.block_pool.specs.contracts.pool.Pool.{the_view}
use Rattle.block_pool.specs.Memory.{Memory, words_at, with_front, zeros_at}
use Rattle.block_pool.proofs.CutLemmas.{length-with_front}
use Rattle.block_pool.proofs.Taking.{taken_then_copied, taken_then_written}
use Rattle.block_pool.proofs.pool.Pool.send_in.Goals as goal

pub returns : goal.returns
returns c =
    let took = c.take_slot-slot.ensures in
    let p : Memory = c.args.self.now in
    let p1 : Memory = c.take_slot-slot.new.self in
    let from : ℕ = c.args.from.now in
    let zeros : List ℕ = zeros_at p c.take_slot-slot.result in
    let front : List ℕ = take c.args.len (words_at p.words from) in
    let copied : with_front (words_at p1.words c.take_slot-slot.result) (take c.args.len (words_at p1.words from)) ≡ with_front zeros front =
    taken_then_copied _ _ _ _ _ _ took from c.args.len c.requires.from in
    let rows : c.self.inside.rows ≡ p1.words = ap (λ (q : Memory). q.words) c.self.view_is in
    let written : c.copy_front.new.self ≡ slice_set c.self.inside.rows c.take_slot-slot.result (with_front zeros front) =
    c.copy_front.ensures ∙ rw (rows, c.from.view_is) (ap (slice_set p1.words c.take_slot-slot.result) copied) in
    let fits : c.args.len ≤ length (words_at p.words from) = c.requires.from_len in
    let len : length (with_front zeros front) ≡ length zeros =
    length-with_front zeros front (rw (length-take-le, length-replicate) (c.requires.fits c.take_slot-slot.result took.was.within took.named)) in
    taken_then_written _ _ _ _ _ _ took _ (with_front zeros front) len (rw (← c.self.view_is) (ap (λ (w : List (List ℕ)). record (the_view c.self.inside) { words = w }) written))
