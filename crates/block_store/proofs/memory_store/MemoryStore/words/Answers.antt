use Rattle.std.proofs.Common.{rules, ◌≤◌, length, slice_index, slice_range, refl, sym, ◌∙◌, ap, arith}
use Rattle.block_store.specs.Memory.{begin_of}
use Rattle.block_store.proofs.LaidLemmas.{in_place}
use Rattle.block_store.proofs.LentLemmas.{size_for_each}
use Rattle.block_store.proofs.memory_store.MemoryStore.words.Goals as goal

pub place_of-requires : goal.place_of-requires
place_of-requires c =
    rw c.deref-2.ensures.value (in_place c.self.inside.ends.items c.self.inside.words.items c.args.self.now c.args.block _ _ c.self.view_is c.self.invariant (size_for_each c.args.self.now c.args.block c.requires) refl refl).known

pub offset_bounds-deref-place_of : goal.offset_bounds-deref-place_of
offset_bounds-deref-place_of c =
    let at = in_place c.self.inside.ends.items c.self.inside.words.items c.args.self.now c.args.block c.place_of.result.start c.place_of.result.end c.self.view_is c.self.invariant
    (size_for_each c.args.self.now c.args.block c.requires)
    (c.place_of.ensures.start ∙ ap (λ ends. begin_of ends c.args.block) c.deref-2.ensures.value) (c.place_of.ensures.end ∙ ap (λ ends. slice_index ends c.args.block) c.deref-2.ensures.value) in
    let low : c.place_of.result.start ≤ length c.deref.result.now = rw c.deref.ensures.value (omega (arith, at.first, at.within)) in
    search rules

pub slice_bounds-result-count : goal.slice_bounds-result-count
slice_bounds-result-count c =
    (in_place c.self.inside.ends.items c.self.inside.words.items c.args.self.now c.args.block c.place_of.result.start c.place_of.result.end c.self.view_is c.self.invariant
    (size_for_each c.args.self.now c.args.block c.requires)
    (c.place_of.ensures.start ∙ ap (λ ends. begin_of ends c.args.block) c.deref-2.ensures.value) (c.place_of.ensures.end ∙ ap (λ ends. slice_index ends c.args.block) c.deref-2.ensures.value)).first

pub slice_bounds-result-start : goal.slice_bounds-result-start
slice_bounds-result-start c =
    let first : c.place_of.result.start ≤ c.place_of.result.end = (in_place c.self.inside.ends.items c.self.inside.words.items c.args.self.now c.args.block c.place_of.result.start c.place_of.result.end c.self.view_is c.self.invariant
    (size_for_each c.args.self.now c.args.block c.requires)
    (c.place_of.ensures.start ∙ ap (λ ends. begin_of ends c.args.block) c.deref-2.ensures.value) (c.place_of.ensures.end ∙ ap (λ ends. slice_index ends c.args.block) c.deref-2.ensures.value)).first in
    search rules

pub slice_bounds-result-end : goal.slice_bounds-result-end
slice_bounds-result-end c =
    let at = in_place c.self.inside.ends.items c.self.inside.words.items c.args.self.now c.args.block c.place_of.result.start c.place_of.result.end c.self.view_is c.self.invariant
    (size_for_each c.args.self.now c.args.block c.requires)
    (c.place_of.ensures.start ∙ ap (λ ends. begin_of ends c.args.block) c.deref-2.ensures.value) (c.place_of.ensures.end ∙ ap (λ ends. slice_index ends c.args.block) c.deref-2.ensures.value) in
    let within : c.place_of.result.end ≤ length c.deref.result.now = rw c.deref.ensures.value at.within in
    search rules

pub returns : goal.returns
returns c =
    let at = in_place c.self.inside.ends.items c.self.inside.words.items c.args.self.now c.args.block c.place_of.result.start c.place_of.result.end c.self.view_is c.self.invariant
    (size_for_each c.args.self.now c.args.block c.requires)
    (c.place_of.ensures.start ∙ ap (λ ends. begin_of ends c.args.block) c.deref-2.ensures.value) (c.place_of.ensures.end ∙ ap (λ ends. slice_index ends c.args.block) c.deref-2.ensures.value) in
    ap (λ words. slice_range words c.place_of.result.start c.place_of.result.end) c.deref.ensures.value ∙ sym at.row
