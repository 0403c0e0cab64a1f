use Rattle.std.proofs.Common.{rules, ◌≤◌, ◌-◌, length, drop, slice_index, slice_range, Some, refl, ◌∙◌, ap, sym, arith, length-take, length-drop}
use Rattle.block_store.specs.Memory.{begin_of}
use Rattle.block_store.proofs.LaidLemmas.{InPlace, in_place}
use Rattle.block_store.proofs.MemoryLemmas.{get-blocks_of}
use Rattle.block_store.proofs.memory_store.MemoryStoreStore.read.Goals as goal

pub place_of-place-requires : goal.place_of-place-requires
place_of-place-requires c =
    rw c.deref.ensures.value (in_place c.self.inside.ends.items c.self.inside.words.items c.args.self.now c.args.block _ _ c.self.view_is c.self.invariant c.requires.block refl refl).known

-- where the block stands
place : (c : goal.After-deref-2) → InPlace c.self.inside.ends.items c.self.inside.words.items c.args.self.now c.args.block c.place_of-place.result.start c.place_of-place.result.end
place c =
    in_place c.self.inside.ends.items c.self.inside.words.items c.args.self.now c.args.block c.place_of-place.result.start c.place_of-place.result.end c.self.view_is c.self.invariant c.requires.block
    (c.place_of-place.ensures.start ∙ ap (λ ends. begin_of ends c.args.block) c.deref.ensures.value) (c.place_of-place.ensures.end ∙ ap (λ ends. slice_index ends c.args.block) c.deref.ensures.value)

pub offset_bounds-deref-place : goal.offset_bounds-deref-place
offset_bounds-deref-place c =
    let at = place c in
    let low : c.place_of-place.result.start ≤ length c.deref-2.result.now = rw c.deref-2.ensures.value (omega (arith, at.first, at.within)) in
    search rules

pub slice_bounds-copy_from_slice-count : goal.slice_bounds-copy_from_slice-count
slice_bounds-copy_from_slice-count c = (place c).first

pub slice_bounds-copy_from_slice-start : goal.slice_bounds-copy_from_slice-start
slice_bounds-copy_from_slice-start c =
    let first : c.place_of-place.result.start ≤ c.place_of-place.result.end = (place c).first in
    search rules

pub slice_bounds-copy_from_slice-end : goal.slice_bounds-copy_from_slice-end
slice_bounds-copy_from_slice-end c =
    let within : c.place_of-place.result.end ≤ length c.deref-2.result.now = rw c.deref-2.ensures.value (place c).within in
    search rules

pub copy_from_slice-requires : goal.copy_from_slice-requires
copy_from_slice-requires c =
    let at = in_place c.self.inside.ends.items c.self.inside.words.items c.args.self.now c.args.block c.place_of-place.result.start c.place_of-place.result.end c.self.view_is c.self.invariant c.requires.block
    (c.place_of-place.ensures.start ∙ ap (λ ends. begin_of ends c.args.block) c.deref.ensures.value) (c.place_of-place.ensures.end ∙ ap (λ ends. slice_index ends c.args.block) c.deref.ensures.value) in
    let within : c.place_of-place.result.end ≤ length c.deref-2.result.now = rw c.deref-2.ensures.value at.within in
    omega (arith, c.requires.len, at.size, at.first, within, length-take (c.place_of-place.result.end - c.place_of-place.result.start) (drop c.place_of-place.result.start c.deref-2.result.now), length-drop c.place_of-place.result.start c.deref-2.result.now)

pub returns-clause-ok : goal.returns-clause-ok
returns-clause-ok c =
    let at = in_place c.self.inside.ends.items c.self.inside.words.items c.args.self.now c.args.block c.place_of-place.result.start c.place_of-place.result.end c.self.view_is c.self.invariant c.requires.block
    (c.place_of-place.ensures.start ∙ ap (λ ends. begin_of ends c.args.block) c.deref.ensures.value) (c.place_of-place.ensures.end ∙ ap (λ ends. slice_index ends c.args.block) c.deref.ensures.value) in
    get-blocks_of c.args.self.now c.args.block c.requires.block
    ∙ ap Some (at.row ∙ (ap (λ words. slice_range words c.place_of-place.result.start c.place_of-place.result.end) (sym c.deref-2.ensures.value) ∙ sym c.copy_from_slice.ensures.after))
