use Rattle.std.proofs.Common.{slice_index, refl, sym, ◌∙◌, ap, arith}
use Rattle.block_store.specs.Memory.{begin_of}
use Rattle.block_store.proofs.LaidLemmas.{in_place}
use Rattle.block_store.proofs.LentLemmas.{lent, lent_same, size_for_each}
use Rattle.block_store.proofs.memory_store.MemoryStore.words_mut.Goals as goal

pub place_of-place-requires : goal.place_of-place-requires
place_of-place-requires c =
    rw c.deref.ensures.value (in_place c.self.inside.ends.items c.self.inside.words.items c.args.self.now c.args.block _ _ c.self.view_is c.self.invariant (size_for_each c.args.self.now c.args.block c.requires) refl refl).known

pub slice_mut-requires-clause-in_bounds : goal.slice_mut-requires-clause-in_bounds
slice_mut-requires-clause-in_bounds c =
    let at = in_place c.self.inside.ends.items c.self.inside.words.items c.args.self.now c.args.block c.place_of-place.result.start c.place_of-place.result.end c.self.view_is c.self.invariant
    (size_for_each c.args.self.now c.args.block c.requires)
    (c.place_of-place.ensures.start ∙ ap (λ ends. begin_of ends c.args.block) c.deref.ensures.value) (c.place_of-place.ensures.end ∙ ap (λ ends. slice_index ends c.args.block) c.deref.ensures.value) in
    omega (arith, at.within, c.self.inside.words.ok.0)

pub slice_mut-requires-clause-start_le_end : goal.slice_mut-requires-clause-start_le_end
slice_mut-requires-clause-start_le_end c =
    (in_place c.self.inside.ends.items c.self.inside.words.items c.args.self.now c.args.block c.place_of-place.result.start c.place_of-place.result.end c.self.view_is c.self.invariant
    (size_for_each c.args.self.now c.args.block c.requires)
    (c.place_of-place.ensures.start ∙ ap (λ ends. begin_of ends c.args.block) c.deref.ensures.value) (c.place_of-place.ensures.end ∙ ap (λ ends. slice_index ends c.args.block) c.deref.ensures.value)).first

pub returns : goal.returns
returns c =
    let at = in_place c.self.inside.ends.items c.self.inside.words.items c.args.self.now c.args.block c.place_of-place.result.start c.place_of-place.result.end c.self.view_is c.self.invariant
    (size_for_each c.args.self.now c.args.block c.requires)
    (c.place_of-place.ensures.start ∙ ap (λ ends. begin_of ends c.args.block) c.deref.ensures.value) (c.place_of-place.ensures.end ∙ ap (λ ends. slice_index ends c.args.block) c.deref.ensures.value) in
    let value = c.slice_mut.ensures.value ∙ sym at.row in (
      (refl, λ w. lent c.self.inside.ends.items c.self.inside.words c.args.self.now c.args.block c.place_of-place.result.start w c.self.view_is c.self.invariant at.begins),
      record {
        writes_back = tt;
        value = value;
        same = λ ws long. lent_same c.self.inside.ends.items c.self.inside.words.items c.args.self.now c.args.block _ ws c.self.view_is c.self.invariant c.requires value long;
      },
    )
