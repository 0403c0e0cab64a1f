use Rattle.std.proofs.Common.{ℕ, ◌<◌, List, [], map, length, slice_set, slice_index_or, ap, ◌∙◌, sym, refl, subst}
use Rattle.std.proofs.lemmas.List.{length-map}
use Rattle.std.specs.Vec.{with_item}
use Rattle.first_profile.proofs.NumbersLemmas.{nested_set}
use Rattle.first_profile.specs.Running.{Numbers}
use Rattle.first_profile.proofs.machine.Machine.set_block.Goals as goal

pub returns : goal.returns
returns c =
    let inside = c.self.inside in
    let seen = c.self.view_is in
    let within : c.args.array < length inside.statics.items =
    subst (λ n. c.args.array < n) (ap (λ (m : Numbers). length m.statics) (sym seen) ∙ length-map inside.statics.items (λ a. map (λ b. b.items) a.items)) c.requires.array in
    let set = nested_set (λ a. a.items) (λ b. b.items) inside.statics.items c.args.array c.args.number c.index_mut-blocks.result.now (with_item c.index_mut-blocks.result.now c.args.number c.args.words) c.args.words within c.index_mut-blocks.ensures.value refl in
    let from_inside : List (List (List ℕ)) → Numbers = λ s. record { values = inside.values.items; scalars = inside.scalars.items; statics = s } in
    ap from_inside set
    ∙ ap
    (λ (m : Numbers). record m { statics = slice_set m.statics c.args.array (slice_set (slice_index_or m.statics c.args.array []) c.args.number c.args.words.items) })
    seen
