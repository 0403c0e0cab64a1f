use Rattle.std.proofs.Common.{◌+◌, ◌∙◌, ap, refl, take, get_or, arith}
use Rattle.block_pool.specs.Cut.{total}
use Rattle.block_pool.specs.Runs.{widths_of}
use Rattle.block_pool.proofs.RowPlaces.{row_at, row_lent}
use Rattle.block_pool.proofs.rows.Rows.row_mut.Goals as goal

pub place_of-place-requires-clause-within : goal.place_of-place-requires-clause-within
place_of-place-requires-clause-within c =
    rw c.deref.ensures.value (row_at (widths_of c.self.inside.runs.items) c.self.inside.words.items c.args.self.now c.args.slot _ _ c.self.view_is c.self.invariant c.requires refl refl).known

pub slice_mut-requires-clause-in_bounds : goal.slice_mut-requires-clause-in_bounds
slice_mut-requires-clause-in_bounds c =
    let at = row_at (widths_of c.self.inside.runs.items) c.self.inside.words.items c.args.self.now c.args.slot c.place_of-place.result.start c.place_of-place.result.end c.self.view_is c.self.invariant c.requires
    (c.place_of-place.ensures.start ∙ ap (λ r. total (take c.args.slot (widths_of r))) c.deref.ensures.value)
    (c.place_of-place.ensures.end ∙ ap (λ r. total (take c.args.slot (widths_of r)) + get_or (widths_of r) c.args.slot 0) c.deref.ensures.value) in
    omega (arith, at.within, c.self.inside.words.ok.0)

pub returns : goal.returns
returns c =
    let at = row_at (widths_of c.self.inside.runs.items) c.self.inside.words.items c.args.self.now c.args.slot c.place_of-place.result.start c.place_of-place.result.end c.self.view_is c.self.invariant c.requires
    (c.place_of-place.ensures.start ∙ ap (λ r. total (take c.args.slot (widths_of r))) c.deref.ensures.value)
    (c.place_of-place.ensures.end ∙ ap (λ r. total (take c.args.slot (widths_of r)) + get_or (widths_of r) c.args.slot 0) c.deref.ensures.value) in
    ((refl, λ w. row_lent (widths_of c.self.inside.runs.items) c.self.inside.words c.args.self.now c.args.slot c.place_of-place.result.start w c.self.view_is c.self.invariant at.begins), record { writes_back = tt; value = c.slice_mut.ensures.value ∙ at.row })
