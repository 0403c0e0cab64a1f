use Rattle.std.proofs.Common.{rules, ◌+◌, ◌≤◌, ◌∙◌, ap, refl, take, get_or, length, slice_range, arith}
use Rattle.block_pool.specs.Cut.{total}
use Rattle.block_pool.specs.Runs.{widths_of}
use Rattle.block_pool.proofs.RowPlaces.{row_at}
use Rattle.block_pool.proofs.rows.Rows.row.Goals as goal

pub place_of-requires-clause-within : goal.place_of-requires-clause-within
place_of-requires-clause-within c =
    rw c.deref-2.ensures.value (row_at (widths_of c.self.inside.runs.items) c.self.inside.words.items c.args.self.now c.args.slot _ _ c.self.view_is c.self.invariant c.requires refl refl).known

pub offset_bounds-deref-place_of : goal.offset_bounds-deref-place_of
offset_bounds-deref-place_of c =
    let at = row_at (widths_of c.self.inside.runs.items) c.self.inside.words.items c.args.self.now c.args.slot c.place_of.result.start c.place_of.result.end c.self.view_is c.self.invariant c.requires
    (c.place_of.ensures.start ∙ ap (λ r. total (take c.args.slot (widths_of r))) c.deref-2.ensures.value)
    (c.place_of.ensures.end ∙ ap (λ r. total (take c.args.slot (widths_of r)) + get_or (widths_of r) c.args.slot 0) c.deref-2.ensures.value) in
    let low : c.place_of.result.start ≤ length c.deref.result.now = rw c.deref.ensures.value (omega (arith, at.first, at.within)) in
    search rules

pub slice_bounds-result-end : goal.slice_bounds-result-end
slice_bounds-result-end c =
    let at = row_at (widths_of c.self.inside.runs.items) c.self.inside.words.items c.args.self.now c.args.slot c.place_of.result.start c.place_of.result.end c.self.view_is c.self.invariant c.requires
    (c.place_of.ensures.start ∙ ap (λ r. total (take c.args.slot (widths_of r))) c.deref-2.ensures.value)
    (c.place_of.ensures.end ∙ ap (λ r. total (take c.args.slot (widths_of r)) + get_or (widths_of r) c.args.slot 0) c.deref-2.ensures.value) in
    let within : c.place_of.result.end ≤ length c.deref.result.now = rw c.deref.ensures.value at.within in
    search rules

pub returns : goal.returns
returns c =
    let at = row_at (widths_of c.self.inside.runs.items) c.self.inside.words.items c.args.self.now c.args.slot c.place_of.result.start c.place_of.result.end c.self.view_is c.self.invariant c.requires
    (c.place_of.ensures.start ∙ ap (λ r. total (take c.args.slot (widths_of r))) c.deref-2.ensures.value)
    (c.place_of.ensures.end ∙ ap (λ r. total (take c.args.slot (widths_of r)) + get_or (widths_of r) c.args.slot 0) c.deref-2.ensures.value) in
    ap (λ words. slice_range words c.place_of.result.start c.place_of.result.end) c.deref.ensures.value ∙ at.row
