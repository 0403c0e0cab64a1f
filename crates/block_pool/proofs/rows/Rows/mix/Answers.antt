use Rattle.std.proofs.Common.{◌+◌, ◌∙◌, ap, refl, take, get_or, arith}
use Rattle.block_pool.specs.Cut.{total}
use Rattle.block_pool.specs.Runs.{widths_of}
use Rattle.block_pool.proofs.RowPlaces.{row_at, row_mixed, rows_apart}
use Rattle.block_pool.proofs.rows.Rows.mix.Goals as goal

pub place_of-from-requires-clause-within : goal.place_of-from-requires-clause-within
place_of-from-requires-clause-within c =
    rw c.deref.ensures.value (row_at (widths_of c.self.inside.runs.items) c.self.inside.words.items c.args.self.now c.args.from _ _ c.self.view_is c.self.invariant c.requires.from refl refl).known

pub place_of-to-requires-clause-within : goal.place_of-to-requires-clause-within
place_of-to-requires-clause-within c =
    rw c.deref-2.ensures.value (row_at (widths_of c.self.inside.runs.items) c.self.inside.words.items c.args.self.now c.args.to _ _ c.self.view_is c.self.invariant c.requires.to refl refl).known

pub mix_beside-requires-clause-from : goal.mix_beside-requires-clause-from
mix_beside-requires-clause-from c =
    let a = row_at (widths_of c.self.inside.runs.items) c.self.inside.words.items c.args.self.now c.args.from c.place_of-from.result.start c.place_of-from.result.end c.self.view_is c.self.invariant c.requires.from
    (c.place_of-from.ensures.start ∙ ap (λ r. total (take c.args.from (widths_of r))) c.deref.ensures.value)
    (c.place_of-from.ensures.end ∙ ap (λ r. total (take c.args.from (widths_of r)) + get_or (widths_of r) c.args.from 0) c.deref.ensures.value) in
    rw c.as_mut_slice.ensures.value (omega (arith, a.first, a.within, a.width, c.requires.from_len))

pub mix_beside-requires-clause-to : goal.mix_beside-requires-clause-to
mix_beside-requires-clause-to c =
    let b = row_at (widths_of c.self.inside.runs.items) c.self.inside.words.items c.args.self.now c.args.to c.place_of-to.result.start c.place_of-to.result.end c.self.view_is c.self.invariant c.requires.to
    (c.place_of-to.ensures.start ∙ ap (λ r. total (take c.args.to (widths_of r))) c.deref-2.ensures.value)
    (c.place_of-to.ensures.end ∙ ap (λ r. total (take c.args.to (widths_of r)) + get_or (widths_of r) c.args.to 0) c.deref-2.ensures.value) in
    rw c.as_mut_slice.ensures.value (omega (arith, b.first, b.within, b.width, c.requires.to_len))

pub mix_beside-requires-clause-before : goal.mix_beside-requires-clause-before
mix_beside-requires-clause-before c =
    let a = row_at (widths_of c.self.inside.runs.items) c.self.inside.words.items c.args.self.now c.args.from c.place_of-from.result.start c.place_of-from.result.end c.self.view_is c.self.invariant c.requires.from
    (c.place_of-from.ensures.start ∙ ap (λ r. total (take c.args.from (widths_of r))) c.deref.ensures.value)
    (c.place_of-from.ensures.end ∙ ap (λ r. total (take c.args.from (widths_of r)) + get_or (widths_of r) c.args.from 0) c.deref.ensures.value) in
    let b = row_at (widths_of c.self.inside.runs.items) c.self.inside.words.items c.args.self.now c.args.to c.place_of-to.result.start c.place_of-to.result.end c.self.view_is c.self.invariant c.requires.to
    (c.place_of-to.ensures.start ∙ ap (λ r. total (take c.args.to (widths_of r))) c.deref-2.ensures.value)
    (c.place_of-to.ensures.end ∙ ap (λ r. total (take c.args.to (widths_of r)) + get_or (widths_of r) c.args.to 0) c.deref-2.ensures.value) in
    (rows_apart (widths_of c.self.inside.runs.items) c.self.inside.words.items c.args.self.now c.args.from c.args.to c.args.len _ _ _ _ a b c.requires.apart c.requires.from_len c.requires.to_len).before

pub mix_beside-requires-clause-behind : goal.mix_beside-requires-clause-behind
mix_beside-requires-clause-behind c =
    let a = row_at (widths_of c.self.inside.runs.items) c.self.inside.words.items c.args.self.now c.args.from c.place_of-from.result.start c.place_of-from.result.end c.self.view_is c.self.invariant c.requires.from
    (c.place_of-from.ensures.start ∙ ap (λ r. total (take c.args.from (widths_of r))) c.deref.ensures.value)
    (c.place_of-from.ensures.end ∙ ap (λ r. total (take c.args.from (widths_of r)) + get_or (widths_of r) c.args.from 0) c.deref.ensures.value) in
    let b = row_at (widths_of c.self.inside.runs.items) c.self.inside.words.items c.args.self.now c.args.to c.place_of-to.result.start c.place_of-to.result.end c.self.view_is c.self.invariant c.requires.to
    (c.place_of-to.ensures.start ∙ ap (λ r. total (take c.args.to (widths_of r))) c.deref-2.ensures.value)
    (c.place_of-to.ensures.end ∙ ap (λ r. total (take c.args.to (widths_of r)) + get_or (widths_of r) c.args.to 0) c.deref-2.ensures.value) in
    (rows_apart (widths_of c.self.inside.runs.items) c.self.inside.words.items c.args.self.now c.args.from c.args.to c.args.len _ _ _ _ a b c.requires.apart c.requires.from_len c.requires.to_len).behind

pub returns : goal.returns
returns c =
    let a = row_at (widths_of c.self.inside.runs.items) c.self.inside.words.items c.args.self.now c.args.from c.place_of-from.result.start c.place_of-from.result.end c.self.view_is c.self.invariant c.requires.from
    (c.place_of-from.ensures.start ∙ ap (λ r. total (take c.args.from (widths_of r))) c.deref.ensures.value)
    (c.place_of-from.ensures.end ∙ ap (λ r. total (take c.args.from (widths_of r)) + get_or (widths_of r) c.args.from 0) c.deref.ensures.value) in
    let b = row_at (widths_of c.self.inside.runs.items) c.self.inside.words.items c.args.self.now c.args.to c.place_of-to.result.start c.place_of-to.result.end c.self.view_is c.self.invariant c.requires.to
    (c.place_of-to.ensures.start ∙ ap (λ r. total (take c.args.to (widths_of r))) c.deref-2.ensures.value)
    (c.place_of-to.ensures.end ∙ ap (λ r. total (take c.args.to (widths_of r)) + get_or (widths_of r) c.args.to 0) c.deref-2.ensures.value) in
    row_mixed c.args.how (widths_of c.self.inside.runs.items) c.self.inside.words c.as_mut_slice.result.now c.mix_beside.new.words c.args.self.now c.args.from c.args.to c.args.len c.place_of-from.result.start c.place_of-to.result.start
    c.self.view_is c.self.invariant a.known b.known c.requires.from_len c.requires.to_len a.begins b.begins c.as_mut_slice.ensures.value c.mix_beside.ensures
