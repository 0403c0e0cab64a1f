use Rattle.std.proofs.Common.{ℕ, Some, ◌∷◌, [], ◌+◌, ◌++◌, sym, ap, subst, ◌∙◌}
use Rattle.epoch_watch.specs.Watching.{Watched, Watches, touch}
use Rattle.epoch_watch.proofs.WatchLemmas.{noted, noted-stands, refused-clashes, same-count, marks-noted}
use Rattle.epoch_watch.proofs.watch.Watch.note.Goals as goal

pub returns-in-Ok-clause-ok : goal.returns-in-Ok-clause-ok
returns-in-Ok-clause-ok c = λ epochs log st.
    let a = c.args in
    let w = a.self.now in
    let after : Watched = noted w a.class a.block a.kind a.line in
    subst (λ (v : Watched). Watches (record v { accesses = v.accesses + 1 }) epochs (log ++ touch epochs a.class a.block a.kind a.line ∷ []))
    (sym (c.self.view_is ∙ c.in-Ok.ensures.noted))
    (noted-stands w (after.accesses + 1) epochs log a.class a.block a.kind a.line c.requires.block
    (ap (λ (n : ℕ). n + 1) (same-count w a.class (marks-noted w a.class a.block a.kind a.line))) c.in-Ok.ensures.granted st)

pub returns-in-Err-clause-err : goal.returns-in-Err-clause-err
returns-in-Err-clause-err c = λ epochs log st.
    let a = c.args in
    refused-clashes a.self.now epochs log a.class a.block a.kind a.line c.in-Err.clash c.in-Err.ensures.clash st
    ∙ ap (λ (e : ℕ). Some (record { class = a.class; block = a.block; epoch = e; clash = c.in-Err.clash })) (sym c.epoch-epoch.ensures)
