use Rattle.std.proofs.Common.{List, ℕ, Err, sym, ap, ◌∙◌, subst}
use Rattle.sip_setting.specs.Seen.{setting_of}
use Rattle.sial_meaning.specs.LocalStep.{is_shared_kind}
use Rattle.exec_blocks.specs.Kept.{Kept}
use Rattle.exec_blocks.specs.Standing.{IsNamed}
use Rattle.exec_blocks.proofs.AnswerLemmas.{ok-map, err-map}
use Rattle.exec_blocks.proofs.SeenLemmas.{seen-at, seat-there}
use Rattle.exec_blocks.proofs.ReadingLemmas.{found-static, found-local, missing-static, missing-local}
use Rattle.exec_blocks.proofs.blocks.Blocks.words.Goals as goal

pub words_at-requires-clause-at : goal.words_at-requires-clause-at
words_at-requires-clause-at c =
    seat-there (setting_of c.args.job.now) c.args.self.now c.args.values.now c.args.block.now c.self.inside.seats c.place-place.result (ap (λ (k : Kept). k.seats) c.self.view_is) c.place-place.ensures c.requires.stands.laid c.requires.named
    (ap is_shared_kind (sym c.array_kind.ensures ∙ c.in-Static.is))

pub returns-in-Static-clause-ok : goal.returns-in-Static-clause-ok
returns-in-Static-clause-ok c = λ own same stands.
    let g = setting_of c.args.job.now in
    let b = c.args.self.now in
    let block = c.args.block.now in
    let named : IsNamed g own.values block = subst (λ (vs : List ℕ). IsNamed g vs block) (sym same) c.requires.named in
    let seen = seen-at g c.args.pool.now b block own.values c.args.values.now c.self.inside.seats c.place-place.result (ap (λ (k : Kept). k.seats) c.self.view_is) c.place-place.ensures same in
    ok-map c.words_at.result (λ w found. found-static g c.args.pool.now b own block named stands w.now (sym c.array_kind.ensures ∙ c.in-Static.is) (seen ∙ found)) c.words_at.ensures.ok

pub returns-in-Static-clause-err : goal.returns-in-Static-clause-err
returns-in-Static-clause-err c = λ own same stands.
    let g = setting_of c.args.job.now in
    let b = c.args.self.now in
    let block = c.args.block.now in
    let named : IsNamed g own.values block = subst (λ (vs : List ℕ). IsNamed g vs block) (sym same) c.requires.named in
    let seen = seen-at g c.args.pool.now b block own.values c.args.values.now c.self.inside.seats c.place-place.result (ap (λ (k : Kept). k.seats) c.self.view_is) c.place-place.ensures same in
    err-map c.words_at.result (λ trap missing. absurd (missing-static g c.args.pool.now b own block named stands (sym c.array_kind.ensures ∙ c.in-Static.is) (seen ∙ missing.1))) c.words_at.ensures.err

pub words_at-requires-in-Local-clause-at : goal.words_at-requires-in-Local-clause-at
words_at-requires-in-Local-clause-at c =
    seat-there (setting_of c.args.job.now) c.args.self.now c.args.values.now c.args.block.now c.self.inside.seats c.place-place-in-Local.result (ap (λ (k : Kept). k.seats) c.self.view_is) c.place-place-in-Local.ensures c.requires.stands.laid c.requires.named
    (ap is_shared_kind (sym c.array_kind.ensures ∙ c.in-Local.is))

pub returns-in-Local-clause-ok : goal.returns-in-Local-clause-ok
returns-in-Local-clause-ok c = λ own same stands.
    let g = setting_of c.args.job.now in
    let b = c.args.self.now in
    let block = c.args.block.now in
    let named : IsNamed g own.values block = subst (λ (vs : List ℕ). IsNamed g vs block) (sym same) c.requires.named in
    let seen = seen-at g c.args.pool.now b block own.values c.args.values.now c.self.inside.seats c.place-place-in-Local.result (ap (λ (k : Kept). k.seats) c.self.view_is) c.place-place-in-Local.ensures same in
    ok-map c.words_at-in-Local.result (λ w found. found-local g c.args.pool.now b own block named stands w.now (sym c.array_kind.ensures ∙ c.in-Local.is) (seen ∙ found)) c.words_at-in-Local.ensures.ok

pub returns-in-Local-clause-err : goal.returns-in-Local-clause-err
returns-in-Local-clause-err c = λ own same stands.
    let g = setting_of c.args.job.now in
    let b = c.args.self.now in
    let block = c.args.block.now in
    let named : IsNamed g own.values block = subst (λ (vs : List ℕ). IsNamed g vs block) (sym same) c.requires.named in
    let seen = seen-at g c.args.pool.now b block own.values c.args.values.now c.self.inside.seats c.place-place-in-Local.result (ap (λ (k : Kept). k.seats) c.self.view_is) c.place-place-in-Local.ensures same in
    err-map c.words_at-in-Local.result (λ trap missing. missing-local g c.args.pool.now b own block named stands (sym c.array_kind.ensures ∙ c.in-Local.is) (seen ∙ missing.1) ∙ ap Err (sym missing.0)) c.words_at-in-Local.ensures.err
