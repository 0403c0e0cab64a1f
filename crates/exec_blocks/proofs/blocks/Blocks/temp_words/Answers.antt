use Rattle.std.proofs.Common.{List, ℕ, sym, ap, ◌∙◌, subst}
use Rattle.sip_setting.specs.Seen.{setting_of}
use Rattle.exec_blocks.specs.Kept.{Kept}
use Rattle.exec_blocks.specs.Standing.{IsNamed}
use Rattle.exec_blocks.proofs.AnswerLemmas.{ok-map}
use Rattle.exec_blocks.proofs.SeenLemmas.{seen-at}
use Rattle.exec_blocks.proofs.ReadingLemmas.{found-temp, other-temp}
use Rattle.exec_blocks.proofs.blocks.Blocks.temp_words.Goals as goal

pub returns-then-is_tuple-clause-ok : goal.returns-then-is_tuple-clause-ok
returns-then-is_tuple-clause-ok c = λ own same stands.
    let g = setting_of c.args.job.now in
    let b = c.args.self.now in
    let block = c.args.block.now in
    let named : IsNamed g own.values block = subst (λ (vs : List ℕ). IsNamed g vs block) (sym same) c.requires.named in
    let seen = seen-at g c.args.pool.now b block own.values c.args.values.now c.self.inside.seats c.place-place.result (ap (λ (k : Kept). k.seats) c.self.view_is) c.place-place.ensures same in
    ok-map c.words_at.result (λ w found. found-temp g c.args.pool.now b own block named stands w.now c.requires.temp (sym (c.is_tuple.ensures own same) ∙ c.if-is_tuple.true) (seen ∙ found)) c.words_at.ensures.ok

pub returns-else-is_tuple-clause-err : goal.returns-else-is_tuple-clause-err
returns-else-is_tuple-clause-err c = λ own same stands.
    let g = setting_of c.args.job.now in
    let block = c.args.block.now in
    let named : IsNamed g own.values block = subst (λ (vs : List ℕ). IsNamed g vs block) (sym same) c.requires.named in
    other-temp g c.args.pool.now c.args.self.now own block named stands c.requires.temp (sym (c.is_tuple.ensures own same) ∙ c.if-is_tuple.false)
