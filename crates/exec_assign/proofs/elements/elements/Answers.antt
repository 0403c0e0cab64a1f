use Rattle.std.proofs.Common.{sym, ◌∙◌}
use Rattle.sip_setting.specs.Seen.{setting_of}
use Rattle.exec_assign.proofs.ElementLemmas.{own_words, shared_words}
use Rattle.exec_assign.proofs.elements.elements.Goals as goal

pub returns-then-is_shared : goal.returns-then-is_shared
returns-then-is_shared c = λ own more same stands first.
    let shared = sym c.is_shared.ensures ∙ c.if-is_shared.true in
    shared_words (setting_of c.args.job.now) own c.args.block.now more c.lent.result.now shared (first shared ∙ sym c.lent.ensures)

pub returns-else-is_shared : goal.returns-else-is_shared
returns-else-is_shared c = λ own more same stands first.
    own_words (setting_of c.args.job.now) own c.args.block.now more c.words.result (sym c.is_shared.ensures ∙ c.if-is_shared.false) (c.words.ensures.ok own same stands) (c.words.ensures.err own same stands)
