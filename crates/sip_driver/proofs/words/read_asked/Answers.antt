use Rattle.std.proofs.Common.{◌≡◌}
use Rattle.sip_words.specs.declared.fault.WordsFault.TheVariants.{Usage}
use Rattle.sip_words.specs.Seen.{seen}
use Rattle.sip_driver.proofs.AskedLemmas.{answer_asks, answer_nothing, usage_nothing}
use Rattle.sip_driver.proofs.words.read_asked.Goals as goal

pub returns-in-Ok-clause-asks : goal.returns-in-Ok-clause-asks
returns-in-Ok-clause-asks c =
    answer_asks c.built.result c.args.words.now (seen c.in-Ok.request) c.in-Ok.ensures.many c.in-Ok.ensures.plain c.in-Ok.ensures.within c.built.ensures.same

pub returns-in-Ok-clause-nothing : goal.returns-in-Ok-clause-nothing
returns-in-Ok-clause-nothing c =
    answer_nothing c.built.result c.args.words.now (seen c.in-Ok.request) c.in-Ok.ensures.plain c.built.ensures.no_run c.built.ensures.no_compile

pub returns-in-Err-clause-nothing : goal.returns-in-Err-clause-nothing
returns-in-Err-clause-nothing c = λ e.
    let usage : c.in-Err.fault ≡ Usage = cc in
    usage_nothing c.read_words.result c.args.words.now c.in-Err.fault c.read_words.ensures.never_usage c.in-Err.is usage
