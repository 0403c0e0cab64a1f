use Rattle.std.proofs.Common.{rules, ◌≡◌, Some, None, sym}
use Rattle.sip_words.specs.Reading.{request_in}
use Rattle.sip_words.specs.Seen.{texts, seen}
use Rattle.sip_words.proofs.PlainLemmas.{plain_same, plain_not_left, read_is_request}
use Rattle.sip_words.proofs.words.read_words.Goals as goal

pub returns-in-Some-clause-plain : goal.returns-in-Some-clause-plain
returns-in-Some-clause-plain c request spells =
    let read : Some (seen c.in-Some.request) ≡ request_in (texts c.args.words.now) = search rules in
    plain_same (texts c.args.words.now) (seen c.in-Some.request) request read spells

pub returns-in-Some-clause-within : goal.returns-in-Some-clause-within
returns-in-Some-clause-within c =
    let read : Some (seen c.in-Some.request) ≡ request_in (texts c.args.words.now) = search rules in
    read_is_request (texts c.args.words.now) (seen c.in-Some.request) (sym read)

pub returns-clause-plain : goal.returns-clause-plain
returns-clause-plain c request spells =
    let left : None ≡ request_in (texts c.args.words.now) = search rules in
    absurd (plain_not_left (texts c.args.words.now) request left spells)

pub returns-clause-never_usage : goal.returns-clause-never_usage
returns-clause-never_usage c request spells =
    let left : None ≡ request_in (texts c.args.words.now) = search rules in
    absurd (plain_not_left (texts c.args.words.now) request left spells)
