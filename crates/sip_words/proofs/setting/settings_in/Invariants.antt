use Rattle.std.proofs.Common.{◌≡◌, map, drop, option_map, None, [], fold}
use Rattle.sip_words.specs.Reading.{with_word}
use Rattle.sip_words.specs.Seen.{settings_seen}
use Rattle.sip_words.proofs.setting.settings_in.Given as goal

-- what is left comes to the same as all words
abbrev pub invariant-loop-word : goal.invariant-loop-word
invariant-loop-word l =
    fold with_word (settings_seen l.settings.items, option_map (λ o. o.now) l.option) (map (λ w. w.now) (drop l.word-index l.words))
    ≡ fold with_word ([], None) (map (λ w. w.now) l.words)
