use Rattle.std.proofs.Common.{◌≡◌, ◌++◌, map, drop}
use Rattle.sip_words.specs.Seen.{texts}
use Rattle.sip_words.proofs.words.texts.Given as goal

-- the texts so far, and those of the words that are left
abbrev pub invariant-loop-word : goal.invariant-loop-word
invariant-loop-word l = map (λ w. w.now) l.texts.items ++ texts (drop l.word-index l.words) ≡ texts l.words
