use Rattle.std.proofs.Common.{◌≡◌, map, take}
use Rattle.sial_parser.specs.Words.{word_of}
use Rattle.sial_parser.proofs.words.words_of.Given as goal

-- the words of the tokens so far
abbrev pub invariant-loop-place : goal.invariant-loop-place
invariant-loop-place l = l.words.items ≡ map (word_of l.text) (take l.place l.tokens)
