use Rattle.std.proofs.Common.{◌≡◌, [], drop}
use Rattle.input_text.specs.LineReading.{figures_from}
use Rattle.input_text.proofs.figures.figures_in.Given as goal

-- the numbers so far and the words that are left
abbrev pub invariant-loop-word : goal.invariant-loop-word
invariant-loop-word l = figures_from l.figures.items (drop l.word-index l.words) ≡ figures_from [] l.words
