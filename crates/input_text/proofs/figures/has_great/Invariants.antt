use Rattle.std.proofs.Common.{◌≡◌, drop}
use Rattle.std.specs.List.{list_any}
use Rattle.input_text.specs.Adding.{is_wide}
use Rattle.input_text.proofs.figures.has_great.Given as goal

-- the numbers that are left have a great one where all have
abbrev pub invariant-loop-figure : goal.invariant-loop-figure
invariant-loop-figure l = list_any is_wide (drop l.figure-index l.figures) ≡ list_any is_wide l.figures
