use Rattle.std.proofs.Common.{◌≡◌, map, drop}
use Rattle.std.specs.List.{list_all}
use Rattle.sip_words.specs.Commands.{is_name}
use Rattle.sip_words.proofs.limits.are_names.Given as goal

-- what is left decides
abbrev pub invariant-loop-word : goal.invariant-loop-word
invariant-loop-word l = list_all is_name (map (λ w. w.now) (drop l.word-index l.words)) ≡ list_all is_name (map (λ w. w.now) l.words)
