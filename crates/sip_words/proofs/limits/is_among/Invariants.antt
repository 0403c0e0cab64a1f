use Rattle.std.proofs.Common.{◌≡◌, map, drop}
use Rattle.std.specs.List.{list_any}
use Rattle.std.specs.Str.{bytes_eq}
use Rattle.sip_words.proofs.limits.is_among.Given as goal

-- what is left decides
abbrev pub invariant-loop-other : goal.invariant-loop-other
invariant-loop-other l = list_any (bytes_eq l.option) (map (λ o. o.now) (drop l.other-index l.others)) ≡ list_any (bytes_eq l.option) (map (λ o. o.now) l.others)
