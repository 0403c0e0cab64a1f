use Rattle.std.proofs.Common.{◌≡◌, drop, map}
use Rattle.input_text.specs.Adding.{has_lengths, lengths_of}
use Rattle.input_text.proofs.has.has_lengths.Given as goal

-- what is left says what all say
abbrev pub invariant-loop-cut : goal.invariant-loop-cut
invariant-loop-cut l = has_lengths (map lengths_of (drop l.cut-index l.segments)) l.kind ≡ has_lengths (map lengths_of l.segments) l.kind
