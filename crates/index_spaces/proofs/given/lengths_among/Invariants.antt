use Rattle.std.proofs.Common.{◌≡◌, drop}
use Rattle.sip_input.specs.Given.{lengths_among}
use Rattle.index_spaces.proofs.given.lengths_among.Given as goal

-- what is left says what all say
abbrev pub invariant-loop-cut : goal.invariant-loop-cut
invariant-loop-cut l = lengths_among (drop l.cut-index l.segments) l.kind ≡ lengths_among l.segments l.kind
