use Rattle.std.proofs.Common.{◌≡◌, drop}
use Rattle.sip_input.specs.Given.{piece_among}
use Rattle.index_spaces.proofs.given.piece_among.Given as goal

-- what is left says what all say
abbrev pub invariant-loop-cut : goal.invariant-loop-cut
invariant-loop-cut l = piece_among (drop l.cut-index l.pieces) l.kind ≡ piece_among l.pieces l.kind
