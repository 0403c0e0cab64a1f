use Rattle.std.proofs.Common.{◌≡◌, drop}
use Rattle.input_text.specs.Adding.{has_piece}
use Rattle.input_text.proofs.has.has_piece.Given as goal

-- what is left says what all say
abbrev pub invariant-loop-cut : goal.invariant-loop-cut
invariant-loop-cut l = has_piece (drop l.cut-index l.pieces) l.kind ≡ has_piece l.pieces l.kind
