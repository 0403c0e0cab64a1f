use Rattle.std.proofs.Common.{◌≡◌, drop}
use Rattle.input_text.specs.Adding.{has_constant}
use Rattle.input_text.proofs.has.has_constant.Given as goal

-- the constants that are left have it where all have
abbrev pub invariant-loop-constant : goal.invariant-loop-constant
invariant-loop-constant l = has_constant (drop l.constant-index l.constants) l.name ≡ has_constant l.constants l.name
