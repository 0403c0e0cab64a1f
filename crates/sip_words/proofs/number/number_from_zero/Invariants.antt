use Rattle.std.proofs.Common.{◌≡◌, drop}
use Rattle.sip_words.specs.Steps.{number_from}
use Rattle.sip_words.proofs.number.number_from_zero.Given as goal

-- what is left makes the same number
abbrev pub invariant-loop-digit : goal.invariant-loop-digit
invariant-loop-digit l = number_from l.value (drop l.digit-index l.digits) ≡ number_from 0 l.digits
