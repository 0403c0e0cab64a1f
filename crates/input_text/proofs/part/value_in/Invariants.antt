use Rattle.std.proofs.Common.{◌≡◌, drop}
use Rattle.sial_lexer.specs.Scanning as lexer
use Rattle.input_text.proofs.part.value_in.Given as goal

-- the digits so far and those that are left
abbrev pub invariant-loop-digit : goal.invariant-loop-digit
invariant-loop-digit l = lexer.value_in l.value (drop l.digit-index l.digits) ≡ lexer.value_in 0 l.digits
