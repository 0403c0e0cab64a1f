use Rattle.std.proofs.Common.{◌≡◌, drop}
use Rattle.sial_syntax.specs.Resolved.{constant_of}
use Rattle.sip_input.specs.Given.{named_numbers}
use Rattle.index_spaces.proofs.given.constant.Given as goal

-- the constants that are left give what all give
abbrev pub invariant-loop-constant : goal.invariant-loop-constant
invariant-loop-constant l = constant_of (named_numbers (drop l.constant-index l.constants)) l.name ≡ constant_of (named_numbers l.constants) l.name
