use Rattle.std.proofs.Common.{◌≡◌, drop}
use Rattle.sip_input.specs.Given.{named_numbers}
use Rattle.index_spaces.specs.Refusing.{indices_refusal}
use Rattle.index_spaces.proofs.indices.indices_refused.Given as goal

-- the indices that are left are refused for what all are
abbrev pub invariant-loop-index : goal.invariant-loop-index
invariant-loop-index l =
    indices_refusal (named_numbers l.constants) l.spaces.spaces (drop l.index-index l.indices)
    ≡ indices_refusal (named_numbers l.constants) l.spaces.spaces l.indices
