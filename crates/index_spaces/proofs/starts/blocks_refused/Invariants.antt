use Rattle.std.proofs.Common.{◌≡◌, drop}
use Rattle.sial_syntax.specs.Tree.{tree}
use Rattle.index_spaces.specs.Found.{seen_at}
use Rattle.index_spaces.specs.Refusing.{block_refusal, sooner, soonest}
use Rattle.index_spaces.proofs.starts.blocks_refused.Given as goal

-- the refusal so far, or the first of the lines that are left, is the first of all
abbrev pub invariant-loop-line : goal.invariant-loop-line
invariant-loop-line l =
    sooner (seen_at l.first) (soonest (block_refusal (tree l.program) l.spaces.spaces) (drop l.line-index l.lines))
    ≡ soonest (block_refusal (tree l.program) l.spaces.spaces) l.lines
