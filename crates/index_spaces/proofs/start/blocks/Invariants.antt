use Rattle.std.proofs.Common.{◌≡◌, ◌++◌, None, drop, map}
use Rattle.sial_syntax.specs.Tree.{tree}
use Rattle.index_spaces.specs.Given.{block_given}
use Rattle.index_spaces.specs.Refusing.{block_refusal, soonest}
use Rattle.index_spaces.specs.Starting.{given_of}
use Rattle.index_spaces.proofs.start.blocks.Given as goal

-- the blocks so far, and those of the lines that are left, are those of all; these fit
abbrev pub invariant-loop-line : goal.invariant-loop-line
invariant-loop-line l = record {
  blocks : map given_of l.blocks.items ++ map (block_given (tree l.program) l.spaces.spaces) (drop l.line-index l.lines)
      ≡ map (block_given (tree l.program) l.spaces.spaces) l.lines;
  fit : soonest (block_refusal (tree l.program) l.spaces.spaces) (drop l.line-index l.lines) ≡ None;
}
