use Rattle.std.proofs.Common.{◌≡◌, [], map, take, IsTrue}
use Rattle.index_spaces.specs.Laid.{are_laid, decls_of}
use Rattle.index_spaces.specs.Placed.{bare, spans_of}
use Rattle.index_spaces.proofs.laying.laid_out.Given as goal

-- what is kept of the arrays so far is right
abbrev pub invariant-loop-array : goal.invariant-loop-array
invariant-loop-array l = record {
  decls : decls_of l.blocks.items ≡ map bare (take l.array-index l.arrays);
  laid : IsTrue (are_laid (spans_of l.spans) [] l.blocks.items);
}
