use Rattle.std.proofs.Common.{◌≡◌, ◌++◌, drop, IsTrue}
use Rattle.sip_input.specs.Given.{named_numbers}
use Rattle.index_spaces.specs.Given.{spans_given}
use Rattle.index_spaces.specs.Opened.{cuts_of}
use Rattle.index_spaces.specs.Placed.{are_short, spans_of}
use Rattle.index_spaces.proofs.spanning.spans.Given as goal

-- the spans so far, and those of the indices that are left, are those of all
abbrev pub invariant-loop-index : goal.invariant-loop-index
invariant-loop-index l = record {
  spans : spans_of l.spans.items ++ spans_given (named_numbers l.constants) (cuts_of l.kinds) (drop l.index-index l.indices)
      ≡ spans_given (named_numbers l.constants) (cuts_of l.kinds) l.indices;
  short : IsTrue (are_short l.spans.items);
}
