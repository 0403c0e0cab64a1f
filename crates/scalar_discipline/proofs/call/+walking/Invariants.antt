use Rattle.std.proofs.Common.{◌≡◌, drop}
use Rattle.sial_syntax.specs.Tree.{block}
use Rattle.scalar_discipline.specs.Calls.{with_body}
use Rattle.scalar_discipline.proofs.call.+walking.Given as goal

-- with the calls of the statements that are left there are those of all
abbrev pub invariant-gather-loop-stmt : goal.invariant-gather-loop-stmt
invariant-gather-loop-stmt l = with_body l.within (block (drop l.stmt-index l.stmts)) l.into.items ≡ with_body l.within (block l.stmts) l.fn.into.items
