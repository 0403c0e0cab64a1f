use Rattle.std.proofs.Common.{slice_set, ap, ◌∙◌}
use Rattle.sial_syntax.specs.Tree.{block}
use Rattle.sip_tables.specs.Code.{instruction}
use Rattle.sip_tables.specs.declared.instruction.Operation.TheVariants as op
use Rattle.table_compiler.proofs.GrownLemmas.{branches_add, one_more, pardo_adds, wrapped}
use Rattle.table_compiler.proofs.statements.+flattening.Goals as goal

pub over_segments-returns : goal.over_segments-returns
over_segments-returns t c =
    wrapped c.args.entries.now c.args.flat.now _ _ _ _ c.args.line c.in_ok-head.head c.in_ok-past.past (block c.args.stmts.now) (instruction c.args.line op.Stop) (λ n. op.Do c.args.index n) op.EndDo
    c.in_ok-head.ensures.number c.in_ok-head.ensures.added c.in_ok-body.ensures c.in_ok-put.ensures c.in_ok-past.ensures c.set.ensures.texts c.set.ensures.code

pub over_pieces-returns : goal.over_pieces-returns
over_pieces-returns t c =
    wrapped c.args.entries.now c.args.flat.now _ _ _ _ c.args.line c.in_ok-head.head c.in_ok-past.past (block c.args.stmts.now) (instruction c.args.line op.Stop) (λ n. op.DoIn c.args.indices.0 c.args.indices.1 n) op.EndDo
    c.in_ok-head.ensures.number c.in_ok-head.ensures.added c.in_ok-body.ensures c.in_ok-put.ensures c.in_ok-past.ensures c.set.ensures.texts c.set.ensures.code

pub pardo-returns : goal.pardo-returns
pardo-returns t c =
    pardo_adds c.args.entries.now c.args.flat.now _ _ _ _ _ c.args.line c.in_ok-head.head c.in_ok-end.end c.args.indices.now c.args.wheres.now (block c.args.stmts.now) (instruction c.args.line op.Stop)
    c.in_ok-head.ensures.number c.in_ok-head.ensures.added c.in_ok-tests.ensures c.in_ok-body.ensures c.in_ok-end.ensures c.in_ok-put.ensures c.set.ensures.texts
    (c.set.ensures.code ∙ ap (λ i. slice_set c.put.new.self.code.items c.in_ok-head.head (instruction c.args.line (op.Pardo i c.in_ok-end.end))) c.in_ok-indices.ensures)

pub branch-returns : goal.branch-returns
branch-returns t c =
    wrapped c.args.entries.now c.args.flat.now _ _ _ _ c.args.line c.in_ok-head.head c.in_ok-otherwise.otherwise (block c.args.stmts.now) (instruction c.args.line op.Stop) (λ n. op.If c.args.cond n) (λ n. op.EndIf)
    c.in_ok-head.ensures.number c.in_ok-head.ensures.added c.in_ok-body.ensures c.in_ok-put.ensures c.in_ok-otherwise.ensures c.set.ensures.texts c.set.ensures.code

pub branches-returns : goal.branches-returns
branches-returns t c =
    branches_add c.args.entries.now c.args.flat.now _ _ _ _ _ _ _ c.args.line c.in_ok-head.head c.in_ok-middle.middle c.in_ok-otherwise.otherwise c.in_ok-behind.behind c.args.cond (block c.args.stmts.now) (block c.args.other.now) (instruction c.args.line op.Stop)
    c.in_ok-head.ensures.number c.in_ok-head.ensures.added c.in_ok-body.ensures c.in_ok-middle.ensures.number c.in_ok-middle.ensures.added c.in_ok-otherwise.ensures c.set.ensures.texts c.set.ensures.code
    c.in_ok-body-2.ensures c.in_ok-put.ensures c.in_ok-behind.ensures c.set-2.ensures.texts c.set-2.ensures.code

pub body-loop-stmt-preserved : goal.body-loop-stmt-preserved
body-loop-stmt-preserved t c =
    one_more c.args.entries.now c.loop-stmt.flat c.statement.new.flat c.args.flat.now c.args.stmts.now c.loop-stmt.stmt-index c.stmt-item.result c.loop-stmt-test.true c.stmt-item.is c.in_ok-statement.ensures c.loop-stmt.invariant
