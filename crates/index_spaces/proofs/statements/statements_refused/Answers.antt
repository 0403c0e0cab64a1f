use Rattle.std.proofs.Common.{List, map, None, ap, ◌∙◌}
use Rattle.sial_syntax.specs.declared.program.Proc.{Proc}
use Rattle.sial_syntax.specs.declared.statement.Stmt.{Stmt}
use Rattle.sial_syntax.specs.Tree.{block, procedure, tree}
use Rattle.index_spaces.specs.Found.{seen_at}
use Rattle.index_spaces.specs.Walk.{first_in, first_of_all}
use Rattle.index_spaces.proofs.WalkLemmas.{walk_first}
use Rattle.index_spaces.proofs.statements.statements_refused.Goals as goal

pub returns : goal.returns
returns c =
    let p = tree c.args.program.now in
    let spaces = c.args.spaces.now.spaces in
    c.first_of_procedures.ensures
    ∙ (ap (λ (qs : List Proc). first_of_all p spaces (map procedure qs) (seen_at c.first_in-first.result)) c.as_slice-2.ensures.value
    ∙ (ap (first_of_all p spaces p.procedures) (c.first_in-first.ensures ∙ ap (λ (body : List Stmt). first_in p spaces (block body) None) c.as_slice.ensures.value)
    ∙ walk_first p spaces))
