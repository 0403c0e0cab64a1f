use Rattle.std.proofs.Common.{◌≡◌, List, [], false, map, ap, ◌∙◌}
use Rattle.std.specs.Global.{Vec}
use Rattle.sial_syntax.specs.declared.program.Proc.{Proc}
use Rattle.sial_syntax.specs.declared.statement.Stmt.{Stmt}
use Rattle.sial_syntax.specs.Sides.{all_sided}
use Rattle.sial_syntax.specs.Tree.{block, procedure, tree}
use Rattle.scalar_discipline.specs.declared.placed.Placed.{Placed}
use Rattle.scalar_discipline.specs.Calls.{calls_within, lists, with_body}
use Rattle.scalar_discipline.specs.Flat.{all_placed, sided_of, sides_of}
use Rattle.scalar_discipline.proofs.AllLemmas.{all-found, ok_then}
use Rattle.scalar_discipline.proofs.classing.all_statements.Goals as goal

pub returns : goal.returns
returns c =
    let p = tree c.args.program.now in
    ok_then c.all_placed.result
    (λ (all : Vec Placed). map sided_of all.items ≡ all_placed p (map sides_of c.as_slice-5.result.now))
    (λ (all : Vec Placed). map sided_of all.items ≡ all_sided p)
    c.all_placed.ensures
    (λ all known.
    all-found p c.as_slice-3.result.now c.as_slice-4.result.now (map sides_of c.as_slice-5.result.now) (map sided_of all.items)
    (c.as_slice-3.ensures.value ∙ (c.in_ok-body.ensures ∙ ap (λ (body : List Stmt). with_body false (block body) []) c.as_slice.ensures.value))
    (ap lists c.as_slice-4.ensures.value ∙ (c.in_ok-calls.ensures ∙ ap (λ (ps : List Proc). map calls_within (map procedure ps)) c.as_slice-2.ensures.value))
    (ap (map sides_of) c.as_slice-5.ensures.value ∙ c.in_ok-sides.ensures)
    known)
