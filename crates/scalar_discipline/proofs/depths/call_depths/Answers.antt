use Rattle.std.proofs.Common.{List, map, ap, ◌∙◌}
use Rattle.sial_syntax.specs.declared.program.Proc.{Proc}
use Rattle.sial_syntax.specs.Tree.{procedure, tree}
use Rattle.scalar_discipline.specs.Calls.{calls_within, lists}
use Rattle.scalar_discipline.proofs.CallDepthLemmas.{depths-found, none-found, recursion-found}
use Rattle.scalar_discipline.proofs.depths.call_depths.Goals as goal

pub returns-then-found-clause-depths : goal.returns-then-found-clause-depths
returns-then-found-clause-depths c =
    let all = ap (λ (ps : List Proc). map calls_within (map procedure ps)) c.as_slice.ensures.value in
    depths-found (tree c.args.program.now) c.as_slice-2.result.now c.in_ok-found.found.depths.items
    (ap lists c.as_slice-2.ensures.value ∙ (c.in_ok-calls.ensures ∙ all)) c.in_ok-found.ensures.depths

pub returns-then-found-clause-granted : goal.returns-then-found-clause-granted
returns-then-found-clause-granted c =
    let all = ap (λ (ps : List Proc). map calls_within (map procedure ps)) c.as_slice.ensures.value in
    none-found (tree c.args.program.now) c.as_slice-2.result.now c.in_ok-found.found.depths.items
    (ap lists c.as_slice-2.ensures.value ∙ (c.in_ok-calls.ensures ∙ all)) c.in_ok-found.ensures.depths (c.in_ok-found.ensures.settled c.if-found.true)

pub returns-in-Some-clause-fault : goal.returns-in-Some-clause-fault
returns-in-Some-clause-fault c =
    let all = ap (λ (ps : List Proc). map calls_within (map procedure ps)) c.as_slice.ensures.value in
    recursion-found (tree c.args.program.now) c.as_slice-3.result.now c.in_ok-line.field-0
    (ap lists c.as_slice-3.ensures.value ∙ (c.in_ok-calls.ensures ∙ all)) c.in_ok-line.ensures ∙ c.in-Some.is

pub returns-clause-depths : goal.returns-clause-depths
returns-clause-depths c =
    let all = ap (λ (ps : List Proc). map calls_within (map procedure ps)) c.as_slice.ensures.value in
    depths-found (tree c.args.program.now) c.as_slice-2.result.now c.in_ok-found.found.depths.items
    (ap lists c.as_slice-2.ensures.value ∙ (c.in_ok-calls.ensures ∙ all)) c.in_ok-found.ensures.depths

pub returns-clause-granted : goal.returns-clause-granted
returns-clause-granted c =
    let all = ap (λ (ps : List Proc). map calls_within (map procedure ps)) c.as_slice.ensures.value in
    recursion-found (tree c.args.program.now) c.as_slice-3.result.now c.in_ok-line.field-0
    (ap lists c.as_slice-3.ensures.value ∙ (c.in_ok-calls.ensures ∙ all)) c.in_ok-line.ensures ∙ c.in-None.is
