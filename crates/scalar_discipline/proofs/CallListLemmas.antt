-- The calls that are gathered are those of the statements, one after another.
use Rattle.std.proofs.Common.{◌≡◌, ℕ, List, [], ◌∷◌, ◌++◌, map, flat_map, slice_index_or, Bool, true, false, refl, sym, ap, ◌∙◌, append_assoc, append-nil}
use Rattle.std.proofs.lemmas.Grind.{flat_map-append}
use Rattle.sial_syntax.specs.Sides.{called_by}
use Rattle.sial_syntax.specs.SideRules.{calls_of}
use Rattle.sial_syntax.specs.Tree.{Tree, Procedure, Block, End, Then, Plain, Do, DoIn, Pardo, If, IfElse}
use Rattle.sial_syntax.specs.Tree as tree
use Rattle.sial_syntax.specs.Visits.{Visit, visits, inner_visits, body_visits}
use Rattle.sial_syntax.proofs.CallLemmas.{no_procedure}
use Rattle.scalar_discipline.specs.declared.call.Call.{Call}
use Rattle.scalar_discipline.specs.Calls.{with_body, with_form, calls_within}
use Rattle.scalar_discipline.proofs.ListLemmas.{at_map}

-- the calls that a statement is
abbrev pub calls_at : Visit → List Call
calls_at v = map (λ q. record { line = v.line; procedure = q; within = v.within }) (called_by v.form)

mutual
  -- those of a body
  in-body : (bound : List ℕ) (within : Bool) (body : Block) (calls : List Call) → with_body within body calls ≡ calls ++ flat_map calls_at (visits bound within body)
  in-body bound within End calls = sym (append-nil calls)
  in-body bound within (Then line form rest) calls =
      let here = calls_at (record { line = line; form = form; bound = bound; within = within }) in
      let inner = inner_visits bound within form in
      let others = visits bound within rest in
      in-body bound within rest (with_form within line form calls)
      ∙ (ap (λ cs. cs ++ flat_map calls_at others) (inside line bound within form calls)
      ∙ (append_assoc calls (here ++ flat_map calls_at inner) (flat_map calls_at others)
      ∙ ap (λ cs. calls ++ cs) (append_assoc here (flat_map calls_at inner) (flat_map calls_at others) ∙ ap (λ cs. here ++ cs) (sym (flat_map-append calls_at inner others)))))

  -- those of a statement
  inside : (line : ℕ) (bound : List ℕ) (within : Bool) (form : Plain) (calls : List Call)
      → with_form within line form calls ≡ calls ++ (calls_at (record { line = line; form = form; bound = bound; within = within }) ++ flat_map calls_at (inner_visits bound within form))
  inside line bound within (tree.Call procedure) calls = refl
  inside line bound within (Do index body) calls = in-body (index ∷ bound) within body calls
  inside line bound within (DoIn sub index body) calls = in-body (sub ∷ bound) within body calls
  inside line bound within (Pardo indices wheres body) calls = in-body (indices ++ bound) true body calls
  inside line bound within (If cond body) calls = in-body bound within body calls
  inside line bound within (IfElse cond body other) calls =
      in-body bound within other (with_body within body calls)
      ∙ (ap (λ cs. cs ++ flat_map calls_at (visits bound within other)) (in-body bound within body calls)
      ∙ (append_assoc calls (flat_map calls_at (visits bound within body)) (flat_map calls_at (visits bound within other))
      ∙ ap (λ cs. calls ++ cs) (sym (flat_map-append calls_at (visits bound within body) (visits bound within other)))))
  inside line bound within _ calls = sym (append-nil calls)

-- the calls of a procedure
pub calls-are : (procedure : Procedure) → calls_within procedure ≡ flat_map calls_at (body_visits procedure.body)
calls-are procedure = in-body [] false procedure.body []

-- the procedures that they call
called-are : (vs : List Visit) → map (λ (c : Call). c.procedure) (flat_map calls_at vs) ≡ flat_map (λ (v : Visit). called_by v.form) vs
called-are [] = refl
called-are (v ∷ vs) = by (called_by v.form) ∙ ap (λ qs. called_by v.form ++ qs) (called-are vs)
  where
    by : (qs : List ℕ)
        → map (λ (c : Call). c.procedure) (map (λ q. record { line = v.line; procedure = q; within = v.within }) qs ++ flat_map calls_at vs) ≡ qs ++ map (λ (c : Call). c.procedure) (flat_map calls_at vs)
    by [] = refl
    by (q ∷ qs) = ap (λ rs. q ∷ rs) (by qs)

-- the calls of the procedure at a place
pub called-within : (p : Tree) (q : ℕ) → map (λ (c : Call). c.procedure) (calls_within (slice_index_or p.procedures q no_procedure)) ≡ calls_of p q
called-within p q =
    let procedure = slice_index_or p.procedures q no_procedure in
    ap (map (λ (c : Call). c.procedure)) (calls-are procedure) ∙ called-are (body_visits procedure.body)

-- the calls at a place of a list
pub calls-at-place : (p : Tree) (q : ℕ) → slice_index_or (map calls_within p.procedures) q [] ≡ calls_within (slice_index_or p.procedures q no_procedure)
calls-at-place p q = at_map calls_within p.procedures q no_procedure
