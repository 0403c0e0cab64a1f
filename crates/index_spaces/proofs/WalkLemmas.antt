-- The walk through a program finds the refusal that comes first.
use Rattle.std.proofs.Common.{◌≡◌, ℕ, List, [], ◌∷◌, ◌++◌, flat_map, Bool, true, false, Option, None, sym, ap, ◌∙◌}
use Rattle.sial_syntax.specs.Spaces.{Spaces}
use Rattle.sial_syntax.specs.Tree.{Tree, Procedure, Block, End, Then, Plain, Do, DoIn, Pardo, If, IfElse}
use Rattle.sial_syntax.specs.Visits.{Visit, visits, inner_visits, body_visits}
use Rattle.index_spaces.specs.Refusing.{AtLine, sooner, soonest, statement_refusal, statements_refusal}
use Rattle.index_spaces.specs.Walk.{first_in, first_inside, first_of_all}
use Rattle.index_spaces.proofs.SoonerLemmas.{sooner-none, sooner_three, soonest-append}

-- the refusal of a statement where it stands
abbrev of_visit : Tree → Spaces → Visit → Option AtLine
of_visit p spaces v = statement_refusal p spaces v.line v.form

-- the first of some statements where they stand
abbrev of_visits : Tree → Spaces → List Visit → Option AtLine
of_visits p spaces vs = soonest (of_visit p spaces) vs

mutual
  -- the walk through a body
  in-body : (p : Tree) (spaces : Spaces) (bound : List ℕ) (within : Bool) (body : Block) (first : Option AtLine) → first_in p spaces body first ≡ sooner first (of_visits p spaces (visits bound within body))
  in-body p spaces bound within End first = sym (sooner-none first)
  in-body p spaces bound within (Then line form rest) first =
      let here = statement_refusal p spaces line form in
      let inner = of_visits p spaces (inner_visits bound within form) in
      let others = of_visits p spaces (visits bound within rest) in
      in-body p spaces bound within rest (first_inside p spaces form (sooner first here))
      ∙ (ap (λ x. sooner x others) (inside p spaces bound within form (sooner first here))
      ∙ (sooner_three (sooner first here) inner others
      ∙ (sooner_three first here (sooner inner others)
      ∙ ap (λ x. sooner first (sooner here x)) (sym (soonest-append (of_visit p spaces) (inner_visits bound within form) (visits bound within rest))))))

  -- the walk through the statements inside a statement
  inside : (p : Tree) (spaces : Spaces) (bound : List ℕ) (within : Bool) (form : Plain) (first : Option AtLine) → first_inside p spaces form first ≡ sooner first (of_visits p spaces (inner_visits bound within form))
  inside p spaces bound within (Do index body) first = in-body p spaces (index ∷ bound) within body first
  inside p spaces bound within (DoIn sub index body) first = in-body p spaces (sub ∷ bound) within body first
  inside p spaces bound within (Pardo indices wheres body) first = in-body p spaces (indices ++ bound) true body first
  inside p spaces bound within (If cond body) first = in-body p spaces bound within body first
  inside p spaces bound within (IfElse cond body other) first =
      in-body p spaces bound within other (first_in p spaces body first)
      ∙ (ap (λ x. sooner x (of_visits p spaces (visits bound within other))) (in-body p spaces bound within body first)
      ∙ (sooner_three first (of_visits p spaces (visits bound within body)) (of_visits p spaces (visits bound within other))
      ∙ ap (sooner first) (sym (soonest-append (of_visit p spaces) (visits bound within body) (visits bound within other)))))
  inside p spaces bound within _ first = sym (sooner-none first)

-- the walk through procedures
in-procedures : (p : Tree) (spaces : Spaces) (qs : List Procedure) (first : Option AtLine)
    → first_of_all p spaces qs first ≡ sooner first (of_visits p spaces (flat_map (λ (q : Procedure). body_visits q.body) qs))
in-procedures p spaces [] first = sym (sooner-none first)
in-procedures p spaces (q ∷ qs) first =
    let others = of_visits p spaces (flat_map (λ (q : Procedure). body_visits q.body) qs) in
    in-procedures p spaces qs (first_in p spaces q.body first)
    ∙ (ap (λ x. sooner x others) (in-body p spaces [] false q.body first)
    ∙ (sooner_three first (of_visits p spaces (body_visits q.body)) others
    ∙ ap (sooner first) (sym (soonest-append (of_visit p spaces) (body_visits q.body) (flat_map (λ (q : Procedure). body_visits q.body) qs)))))

-- what the walk finds is the refusal that comes first
pub walk_first : (p : Tree) (spaces : Spaces) → first_of_all p spaces p.procedures (first_in p spaces p.body None) ≡ statements_refusal p spaces
walk_first p spaces =
    in-procedures p spaces p.procedures (first_in p spaces p.body None)
    ∙ (ap (λ x. sooner x (of_visits p spaces (flat_map (λ (q : Procedure). body_visits q.body) p.procedures))) (in-body p spaces [] false p.body None)
    ∙ sym (soonest-append (of_visit p spaces) (body_visits p.body) (flat_map (λ (q : Procedure). body_visits q.body) p.procedures)))
