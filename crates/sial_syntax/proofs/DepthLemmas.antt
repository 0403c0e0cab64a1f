-- How deep procedures call in a proper program that the side rules grant.
use Rattle.std.proofs.Common.{◌≡◌, ℕ, zero, suc, ◌+◌, ◌<◌, ◌≤◌, max, List, [], ◌∷◌, ◌++◌, map, length, slice_index_or, fold, Bool, true, false, ◌&&◌, nat_lt, nat_le, inl, inr, ⊎_elim, refl, sym, ap, subst, arith, None, IsTrue}
use Rattle.std.specs.List.{list_all}
use Rattle.std.proofs.lemmas.Bool.{and_parts, ltb-true, ltb-false}
use Rattle.sial_syntax.specs.Limits.{most_depth, most_pardo, most_nesting}
use Rattle.sial_syntax.specs.Names.{is_name}
use Rattle.sial_syntax.specs.Proper.{IsProper, has_index, has_length, proper_body, proper_form, proper_cond, proper_depth, proper_procedure, body_nesting}
use Rattle.sial_syntax.specs.Sides.{called_by}
use Rattle.sial_syntax.specs.SideRules.{calls_of, recursion, depth_of}
use Rattle.sial_syntax.specs.Tree.{Tree, Procedure, Block, End, Then, Plain, Do, DoIn, Pardo, If, IfElse, Call}
use Rattle.sial_syntax.specs.Visits.{Visit, visits, inner_visits, body_visits}
use Rattle.sial_syntax.proofs.AmongLemmas.{Among, among_either, among_flat_from, all_from, all_at}
use Rattle.sial_syntax.proofs.CallLemmas.{Below, Chain, chain_short, no_procedure}

-- whether chains of calls from a procedure, itself counted, are no longer than this
abbrev pub shallow : Tree → (most procedure : ℕ) → Bool
shallow p zero procedure = false
shallow p (suc most) procedure = list_all (shallow p most) (calls_of p procedure)

-- the procedure that a proper statement calls is there
pub form_called : (p : Tree) (form : Plain) → IsTrue (proper_form p form) → (q : ℕ) → Among q (called_by form) → q < length p.procedures
form_called p (Call procedure) there q m =
    ⊎_elim (λ same. subst (λ (x : ℕ). x < length p.procedures) (sym same) (ltb-true procedure (length p.procedures) there)) (λ none. absurd none) m
form_called p form there q m = absurd m

mutual
  -- the parts of each statement of a proper body are there
  pub body_form : (p : Tree) (bound : List ℕ) (within : Bool) (body : Block) → IsTrue (proper_body p body) → (v : Visit) → Among v (visits bound within body) → IsTrue (proper_form p v.form)
  body_form p bound within End there v m = absurd m
  body_form p bound within (Then line form rest) there v m =
      let parts = and_parts (proper_form p form) (proper_body p rest) there in
      ⊎_elim
      (λ (same : v ≡ record { line = line; form = form; bound = bound; within = within }). subst (λ (x : Visit). IsTrue (proper_form p x.form)) (sym same) parts.0)
      (λ (n : Among v (inner_visits bound within form ++ visits bound within rest)).
      ⊎_elim
      (λ k. form_form p bound within form parts.0 v k)
      (λ k. body_form p bound within rest parts.1 v k)
      (among_either v (inner_visits bound within form) (visits bound within rest) n))
      m

  -- so are those of each statement inside one
  pub form_form : (p : Tree) (bound : List ℕ) (within : Bool) (form : Plain) → IsTrue (proper_form p form) → (v : Visit) → Among v (inner_visits bound within form) → IsTrue (proper_form p v.form)
  form_form p bound within (Do index body) there v m = body_form p (index ∷ bound) within body (and_parts (has_index p index) (proper_body p body) there).1 v m
  form_form p bound within (DoIn sub index body) there v m =
      let parts = and_parts (has_index p sub) (has_index p index && proper_body p body) there in
      body_form p (sub ∷ bound) within body (and_parts (has_index p index) (proper_body p body) parts.1).1 v m
  form_form p bound within (Pardo indices wheres body) there v m =
      let ranked = and_parts (has_length most_pardo indices) (list_all (has_index p) indices && (list_all (proper_cond p) wheres && proper_body p body)) there in
      let indexed = and_parts (list_all (has_index p) indices) (list_all (proper_cond p) wheres && proper_body p body) ranked.1 in
      body_form p (indices ++ bound) true body (and_parts (list_all (proper_cond p) wheres) (proper_body p body) indexed.1).1 v m
  form_form p bound within (If test body) there v m = body_form p bound within body (and_parts (proper_cond p test) (proper_body p body) there).1 v m
  form_form p bound within (IfElse test body other) there v m =
      let tested = and_parts (proper_cond p test) (proper_body p body && proper_body p other) there in
      let parts = and_parts (proper_body p body) (proper_body p other) tested.1 in
      ⊎_elim
      (λ n. body_form p bound within body parts.0 v n)
      (λ n. body_form p bound within other parts.1 v n)
      (among_either v (visits bound within body) (visits bound within other) m)
  form_form p bound within form there v m = absurd m

-- the procedures that a proper body calls are there
pub body_calls : (p : Tree) (bound : List ℕ) (within : Bool) (body : Block) → IsTrue (proper_body p body) → (v : Visit) (q : ℕ) → Among v (visits bound within body) → Among q (called_by v.form) → q < length p.procedures
body_calls p bound within body there v q m c = form_called p v.form (body_form p bound within body there v m) q c

-- the parts of a procedure's statements are there
pub procedure_there : (p : Tree) (procedures : List Procedure) (number : ℕ) → IsTrue (list_all (proper_procedure p) procedures) → IsTrue (proper_body p (slice_index_or procedures number no_procedure).body)
procedure_there p [] number e = refl
procedure_there p (q ∷ qs) zero e =
    let named = and_parts (proper_procedure p q) (list_all (proper_procedure p) qs) e in
    let deep = and_parts (is_name q.name) (proper_depth p q.body) named.0 in
    (and_parts (proper_body p q.body) (nat_le (body_nesting q.body) most_nesting) deep.1).0
procedure_there p (q ∷ qs) (suc n) e = procedure_there p qs n (and_parts (proper_procedure p q) (list_all (proper_procedure p) qs) e).1

-- the procedures that a procedure calls are there
pub calls_below : (p : Tree) → IsProper p → (w q : ℕ) → Among q (calls_of p w) → q < length p.procedures
calls_below p proper w q m =
    let r = among_flat_from (λ (v : Visit). called_by v.form) q (body_visits (slice_index_or p.procedures w no_procedure).body) m in
    body_calls p [] false (slice_index_or p.procedures w no_procedure).body (procedure_there p p.procedures w proper.procedures) r.0 q r.1 r.2

-- chains of calls are no longer than there are procedures, those that led here counted
shallow_after : (p : Tree) → IsProper p → recursion p ≡ None → (most q : ℕ) (ys : List ℕ) → Chain p (q ∷ ys) → Below (length p.procedures) (q ∷ ys) → most + length ys ≡ suc (length p.procedures) → shallow p most q ≡ true
shallow_after p proper none zero q ys chain below sum =
    let short : suc (length ys) ≤ length p.procedures = chain_short p none (q ∷ ys) chain below in absurd (omega (arith, short, sum))
shallow_after p proper none (suc most) q ys chain below sum =
    all_from
    (shallow p most)
    (calls_of p q)
    (λ r m. shallow_after p proper none most r (q ∷ ys) (m, chain) (calls_below p proper q r m, below) (omega (arith, sum)))

-- chains of calls are no longer than there are procedures
pub all_shallow : (p : Tree) → IsProper p → recursion p ≡ None → (q : ℕ) → q < length p.procedures → shallow p (suc (length p.procedures)) q ≡ true
all_shallow p proper none q there = shallow_after p proper none (suc (length p.procedures)) q [] (tt, tt) (there, tt) (omega arith)

-- what the greatest begins with is no greater
fold_above : (a : ℕ) (xs : List ℕ) → a ≤ fold max a xs
fold_above a [] = omega arith
fold_above a (x ∷ xs) = let next : max a x ≤ fold max (max a x) xs = fold_above (max a x) xs in omega (arith, next)

-- no member is greater than the greatest
member_above : (f : ℕ → ℕ) (a r : ℕ) (xs : List ℕ) → Among r xs → f r ≤ fold max a (map f xs)
member_above f a r [] m = absurd m
member_above f a r (x ∷ xs) (inl same) =
    let next : max a (f x) ≤ fold max (max a (f x)) (map f xs) = fold_above (max a (f x)) (map f xs) in
    let here : f r ≡ f x = ap f same in
    omega (arith, next, here)
member_above f a r (x ∷ xs) (inr m) = member_above f (max a (f x)) r xs m

-- chains of calls are no longer than the depth, where the depth looks at all
shallow_to : (p : Tree) (most d q : ℕ) → shallow p most q ≡ true → depth_of p most q ≤ d → shallow p d q ≡ true
shallow_to p zero d q s deep = absurd cc
shallow_to p (suc most) zero q s deep = absurd (omega (arith, deep))
shallow_to p (suc most) (suc d) q s deep =
    all_from
    (shallow p d)
    (calls_of p q)
    (λ r m.
    let inner : depth_of p most r ≤ fold max 0 (map (depth_of p most) (calls_of p q)) = member_above (depth_of p most) 0 r (calls_of p q) m in
    shallow_to p most d r (all_at (shallow p most) r (calls_of p q) s m) (omega (arith, inner, deep)))

-- chains of calls from a procedure that isn't too deep are no longer than calls may be
pub shallow_call : (p : Tree) → IsProper p → recursion p ≡ None → (q : ℕ) → q < length p.procedures → nat_lt most_depth (depth_of p (length p.procedures + 1) q) ≡ false → shallow p most_depth q ≡ true
shallow_call p proper none q there deep =
    let more : ◌≡◌ {A = ℕ} (suc (length p.procedures)) (length p.procedures + 1) = omega arith in
    shallow_to
    p
    (suc (length p.procedures))
    most_depth
    q
    (all_shallow p proper none q there)
    (subst (λ (n : ℕ). depth_of p n q ≤ most_depth) (sym more) (ltb-false most_depth (depth_of p (length p.procedures + 1) q) deep))

-- the parts of the program's own statements are there
pub body_there : (p : Tree) → IsProper p → IsTrue (proper_body p p.body)
body_there p proper = (and_parts (proper_body p p.body) (nat_le (body_nesting p.body) most_nesting) proper.body).0
