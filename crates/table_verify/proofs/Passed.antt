-- A program that was read and passes is proper, and a proper one is read from its tables and passes.
use Rattle.std.proofs.Common.{◌≡◌, ℕ, ◌+◌, ◌<◌, ◌≤◌, ◌^◌, List, [], ◌∷◌, ◌++◌, Bool, true, false, ◌&&◌, cond, nat_lt, nat_le, length, Option, Some, None, Err, refl, sym, ap, subst, ◌∙◌, arith, append-nil}
use Rattle.std.specs.Prelude.{IsTrue}
use Rattle.std.specs.List.{AllByRecursion, list_all, flat_map, enumerate_from}
use Rattle.std.proofs.lemmas.Bool.{le-leb, lt-ltb}
use Rattle.std.proofs.lemmas.Bool.Decides.{nat_tests}
use Rattle.std.proofs.lemmas.List.Concat.{flat_map-cons}
use Rattle.sial_syntax.specs.declared.condition.Cond.{Cond}
use Rattle.sial_syntax.specs.declared.index.IndexDecl.{IndexDecl}
use Rattle.sial_syntax.specs.declared.index.Range.{Range}
use Rattle.sial_syntax.specs.declared.index.Range.TheVariants as range
use Rattle.sial_syntax.specs.declared.program.Program.{Program}
use Rattle.sial_syntax.specs.Limits.{most_names, most_nesting, most_statements}
use Rattle.sial_syntax.specs.Names.{is_name}
use Rattle.sial_syntax.specs.Parts.{condition_numbers, numbers_named}
use Rattle.sial_syntax.specs.Proper.{IsProper, is_number, is_line, proper_range, proper_index, proper_array, proper_body, proper_depth, proper_procedure, proper_numbers, body_nesting, all_statements}
use Rattle.sial_syntax.specs.Tree.{Tree, Procedure, Block, End, Then, Plain, Do, DoIn, Pardo, If, IfElse, Assign, tree}
use Rattle.sial_syntax.specs.Visits.{Visit, visits, inner_visits, body_visits, all_visits}
use Rattle.sip_tables.specs.Flatten.{flatten}
use Rattle.sip_tables.specs.Lists.{Lists}
use Rattle.table_verify.specs.declared.fault.VerifyFault.{VerifyFault}
use Rattle.table_verify.specs.Answers.{Answers}
use Rattle.table_verify.specs.Numbers.{form_numbers, body_numbers}
use Rattle.table_verify.specs.Passing.{passes_procedure, passes_names, passes_bodies, passes_lists, passes, verified, procedures_numbers, all_numbers}
use Rattle.table_verify.specs.Reading.{read}
use Rattle.table_verify.proofs.Closed.{then_some, kept, both}
use Rattle.table_verify.proofs.ProgramFound.{IsShallow}
use Rattle.table_verify.proofs.TablesFound.{IsShallowTree, tables_found}
use Rattle.table_verify.proofs.NamesAgain.{FitsRange}
use Rattle.table_verify.proofs.TablesAgain.{tables_again}

-- two tests together
pub together : (a b : Bool) → a ≡ true → b ≡ true → (a && b) ≡ true
together a b e f = rw (e, f) refl

appended : {X : Type 0} (p : X → Bool) (xs ys : List X) → list_all p xs ≡ true → list_all p ys ≡ true → list_all p (xs ++ ys) ≡ true
appended p [] ys h g = g
appended p (x ∷ xs) ys h g = let b = both (p x) (list_all p xs) h in together (p x) (list_all p (xs ++ ys)) b.0 (appended p xs ys b.1 g)

-- ---- numbers

-- the numbers of one condition, as those of a list
one_condition : (c : Cond) → list_all is_number (condition_numbers c) ≡ true → list_all is_number (flat_map condition_numbers (c ∷ [])) ≡ true
one_condition c h = subst (λ (ns : List ℕ). list_all is_number ns ≡ true) (sym (flat_map-cons condition_numbers c [] ∙ append-nil (condition_numbers c))) h

-- the numbers that a statement writes out itself
own_numbers : (f : Plain) → form_numbers f ≡ true → list_all is_number (numbers_named f) ≡ true
own_numbers (Do index b) h = refl
own_numbers (DoIn sub index b) h = refl
own_numbers (Pardo indices ws b) h = (both (list_all is_number (flat_map condition_numbers ws)) (body_numbers b) h).0
own_numbers (If test b) h = one_condition test (both (list_all is_number (condition_numbers test)) (body_numbers b) h).0
own_numbers (IfElse test b o) h = one_condition test (both (list_all is_number (condition_numbers test)) (body_numbers b && body_numbers o) h).0
own_numbers (Assign target combining right) h = h
own_numbers _ h = refl

own : (v : Visit) → is_line v.line ≡ true → form_numbers v.form ≡ true → proper_numbers v ≡ true
own v l h = together (is_line v.line) (list_all is_number (numbers_named v.form)) l (own_numbers v.form h)

mutual
  form_visited : (bound : List ℕ) (within : Bool) (f : Plain) → form_numbers f ≡ true → list_all proper_numbers (inner_visits bound within f) ≡ true
  form_visited bound within (Do index b) h = body_visited (index ∷ bound) within b h
  form_visited bound within (DoIn sub index b) h = body_visited (sub ∷ bound) within b h
  form_visited bound within (Pardo indices ws b) h = body_visited (indices ++ bound) true b (both (list_all is_number (flat_map condition_numbers ws)) (body_numbers b) h).1
  form_visited bound within (If test b) h = body_visited bound within b (both (list_all is_number (condition_numbers test)) (body_numbers b) h).1
  form_visited bound within (IfElse test b o) h =
      let both_bodies = both (body_numbers b) (body_numbers o) (both (list_all is_number (condition_numbers test)) (body_numbers b && body_numbers o) h).1 in
      appended proper_numbers (visits bound within b) (visits bound within o) (body_visited bound within b both_bodies.0) (body_visited bound within o both_bodies.1)
  form_visited bound within _ h = refl

  body_visited : (bound : List ℕ) (within : Bool) (b : Block) → body_numbers b ≡ true → list_all proper_numbers (visits bound within b) ≡ true
  body_visited bound within End h = refl
  body_visited bound within (Then line f rest) h =
      let a = both (is_line line && form_numbers f) (body_numbers rest) h in
      let l = both (is_line line) (form_numbers f) a.0 in
      let here = own (record { line = line; form = f; bound = bound; within = within }) l.0 l.1 in
      together (proper_numbers (record { line = line; form = f; bound = bound; within = within })) (list_all proper_numbers (inner_visits bound within f ++ visits bound within rest)) here
      (appended proper_numbers (inner_visits bound within f) (visits bound within rest) (form_visited bound within f l.1) (body_visited bound within rest a.1))

procedures_visited : (qs : List Procedure) → procedures_numbers qs ≡ true → list_all proper_numbers (flat_map (λ (q : Procedure). body_visits q.body) qs) ≡ true
procedures_visited [] h = refl
procedures_visited (q ∷ qs) h =
    let b = both (body_numbers q.body) (procedures_numbers qs) h in
    subst (λ (vs : List Visit). list_all proper_numbers vs ≡ true) (sym (flat_map-cons (λ (x : Procedure). body_visits x.body) q qs))
    (appended proper_numbers (body_visits q.body) (flat_map (λ (x : Procedure). body_visits x.body) qs) (body_visited [] false q.body b.0) (procedures_visited qs b.1))

all_visited : (p : Tree) → all_numbers p ≡ true → list_all proper_numbers (all_visits p) ≡ true
all_visited p h =
    let b = both (procedures_numbers p.procedures) (body_numbers p.body) h in
    appended proper_numbers (body_visits p.body) (flat_map (λ (q : Procedure). body_visits q.body) p.procedures) (body_visited [] false p.body b.1) (procedures_visited p.procedures b.0)

-- ---- what passes is proper

pub at_most : (a b : ℕ) → nat_le a b ≡ true → a ≤ b
at_most a b is = grind (arith, nat_tests)

below : (a b : ℕ) → nat_lt a b ≡ true → a < b
below a b is = grind (arith, nat_tests)

deep : (p : Tree) (b : Block) → proper_body p b ≡ true → body_nesting b ≤ most_nesting → proper_depth p b ≡ true
deep p b there few = together (proper_body p b) (nat_le (body_nesting b) most_nesting) there (le-leb (body_nesting b) most_nesting few)

procedures_proper : (p : Tree) (qs : List Procedure) → list_all (passes_procedure p) qs ≡ true → AllByRecursion IsShallow qs → list_all (proper_procedure p) qs ≡ true
procedures_proper p [] h shallow = refl
procedures_proper p (q ∷ qs) h shallow =
    let b = both (passes_procedure p q) (list_all (passes_procedure p) qs) h in
    let c = both (is_name q.name) (proper_body p q.body) b.0 in
    together (proper_procedure p q) (list_all (proper_procedure p) qs) (together (is_name q.name) (proper_depth p q.body) c.0 (deep p q.body c.1 shallow.0)) (procedures_proper p qs b.1 shallow.1)

pub passed : (p : Tree) → passes p ≡ true → all_numbers p ≡ true → IsShallowTree p → IsProper p
passed p h numbers shallow =
    let a = both (passes_lists p) (passes_names p && (passes_bodies p && nat_le (all_statements p) most_statements)) h in
    let b = both (passes_names p) (passes_bodies p && nat_le (all_statements p) most_statements) a.1 in
    let c = both (passes_bodies p) (nat_le (all_statements p) most_statements) b.1 in
    let l0 = both (nat_le (length p.indices) most_names) (nat_le (length p.arrays) most_names && (nat_le (length p.scalars) most_names && nat_le (length p.procedures) most_names)) a.0 in
    let l1 = both (nat_le (length p.arrays) most_names) (nat_le (length p.scalars) most_names && nat_le (length p.procedures) most_names) l0.1 in
    let l2 = both (nat_le (length p.scalars) most_names) (nat_le (length p.procedures) most_names) l1.1 in
    let n0 = both (is_name p.name) (list_all proper_index (enumerate_from 0 p.indices) && (list_all (proper_array p) p.arrays && list_all is_name p.scalars)) b.0 in
    let n1 = both (list_all proper_index (enumerate_from 0 p.indices)) (list_all (proper_array p) p.arrays && list_all is_name p.scalars) n0.1 in
    let n2 = both (list_all (proper_array p) p.arrays) (list_all is_name p.scalars) n1.1 in
    let d = both (list_all (passes_procedure p) p.procedures) (proper_body p p.body) c.0 in
    record {
      name = n0.0;
      indices = n1.0;
      arrays = n2.0;
      scalars = n2.1;
      procedures = procedures_proper p p.procedures d.0 shallow.procedures;
      body = deep p p.body d.1 shallow.body;
      numbers = all_visited p numbers;
      few_indices = at_most (length p.indices) most_names l0.0;
      few_arrays = at_most (length p.arrays) most_names l1.0;
      few_scalars = at_most (length p.scalars) most_names l2.0;
      few_procedures = at_most (length p.procedures) most_names l2.1;
      few_statements = at_most (all_statements p) most_statements c.1;
    }

-- ---- what is proper passes

procedures_pass : (p : Tree) (qs : List Procedure) → list_all (proper_procedure p) qs ≡ true → (list_all (passes_procedure p) qs ≡ true) × AllByRecursion IsShallow qs
procedures_pass p [] h = (refl, tt)
procedures_pass p (q ∷ qs) h =
    let b = both (proper_procedure p q) (list_all (proper_procedure p) qs) h in
    let c = both (is_name q.name) (proper_depth p q.body) b.0 in
    let d = both (proper_body p q.body) (nat_le (body_nesting q.body) most_nesting) c.1 in
    let rest = procedures_pass p qs b.1 in
    (together (passes_procedure p q) (list_all (passes_procedure p) qs) (together (is_name q.name) (proper_body p q.body) c.0 d.0) rest.0, (at_most (body_nesting q.body) most_nesting d.1, rest.1))

range_fits : (place : ℕ) (r : Range) → place ≤ most_names → proper_range place r ≡ true → FitsRange r
range_fits place (range.Segments kind lo hi) few h = tt
range_fits place (range.Sub super) few h = let s = below super place h in lt-ltb super (2 ^ 16) (omega (arith, s, few))

pub indices_fit : (k : ℕ) (ds : List IndexDecl) → k + length ds ≤ most_names → list_all proper_index (enumerate_from k ds) ≡ true → AllByRecursion (λ (d : IndexDecl). FitsRange d.range) ds
indices_fit k [] few h = tt
indices_fit k (d ∷ ds) few h =
    let b = both (proper_index (k, d)) (list_all proper_index (enumerate_from (k + 1) ds)) h in
    let c = both (is_name d.name) (is_line d.line && proper_range k d.range) b.0 in
    let e = both (is_line d.line) (proper_range k d.range) c.1 in
    (range_fits k d.range (omega (arith, few)) e.1, indices_fit (k + 1) ds (omega (arith, few)) b.1)

pub proper_passes : (p : Tree) → IsProper p → passes p ≡ true
proper_passes p h =
    let ps = procedures_pass p p.procedures h.procedures in
    let body = both (proper_body p p.body) (nat_le (body_nesting p.body) most_nesting) h.body in
    let n2 = together (list_all (proper_array p) p.arrays) (list_all is_name p.scalars) h.arrays h.scalars in
    let n1 = together (list_all proper_index (enumerate_from 0 p.indices)) (list_all (proper_array p) p.arrays && list_all is_name p.scalars) h.indices n2 in
    let n0 : passes_names p ≡ true = together (is_name p.name) (list_all proper_index (enumerate_from 0 p.indices) && (list_all (proper_array p) p.arrays && list_all is_name p.scalars)) h.name n1 in
    let l2 = together (nat_le (length p.scalars) most_names) (nat_le (length p.procedures) most_names) (le-leb (length p.scalars) most_names h.few_scalars) (le-leb (length p.procedures) most_names h.few_procedures) in
    let l1 = together (nat_le (length p.arrays) most_names) (nat_le (length p.scalars) most_names && nat_le (length p.procedures) most_names) (le-leb (length p.arrays) most_names h.few_arrays) l2 in
    let l0 : passes_lists p ≡ true =
    together (nat_le (length p.indices) most_names) (nat_le (length p.arrays) most_names && (nat_le (length p.scalars) most_names && nat_le (length p.procedures) most_names)) (le-leb (length p.indices) most_names h.few_indices) l1 in
    let b0 : passes_bodies p ≡ true = together (list_all (passes_procedure p) p.procedures) (proper_body p p.body) ps.0 body.0 in
    let c0 = together (passes_bodies p) (nat_le (all_statements p) most_statements) b0 (le-leb (all_statements p) most_statements h.few_statements) in
    together (passes_lists p) (passes_names p && (passes_bodies p && nat_le (all_statements p) most_statements)) l0 (together (passes_names p) (passes_bodies p && nat_le (all_statements p) most_statements) n0 c0)

-- ---- tables and programs

pub verified_found : (t : Lists) (p : Tree) → verified t ≡ Some p → (flatten p ≡ t) × (IsShallowTree p × (passes p ≡ true))
unfolding verified
verified_found t p e =
    let G = (flatten p ≡ t) × (IsShallowTree p × (passes p ≡ true)) in
    then_some G (read t) (λ q. cond (passes q) (Some q) None) p e (λ q first k. kept G (passes q) q p k (λ holds same.
    let f = tables_found t q first in
    subst (λ (w : Tree). (flatten w ≡ t) × (IsShallowTree w × (passes w ≡ true))) same (f.0, (f.1, holds))))

pub verified_again : (p : Tree) → IsProper p → verified (flatten p) ≡ Some p
unfolding verified
verified_again p h =
    let ps = procedures_pass p p.procedures h.procedures in
    let body = both (proper_body p p.body) (nat_le (body_nesting p.body) most_nesting) h.body in
    let few = h.few_indices in
    let again = tables_again p (record { body = at_most (body_nesting p.body) most_nesting body.1; procedures = ps.1 }) (indices_fit 0 p.indices (omega (arith, few)) h.indices) in
    rw (again, proper_passes p h) refl

-- ---- answers

pub ok_found : (t : Lists) (q : Program) → verified t ≡ Some (tree q) → flatten (tree q) ≡ t
ok_found t q gives = (verified_found t (tree q) gives).0

pub ok_proper : (t : Lists) (q : Program) → verified t ≡ Some (tree q) → IsTrue (all_numbers (tree q)) → IsProper (tree q)
ok_proper t q gives numbers = let f = verified_found t (tree q) gives in passed (tree q) f.1.1 numbers f.1.0

pub ok_only : (t : Lists) (q : Program) → verified t ≡ Some (tree q) → (p : Tree) → IsProper p → flatten p ≡ t → tree q ≡ p
ok_only t q gives p proper same =
    let e : verified t ≡ Some p = ap verified (sym same) ∙ verified_again p proper in
    let f : ◌≡◌ {A = Option Tree} (Some (tree q)) (Some p) = sym gives ∙ e in
    cc

-- tables of which no program is read are those of no proper one
pub none_only : (t : Lists) → verified t ≡ None → (p : Tree) → IsProper p → flatten p ≡ t → ⊥
none_only t gives p proper same =
    let e : verified t ≡ Some p = ap verified (sym same) ∙ verified_again p proper in
    let f : ◌≡◌ {A = Option Tree} None (Some p) = sym gives ∙ e in
    absurd cc

-- then any answer is right
pub err_only : (t : Lists) (fault : VerifyFault) → verified t ≡ None → (p : Tree) → IsProper p → flatten p ≡ t → Answers p (Err fault)
err_only t fault gives p proper same = absurd (none_only t gives p proper same)
