-- What tables declare is what the reader of names finds.
use Rattle.std.proofs.Common.{◌≡◌, ℕ, ◌-◌, ◌≤◌, List, [], ◌∷◌, ◌++◌, true, ◌&&◌, cond, nat_le, length, map, sum_by, Some, None, refl, sym, ap, subst, ◌∙◌, arith}
use Rattle.std.specs.List.{AllByRecursion, list_all}
use Rattle.std.proofs.lemmas.Bool.{le-leb}
use Rattle.std.proofs.lemmas.List.{length-map}
use Rattle.sial_syntax.specs.Limits.{most_names, most_statements}
use Rattle.sial_syntax.specs.Names.{is_name}
use Rattle.sial_syntax.specs.Numbering.{statements}
use Rattle.sial_syntax.specs.Proper.{IsProper, proper_body, all_statements}
use Rattle.sial_syntax.specs.Tree.{Tree, Procedure}
use Rattle.sip_tables.specs.declared.procedure.ProcedureEntry.{ProcedureEntry}
use Rattle.sip_tables.specs.Entries.{procedure_entries}
use Rattle.sip_tables.specs.Flatten.{flatten}
use Rattle.sip_tables.specs.Lists.{Lists}
use Rattle.sip_tables.specs.Texts.{names, scalar_names}
use Rattle.table_verify.specs.NumberFaults.{Declares, OutsideIsRight}
use Rattle.table_verify.specs.Numbering.{passes_heads, is_used, declared}
use Rattle.table_verify.specs.Passing.{passes_lists, passes_names, passes_procedure, passes_bodies, procedures_numbers}
use Rattle.table_verify.specs.Reading.{entries_in, heads}
use Rattle.table_verify.specs.Rest.{Left}
use Rattle.table_verify.specs.Things.{prints_in, begun_in}
use Rattle.table_verify.proofs.Closed.{then_some, kept, both}
use Rattle.table_verify.proofs.NamesAgain.{emptied}
use Rattle.table_verify.proofs.Passed.{passed, proper_passes, indices_fit, together, at_most}
use Rattle.table_verify.proofs.ProgramFound.{IsShallow, heads_found}
use Rattle.table_verify.proofs.StatementsAgain.{state}
use Rattle.table_verify.proofs.TablesAgain.{headed, heads_of}

-- ---- a program without its statements

same_procedures : (qs : List Procedure) → map (λ (q : Procedure). q.name) (map emptied qs) ≡ map (λ (q : Procedure). q.name) qs
same_procedures [] = refl
same_procedures (q ∷ qs) = ap (λ (ns : List (List ℕ)). q.name ∷ ns) (same_procedures qs)

pub same_names : (p : Tree) → names (headed p) ≡ names p
same_names p = ap (λ (ns : List (List ℕ)). scalar_names p ++ ns) (same_procedures p.procedures)

pub many_procedures : (p : Tree) → length (headed p).procedures ≡ length p.procedures
many_procedures p = length-map p.procedures emptied

procedures_pass : (r s : Tree) (qs : List Procedure) → list_all (passes_procedure r) qs ≡ true → list_all (passes_procedure s) (map emptied qs) ≡ true
procedures_pass r s [] h = refl
procedures_pass r s (q ∷ qs) h =
    let b = both (passes_procedure r q) (list_all (passes_procedure r) qs) h in
    let c = both (is_name q.name) (proper_body r q.body) b.0 in
    together (is_name q.name && true) (list_all (passes_procedure s) (map emptied qs)) (together (is_name q.name) true c.0 refl) (procedures_pass r s qs b.1)

lists_pass : (p : Tree) → passes_lists p ≡ true → passes_lists (headed p) ≡ true
lists_pass p h =
    ap (λ (n : ℕ). nat_le (length p.indices) most_names && (nat_le (length p.arrays) most_names && (nat_le (length p.scalars) most_names && nat_le n most_names))) (many_procedures p) ∙ h

pub headed_passes : (p : Tree) → passes_heads p ≡ true → passes_heads (headed p) ≡ true
headed_passes p h =
    let a = both (passes_lists p) (passes_names p && list_all (passes_procedure p) p.procedures) h in
    let b = both (passes_names p) (list_all (passes_procedure p) p.procedures) a.1 in
    together (passes_lists (headed p)) (passes_names p && list_all (passes_procedure (headed p)) (map emptied p.procedures)) (lists_pass p a.0)
    (together (passes_names p) (list_all (passes_procedure (headed p)) (map emptied p.procedures)) b.0 (procedures_pass p (headed p) p.procedures b.1))

pub proper_heads : (p : Tree) → IsProper p → passes_heads p ≡ true
proper_heads p proper =
    let a = both (passes_lists p) (passes_names p && (passes_bodies p && nat_le (all_statements p) most_statements)) (proper_passes p proper) in
    let b = both (passes_names p) (passes_bodies p && nat_le (all_statements p) most_statements) a.1 in
    let c = both (passes_bodies p) (nat_le (all_statements p) most_statements) b.1 in
    let d = both (list_all (passes_procedure p) p.procedures) (proper_body p p.body) c.0 in
    together (passes_lists p) (passes_names p && list_all (passes_procedure p) p.procedures) a.0 (together (passes_names p) (list_all (passes_procedure p) p.procedures) b.0 d.0)

no_statements : (qs : List Procedure) → sum_by (λ (q : Procedure). statements q.body) (map emptied qs) ≡ 0
no_statements [] = refl
no_statements (q ∷ qs) = no_statements qs

no_numbers : (qs : List Procedure) → procedures_numbers (map emptied qs) ≡ true
no_numbers [] = refl
no_numbers (q ∷ qs) = no_numbers qs

nothing_nests : (qs : List Procedure) → AllByRecursion IsShallow (map emptied qs)
nothing_nests [] = tt
nothing_nests (q ∷ qs) = (omega arith, nothing_nests qs)

headed_proper : (p : Tree) → passes_heads p ≡ true → IsProper (headed p)
headed_proper p h =
    let k = headed_passes p h in
    let a = both (passes_lists (headed p)) (passes_names (headed p) && list_all (passes_procedure (headed p)) (headed p).procedures) k in
    let b = both (passes_names (headed p)) (list_all (passes_procedure (headed p)) (headed p).procedures) a.1 in
    let none : all_statements (headed p) ≤ most_statements = let n = no_statements p.procedures in omega (arith, n) in
    let bodies : passes_bodies (headed p) ≡ true = together (list_all (passes_procedure (headed p)) (headed p).procedures) true b.1 refl in
    passed (headed p)
    (together (passes_lists (headed p)) (passes_names (headed p) && (passes_bodies (headed p) && nat_le (all_statements (headed p)) most_statements)) a.0
    (together (passes_names (headed p)) (passes_bodies (headed p) && nat_le (all_statements (headed p)) most_statements) b.0
    (together (passes_bodies (headed p)) (nat_le (all_statements (headed p)) most_statements) bodies (le-leb (all_statements (headed p)) most_statements none))))
    (together (procedures_numbers (headed p).procedures) true (no_numbers p.procedures) refl)
    (record { body = omega arith; procedures = nothing_nests p.procedures })

-- ---- what is found is declared

declares_found : (t : Lists) (q : Tree) (new : Left) → heads t ≡ Some (q, new) → passes_heads q ≡ true → Declares t (headed q)
declares_found t q new e h =
    let f = heads_found t q new e in
    record {
      proper = headed_proper q h;
      others = new.texts;
      texts = f.texts ∙ ap (λ (ns : List (List ℕ)). ns ++ new.texts) (sym (same_names q));
      indices = f.indices;
      arrays = f.arrays;
      scalars = f.scalars;
      procedures = f.procedures;
      many = f.many ∙ sym (many_procedures q);
    }

-- the program that was found, and the number of the first text behind its names
pub record IsFound (t : Lists) (q : Tree) (next : ℕ) : Type 0 where
  pub right : OutsideIsRight t (headed q)
  pub number : next ≡ length (names (headed q))

used_found : (t : Lists) (q : Tree) (new : Left) → heads t ≡ Some (q, new) → passes_heads q ≡ true → is_used t new.text ≡ true → IsFound t q new.text
used_found t q new e h used =
    let f = heads_found t q new e in
    let u = both (nat_le (length t.texts - new.text) (prints_in t.code)) (nat_le (begun_in t.code) most_statements) used in
    let number : new.text ≡ length (names (headed q)) = f.text ∙ ap (λ (ns : List (List ℕ)). length ns) (sym (same_names q)) in
    let few = at_most (length t.texts - new.text) (prints_in t.code) u.0 in
    record {
      right = record { declares = declares_found t q new e h; used = omega (arith, few, number); few = at_most (begun_in t.code) most_statements u.1 };
      number = number;
    }

pub declared_found : (t : Lists) (q : Tree) (next : ℕ) → declared t ≡ Some (q, next) → IsFound t q next
unfolding declared
declared_found t q next e =
    let G = IsFound t q next in
    then_some G (heads t) (λ x. cond (passes_heads x.0 && is_used t x.1.text) (Some (x.0, x.1.text)) None) (q, next) e (λ x first k.
    kept G (passes_heads x.0 && is_used t x.1.text) (x.0, x.1.text) (q, next) k (λ holds same.
    let b = both (passes_heads x.0) (is_used t x.1.text) holds in
    subst (λ (w : Tree × ℕ). IsFound t w.0 w.1) same (used_found t x.0 x.1 first b.0 b.1)))

-- ---- what is declared is found

heads_declared : (t : Lists) (p : Tree) (d : Declares t p) → heads t ≡ Some (headed p, state 0 (length (names p)) t.code d.others)
heads_declared t p d =
    let few = d.proper.few_indices in
    let parts : t ≡ record { texts = names p ++ d.others; indices = (flatten p).indices; arrays = (flatten p).arrays; scalars = (flatten p).scalars; procedures = procedure_entries (length (scalar_names p)) (entries_in t.procedures); code = t.code } =
    λ i. record { texts = d.texts i; indices = d.indices i; arrays = d.arrays i; scalars = d.scalars i; procedures = d.procedures i; code = t.code } in
    ap heads parts ∙ heads_of p (entries_in t.procedures) t.code d.others (indices_fit 0 p.indices (omega (arith, few)) d.proper.indices) (length-map t.procedures (λ (q : ProcedureEntry). q.entry) ∙ d.many)

declared_by : (t : Lists) (q : Tree) (new : Left) → heads t ≡ Some (q, new) → (passes_heads q && is_used t new.text) ≡ true → declared t ≡ Some (q, new.text)
unfolding declared
declared_by t q new e h = rw (e, h) refl

pub found_declared : (t : Lists) (p : Tree) → OutsideIsRight t p → declared t ≡ Some (headed p, length (names p))
found_declared t p o =
    let d = o.declares in
    let used = o.used in
    let left : length t.texts - length (names p) ≤ prints_in t.code = omega (arith, used) in
    let all = together (nat_le (length t.texts - length (names p)) (prints_in t.code)) (nat_le (begun_in t.code) most_statements) (le-leb (length t.texts - length (names p)) (prints_in t.code) left) (le-leb (begun_in t.code) most_statements o.few) in
    declared_by t (headed p) (state 0 (length (names p)) t.code d.others) (heads_declared t p d)
    (together (passes_heads (headed p)) (is_used t (length (names p))) (headed_passes p (proper_heads p d.proper)) all)
