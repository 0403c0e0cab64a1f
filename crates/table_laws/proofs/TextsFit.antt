-- The texts of a proper program: names first, and then what is printed.
use Rattle.std.proofs.Common.{◌≡◌, ℕ, zero, suc, ◌+◌, ◌<◌, ◌≤◌, true, ◌&&◌, List, [], ◌∷◌, ◌++◌, length, map, slice_get, refl, sym, subst, arith}
use Rattle.std.specs.Prelude.{nat_le}
use Rattle.std.specs.List.{list_all, flat_map, enumerate_from, AllByRecursion}
use Rattle.std.proofs.lemmas.Bool.{leb-true}
use Rattle.std.proofs.lemmas.List.Concat.{flat_map-cons}
use Rattle.sial_syntax.specs.declared.array.ArrayDecl.{ArrayDecl}
use Rattle.sial_syntax.specs.declared.index.Bound.{Bound}
use Rattle.sial_syntax.specs.declared.index.Bound.TheVariants as bound
use Rattle.sial_syntax.specs.declared.index.IndexDecl.{IndexDecl}
use Rattle.sial_syntax.specs.declared.index.Range.{Range}
use Rattle.sial_syntax.specs.declared.index.Range.TheVariants as range
use Rattle.sial_syntax.specs.Limits.{most_name}
use Rattle.sial_syntax.specs.Names.{is_name, is_text, begins_with_letter, has_name_form}
use Rattle.sial_syntax.specs.Proper.{IsProper, has_index, has_length, is_line, proper_bound, proper_range, proper_index, proper_array, proper_body, proper_form, proper_procedure}
use Rattle.sial_syntax.specs.Tree.{Tree, Procedure, Block, End, Then, Plain, Do, DoIn, Pardo, If, IfElse, Call, Assign, Get, Request, Put, Prepare, Create, Delete, Allocate, Deallocate, Collective, SipBarrier, ServerBarrier, Print, PrintScalar, Integrals}
use Rattle.sip_tables.specs.Texts.{bound_texts, range_texts, index_texts, prints, body_prints, index_names, array_names, scalar_names, names, printed}
use Rattle.table_file.specs.Fields.{is_name_or_none, is_text_or_none}
use Rattle.table_file.specs.Fits.{IsShort}
use Rattle.table_laws.proofs.Proving.{both_true, all_of}
use Rattle.table_laws.proofs.CodeFits.{all_both}

abbrev pub IsName : List ℕ → Type 0
IsName t = is_name t ≡ true

abbrev pub IsText : List ℕ → Type 0
IsText t = is_text t ≡ true

bound_names : (b : Bound) → proper_bound b ≡ true → AllByRecursion IsName (bound_texts b)
bound_names (bound.Number n) e = tt
bound_names (bound.Named name) e = (e, tt)

range_names : (place : ℕ) (r : Range) → proper_range place r ≡ true → AllByRecursion IsName (range_texts r)
range_names place (range.Segments kind lo hi) e = let a = both_true (proper_bound lo) _ e in all_both IsName (bound_texts lo) (bound_texts hi) (bound_names lo a.0) (bound_names hi a.1)
range_names place (range.Sub super) e = tt

index_names_are : (place : ℕ) (ds : List IndexDecl) → list_all proper_index (enumerate_from place ds) ≡ true → AllByRecursion IsName (flat_map index_texts ds)
index_names_are place [] e = tt
index_names_are place (d ∷ ds) e =
    let a = both_true (proper_index (place, d)) (list_all proper_index (enumerate_from (place + 1) ds)) e in
    let b = both_true (is_name d.name) _ a.0 in
    let c = both_true (is_line d.line) _ b.1 in
    subst (λ (x : List (List ℕ)). AllByRecursion IsName x) (sym (flat_map-cons index_texts d ds))
    (all_both IsName (index_texts d) (flat_map index_texts ds) (b.0, range_names place d.range c.1) (index_names_are (place + 1) ds a.1))

array_names_are : (p : Tree) (ds : List ArrayDecl) → list_all (proper_array p) ds ≡ true → AllByRecursion IsName (map (λ (a : ArrayDecl). a.name) ds)
array_names_are p [] e = tt
array_names_are p (d ∷ ds) e = let a = both_true (proper_array p d) _ e in ((both_true (is_name d.name) _ a.0).0, array_names_are p ds a.1)

procedure_names_are : (p : Tree) (qs : List Procedure) → list_all (proper_procedure p) qs ≡ true → AllByRecursion IsName (map (λ (q : Procedure). q.name) qs)
procedure_names_are p [] e = tt
procedure_names_are p (q ∷ qs) e = let a = both_true (proper_procedure p q) _ e in ((both_true (is_name q.name) _ a.0).0, procedure_names_are p qs a.1)

pub names_are : (p : Tree) → IsProper p → AllByRecursion IsName (names p)
names_are p proper =
    all_both IsName (scalar_names p) _
    (all_both IsName (array_names p) p.scalars
    (all_both IsName (index_names p) _ (proper.name, index_names_are 0 p.indices proper.indices) (array_names_are p p.arrays proper.arrays))
    (all_of is_name IsName (λ x e. e) p.scalars proper.scalars))
    (procedure_names_are p p.procedures proper.procedures)

mutual
  form_texts : (p : Tree) (form : Plain) → proper_form p form ≡ true → AllByRecursion IsText (prints form)
  form_texts p (Do index body) e = body_texts p body (both_true _ (proper_body p body) e).1
  form_texts p (DoIn sub index body) e = body_texts p body (both_true _ (proper_body p body) (both_true (has_index p sub) _ e).1).1
  form_texts p (Pardo indices wheres body) e = body_texts p body (both_true _ (proper_body p body) (both_true (list_all (has_index p) indices) _ (both_true (has_length 12 indices) _ e).1).1).1
  form_texts p (If test body) e = body_texts p body (both_true _ (proper_body p body) e).1
  form_texts p (IfElse test body other) e =
      let a = both_true (proper_body p body) (proper_body p other) (both_true _ (proper_body p body && proper_body p other) e).1 in
      all_both IsText (body_prints body) (body_prints other) (body_texts p body a.0) (body_texts p other a.1)
  form_texts p (Call procedure) e = tt
  form_texts p (Assign target combining right) e = tt
  form_texts p (Get block) e = tt
  form_texts p (Request block) e = tt
  form_texts p (Put block how from) e = tt
  form_texts p (Prepare block how from) e = tt
  form_texts p (Create array) e = tt
  form_texts p (Delete array) e = tt
  form_texts p (Allocate array at) e = tt
  form_texts p (Deallocate array at) e = tt
  form_texts p (Collective into from) e = tt
  form_texts p SipBarrier e = tt
  form_texts p ServerBarrier e = tt
  form_texts p (Print text) e = (e, tt)
  form_texts p (PrintScalar scalar) e = tt
  form_texts p (Integrals block) e = tt

  body_texts : (p : Tree) (body : Block) → proper_body p body ≡ true → AllByRecursion IsText (body_prints body)
  body_texts p End e = tt
  body_texts p (Then line form rest) e =
      let a = both_true (proper_form p form) (proper_body p rest) e in
      all_both IsText (prints form) (body_prints rest) (form_texts p form a.0) (body_texts p rest a.1)

procedures_texts : (p : Tree) (qs : List Procedure) → list_all (proper_procedure p) qs ≡ true → AllByRecursion IsText (flat_map (λ (q : Procedure). body_prints q.body) qs)
procedures_texts p [] e = tt
procedures_texts p (q ∷ qs) e =
    let a = both_true (proper_procedure p q) _ e in
    let b = both_true (proper_body p q.body) _ (both_true (is_name q.name) _ a.0).1 in
    subst (λ (x : List (List ℕ)). AllByRecursion IsText x) (sym (flat_map-cons (λ (q : Procedure). body_prints q.body) q qs))
    (all_both IsText (body_prints q.body) _ (body_texts p q.body b.0) (procedures_texts p qs a.1))

pub printed_are : (p : Tree) → IsProper p → AllByRecursion IsText (printed p)
printed_are p proper =
    all_both IsText (body_prints p.body) _ (body_texts p p.body (both_true (proper_body p p.body) _ proper.body).0) (procedures_texts p p.procedures proper.procedures)

-- a number below the names is a name's
pub named_at : (ns ts : List (List ℕ)) (n : ℕ) → AllByRecursion IsName ns → n < length ns → is_name_or_none (slice_get (ns ++ ts) n) ≡ true
named_at [] ts n f small = absurd (omega (arith, small))
named_at (x ∷ xs) ts zero f small = f.0
named_at (x ∷ xs) ts (suc n) f small = named_at xs ts n f.1 (omega (arith, small))

text_or_none : (ts : List (List ℕ)) (n : ℕ) → AllByRecursion IsText ts → is_text_or_none (slice_get ts n) ≡ true
text_or_none [] n f = refl
text_or_none (x ∷ xs) zero f = f.0
text_or_none (x ∷ xs) (suc n) f = text_or_none xs n f.1

-- a number past the names is a printed text's, or none's
pub printed_at : (ns ts : List (List ℕ)) (n : ℕ) → AllByRecursion IsText ts → length ns ≤ n → is_text_or_none (slice_get (ns ++ ts) n) ≡ true
printed_at [] ts n f past = text_or_none ts n f
printed_at (x ∷ xs) ts zero f past = absurd (omega (arith, past))
printed_at (x ∷ xs) ts (suc n) f past = printed_at xs ts n f (omega (arith, past))

pub name_is_short : (t : List ℕ) → IsName t → IsShort t
name_is_short t e =
    let a = both_true (has_name_form t) _ e in
    let b = both_true (begins_with_letter t) _ a.0 in
    let c = both_true _ (nat_le (length t) most_name) b.1 in
    let few : length t ≤ most_name = leb-true _ _ c.1 in
    omega (arith, few)

pub text_is_short : (t : List ℕ) → IsText t → IsShort t
text_is_short t e = leb-true _ _ (both_true _ (nat_le (length t) 1024) e).1

pub all_weaker : {X : Type 0} (P Q : X → Type 0) → ((x : X) → P x → Q x) → (xs : List X) → AllByRecursion P xs → AllByRecursion Q xs
all_weaker P Q step [] f = tt
all_weaker P Q step (x ∷ xs) f = (step x f.0, all_weaker P Q step xs f.1)
