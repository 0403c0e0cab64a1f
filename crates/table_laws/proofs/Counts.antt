-- How many texts and statements a program has, in its tree and in its code.
use Rattle.std.proofs.Common.{◌≡◌, ℕ, ◌+◌, ◌*◌, ◌≤◌, cond, List, [], ◌∷◌, ◌++◌, length, map, refl, ap, ◌∙◌, arith, length-append}
use Rattle.std.specs.Prelude.{sum_by, count_by}
use Rattle.std.specs.List.{flat_map}
use Rattle.std.proofs.lemmas.List.{length-map}
use Rattle.std.proofs.lemmas.List.Concat.{flat_map-cons}
use Rattle.std.proofs.lemmas.List.Sums.{sum_by-cons, sum_by-append}
use Rattle.sial_syntax.specs.declared.array.ArrayDecl.{ArrayDecl}
use Rattle.sial_syntax.specs.declared.index.Bound.{Bound}
use Rattle.sial_syntax.specs.declared.index.Bound.TheVariants as bound
use Rattle.sial_syntax.specs.declared.index.IndexDecl.{IndexDecl}
use Rattle.sial_syntax.specs.declared.index.Range.{Range}
use Rattle.sial_syntax.specs.declared.index.Range.TheVariants as range
use Rattle.sial_syntax.specs.Numbering.{size, sizes, procedure_size, statements, statements_in}
use Rattle.sial_syntax.specs.Proper.{IsProper, all_statements}
use Rattle.sial_syntax.specs.Tree.{Tree, Procedure, Block, End, Then, Plain, Do, DoIn, Pardo, If, IfElse, Call, Assign, Get, Request, Put, Prepare, Create, Delete, Allocate, Deallocate, Collective, SipBarrier, ServerBarrier, Print, PrintScalar, Integrals}
use Rattle.sip_tables.specs.Code.{instruction, wheres_code, form_code, body_code, procedures_code, entries_of}
use Rattle.sip_tables.specs.declared.instruction.Instruction.{Instruction}
use Rattle.sip_tables.specs.declared.instruction.Operation.TheVariants as op
use Rattle.sip_tables.specs.Flatten.{flatten}
use Rattle.sip_tables.specs.Texts.{bound_texts, range_texts, index_texts, prints, body_prints, index_names, array_names, scalar_names, names, printed, texts}
use Rattle.table_file.specs.Fits.{is_statement}
use Rattle.sial_syntax.specs.declared.condition.Cond.{Cond}

-- ---- printed texts

mutual
  form_prints : (form : Plain) → length (prints form) ≤ statements_in form
  form_prints (Do index body) = let a = body_printed body in omega (arith, a)
  form_prints (DoIn sub index body) = let a = body_printed body in omega (arith, a)
  form_prints (Pardo indices wheres body) = let a = body_printed body in omega (arith, a)
  form_prints (If test body) = let a = body_printed body in omega (arith, a)
  form_prints (IfElse test body other) =
      let a = body_printed body in let b = body_printed other in let l = length-append (body_prints body) (body_prints other) in omega (arith, a, b, l)
  form_prints (Call procedure) = omega arith
  form_prints (Assign target combining right) = omega arith
  form_prints (Get block) = omega arith
  form_prints (Request block) = omega arith
  form_prints (Put block how from) = omega arith
  form_prints (Prepare block how from) = omega arith
  form_prints (Create array) = omega arith
  form_prints (Delete array) = omega arith
  form_prints (Allocate array slots) = omega arith
  form_prints (Deallocate array slots) = omega arith
  form_prints (Collective into from) = omega arith
  form_prints SipBarrier = omega arith
  form_prints ServerBarrier = omega arith
  form_prints (Print text) = omega arith
  form_prints (PrintScalar scalar) = omega arith
  form_prints (Integrals block) = omega arith

  body_printed : (body : Block) → length (body_prints body) ≤ statements body
  body_printed End = omega arith
  body_printed (Then line form rest) =
      let a = form_prints form in let b = body_printed rest in let l = length-append (prints form) (body_prints rest) in omega (arith, a, b, l)

procedures_printed : (qs : List Procedure) → length (flat_map (λ (q : Procedure). body_prints q.body) qs) ≤ sum_by (λ (q : Procedure). statements q.body) qs
procedures_printed [] = omega arith
procedures_printed (q ∷ qs) =
    let f = λ (q : Procedure). body_prints q.body in
    let l = ap (λ (x : List (List ℕ)). length x) (flat_map-cons f q qs) ∙ length-append (body_prints q.body) (flat_map f qs) in
    let s = sum_by-cons (λ (q : Procedure). statements q.body) q qs in
    let a = body_printed q.body in
    let b = procedures_printed qs in
    omega (arith, l, s, a, b)

pub printed_few : (p : Tree) → IsProper p → length (printed p) ≤ 65535
printed_few p proper =
    let l = length-append (body_prints p.body) (flat_map (λ (q : Procedure). body_prints q.body) p.procedures) in
    let a = body_printed p.body in
    let b = procedures_printed p.procedures in
    omega (arith, l, a, b, proper.few_statements)

-- ---- names

bound_few : (b : Bound) → length (bound_texts b) ≤ 1
bound_few (bound.Number n) = omega arith
bound_few (bound.Named name) = omega arith

range_few : (r : Range) → length (range_texts r) ≤ 2
range_few (range.Segments kind lo hi) = let a = bound_few lo in let b = bound_few hi in let l = length-append (bound_texts lo) (bound_texts hi) in omega (arith, a, b, l)
range_few (range.Sub super) = omega arith

indices_few : (ds : List IndexDecl) → length (flat_map index_texts ds) ≤ 3 * length ds
indices_few [] = omega arith
indices_few (d ∷ ds) =
    let l = ap (λ (x : List (List ℕ)). length x) (flat_map-cons index_texts d ds) ∙ length-append (index_texts d) (flat_map index_texts ds) in
    let a = range_few d.range in
    let b = indices_few ds in
    omega (arith, l, a, b)

-- how long the parts of the names are
pub record Lengths (p : Tree) : Type 0 where
  pub indices : length (index_names p) ≡ 1 + length (flat_map index_texts p.indices)
  pub arrays : length (array_names p) ≡ length (index_names p) + length p.arrays
  pub scalars : length (scalar_names p) ≡ length (array_names p) + length p.scalars
  pub procedures : length (names p) ≡ length (scalar_names p) + length p.procedures
  pub all : length (texts p) ≡ length (names p) + length (printed p)

pub lengths : (p : Tree) → Lengths p
lengths p = record {
  indices = omega arith;
  arrays = length-append (index_names p) (map (λ (a : ArrayDecl). a.name) p.arrays) ∙ ap (λ (n : ℕ). length (index_names p) + n) (length-map p.arrays (λ (a : ArrayDecl). a.name));
  scalars = length-append (array_names p) p.scalars;
  procedures = length-append (scalar_names p) (map (λ (q : Procedure). q.name) p.procedures) ∙ ap (λ (n : ℕ). length (scalar_names p) + n) (length-map p.procedures (λ (q : Procedure). q.name));
  all = length-append (names p) (printed p);
}

pub names_few : (p : Tree) → IsProper p → length (names p) ≤ 1537
names_few p proper =
    let l = lengths p in
    let a = indices_few p.indices in
    omega (arith, l.indices, l.arrays, l.scalars, l.procedures, a, proper.few_indices, proper.few_arrays, proper.few_scalars, proper.few_procedures)

-- ---- statements of code

abbrev pub begun : List Instruction → ℕ
begun xs = count_by (λ (i : Instruction). is_statement i.operation) xs

abbrev bit : Instruction → ℕ
bit i = cond (is_statement i.operation) 1 0

begun-cons : (i : Instruction) (xs : List Instruction) → begun (i ∷ xs) ≡ bit i + begun xs
begun-cons i xs = sum_by-cons bit i xs

begun-append : (xs ys : List Instruction) → begun (xs ++ ys) ≡ begun xs + begun ys
begun-append xs ys = sum_by-append bit xs ys

begun-wheres : (line : ℕ) (ws : List Cond) → begun (wheres_code line ws) ≡ 0
begun-wheres line [] = refl
begun-wheres line (w ∷ ws) =
    let a = begun-cons (instruction line (op.Where w)) (wheres_code line ws) in
    let b = begun-wheres line ws in
    let none : bit (instruction line (op.Where w)) ≡ 0 = refl in
    omega (arith, a, b, none)

-- a first instruction, some code, and a last one that begins nothing
begun-around : (first last : Instruction) (xs : List Instruction) → bit first ≡ 1 → bit last ≡ 0 → begun (first ∷ (xs ++ last ∷ [])) ≡ 1 + begun xs
begun-around first last xs one none =
    let a = begun-cons first (xs ++ last ∷ []) in
    let b = begun-append xs (last ∷ []) in
    let c = begun-cons last [] in
    let d : begun [] ≡ 0 = refl in
    omega (arith, a, b, c, d, one, none)

mutual
  form_begun : (entries : List ℕ) (at text line : ℕ) (form : Plain) → begun (form_code entries at text line form) ≡ statements_in form
  form_begun entries at text line (Do index body) =
      let a = body_begun entries (at + 1) text body in
      let b = begun-around (instruction line (op.Do index (at + size (Do index body)))) (instruction line (op.EndDo at)) (body_code entries (at + 1) text body) refl refl in
      b ∙ ap (λ (n : ℕ). 1 + n) a
  form_begun entries at text line (DoIn sub index body) =
      let a = body_begun entries (at + 1) text body in
      let b = begun-around (instruction line (op.DoIn sub index (at + size (DoIn sub index body)))) (instruction line (op.EndDo at)) (body_code entries (at + 1) text body) refl refl in
      b ∙ ap (λ (n : ℕ). 1 + n) a
  form_begun entries at text line (Pardo indices wheres body) =
      let bc = body_code entries (at + (1 + length wheres)) text body in
      let last = instruction line (op.EndPardo at) in
      let a = body_begun entries (at + (1 + length wheres)) text body in
      let first = begun-cons (instruction line (op.Pardo indices (at + (1 + (length wheres + sizes body))))) (wheres_code line wheres ++ (bc ++ last ∷ [])) in
      let b = begun-append (wheres_code line wheres) (bc ++ last ∷ []) in
      let c = begun-append bc (last ∷ []) in
      let d = begun-wheres line wheres in
      let e : begun (last ∷ []) ≡ 0 = begun-cons last [] in
      let one : bit (instruction line (op.Pardo indices (at + (1 + (length wheres + sizes body))))) ≡ 1 = refl in
      omega (arith, a, first, b, c, d, e, one)
  form_begun entries at text line (If test body) =
      let a = body_begun entries (at + 1) text body in
      let b = begun-around (instruction line (op.If test (at + size (If test body)))) (instruction line op.EndIf) (body_code entries (at + 1) text body) refl refl in
      b ∙ ap (λ (n : ℕ). 1 + n) a
  form_begun entries at text line (IfElse test body other) =
      let bc = body_code entries (at + 1) text body in
      let oc = body_code entries (at + (sizes body + 2)) (text + length (body_prints body)) other in
      let first = instruction line (op.If test (at + (sizes body + 2))) in
      let els = instruction line (op.Else (at + size (IfElse test body other))) in
      let last = instruction line op.EndIf in
      let a = body_begun entries (at + 1) text body in
      let b = body_begun entries (at + (sizes body + 2)) (text + length (body_prints body)) other in
      let c = begun-cons first (bc ++ (els ∷ (oc ++ last ∷ []))) in
      let d = begun-append bc (els ∷ (oc ++ last ∷ [])) in
      let e = begun-cons els (oc ++ last ∷ []) in
      let f = begun-append oc (last ∷ []) in
      let g : begun (last ∷ []) ≡ 0 = begun-cons last [] in
      let one : bit first ≡ 1 = refl in
      let none : bit els ≡ 0 = refl in
      omega (arith, a, b, c, d, e, f, g, one, none)
  form_begun entries at text line (Call procedure) = refl
  form_begun entries at text line (Assign target combining right) = refl
  form_begun entries at text line (Get block) = refl
  form_begun entries at text line (Request block) = refl
  form_begun entries at text line (Put block how from) = refl
  form_begun entries at text line (Prepare block how from) = refl
  form_begun entries at text line (Create array) = refl
  form_begun entries at text line (Delete array) = refl
  form_begun entries at text line (Allocate array slots) = refl
  form_begun entries at text line (Deallocate array slots) = refl
  form_begun entries at text line (Collective into from) = refl
  form_begun entries at text line SipBarrier = refl
  form_begun entries at text line ServerBarrier = refl
  form_begun entries at text line (Print t) = refl
  form_begun entries at text line (PrintScalar scalar) = refl
  form_begun entries at text line (Integrals block) = refl

  body_begun : (entries : List ℕ) (at text : ℕ) (body : Block) → begun (body_code entries at text body) ≡ statements body
  body_begun entries at text End = refl
  body_begun entries at text (Then line form rest) =
      let a = form_begun entries at text line form in
      let b = body_begun entries (at + size form) (text + length (prints form)) rest in
      let c = begun-append (form_code entries at text line form) (body_code entries (at + size form) (text + length (prints form)) rest) in
      omega (arith, a, b, c)

procedures_begun : (entries : List ℕ) (at text : ℕ) (qs : List Procedure) → begun (procedures_code entries at text qs) ≡ sum_by (λ (q : Procedure). statements q.body) qs
procedures_begun entries at text [] = refl
procedures_begun entries at text (q ∷ qs) =
    let bc = body_code entries at text q.body in
    let rest = procedures_code entries (at + procedure_size q) (text + length (body_prints q.body)) qs in
    let ret = instruction 0 op.Return in
    let a = body_begun entries at text q.body in
    let b = procedures_begun entries (at + procedure_size q) (text + length (body_prints q.body)) qs in
    let c = begun-append bc (ret ∷ rest) in
    let d = begun-cons ret rest in
    let none : bit ret ≡ 0 = refl in
    let s = sum_by-cons (λ (q : Procedure). statements q.body) q qs in
    omega (arith, a, b, c, d, none, s)

pub code_begun : (p : Tree) → begun (flatten p).code ≡ all_statements p
code_begun p =
    let bc = body_code (entries_of p) 0 (length (names p)) p.body in
    let rest = procedures_code (entries_of p) (sizes p.body + 1) (length (names p) + length (body_prints p.body)) p.procedures in
    let stop = instruction 0 op.Stop in
    let a = body_begun (entries_of p) 0 (length (names p)) p.body in
    let b = procedures_begun (entries_of p) (sizes p.body + 1) (length (names p) + length (body_prints p.body)) p.procedures in
    let c = begun-append bc (stop ∷ rest) in
    let d = begun-cons stop rest in
    let none : bit stop ≡ 0 = refl in
    omega (arith, a, b, c, d, none)
