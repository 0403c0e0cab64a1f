-- Procedures stand in the code at their entries.
use Rattle.std.proofs.Common.{◌≡◌, ℕ, zero, suc, ◌+◌, ◌<◌, List, [], ◌∷◌, ◌++◌, length, take, sum_by, flat_map, slice_index_or, refl, ap, sym, subst, ◌∙◌, arith, length-append, append_assoc, append-nil}
use Rattle.std.proofs.lemmas.List.Sums.{sum_by-cons}
use Rattle.sial_syntax.specs.Numbering.{sizes, entry_of, procedure_size}
use Rattle.sial_syntax.specs.Tree.{Tree, Procedure}
use Rattle.sial_syntax.proofs.CallLemmas.{no_procedure}
use Rattle.sial_syntax.proofs.DepthLemmas.{procedure_there}
use Rattle.sip_tables.specs.Code.{instruction, body_code, procedures_code, entries_of}
use Rattle.sip_tables.specs.declared.instruction.Instruction.{Instruction}
use Rattle.sip_tables.specs.declared.instruction.Operation.TheVariants as op
use Rattle.sip_tables.specs.Flatten.{flatten}
use Rattle.sip_tables.specs.Texts.{body_prints, names}
use Rattle.sip_tables.proofs.CodeLemmas.{length-body_code}
use Rattle.code_places.proofs.Pieces.{first_part, second_part, get_first}
use Rattle.code_places.specs.Standing.{PartAt}
use Rattle.code_places.specs.StepLaws.{ProceduresFollow}

-- what a procedure prints
abbrev pub shown : Procedure → List (List ℕ)
shown q = body_prints q.body

-- a procedure with its return
abbrev pub returned : (entries : List ℕ) → (at text : ℕ) → Procedure → List Instruction
returned entries at text q = body_code entries at text q.body ++ instruction 0 op.Return ∷ []

length-returned : (entries : List ℕ) (at text : ℕ) (q : Procedure) → length (returned entries at text q) ≡ procedure_size q
length-returned entries at text q =
    let body = length-body_code entries at text q.body in
    let whole = length-append (body_code entries at text q.body) (instruction 0 op.Return ∷ []) in
    omega (arith, body, whole)

-- a procedure stands in some code, and what it prints among some texts
record Found (entries : List ℕ) (at : ℕ) (q : Procedure) (code : List Instruction) (texts : List (List ℕ)) : Type 0 where
  text : ℕ
  code_at : PartAt at (returned entries at text q) code
  texts_at : PartAt text (shown q) texts

-- the code of procedures is that of the first, and then that of the others
split : (entries : List ℕ) (at text : ℕ) (q : Procedure) (qs : List Procedure) → procedures_code entries at text (q ∷ qs) ≡ returned entries at text q ++ procedures_code entries (at + procedure_size q) (text + length (shown q)) qs
split entries at text q qs = sym (append_assoc (body_code entries at text q.body) (instruction 0 op.Return ∷ []) (procedures_code entries (at + procedure_size q) (text + length (shown q)) qs))

-- each procedure stands behind those before it
found : (entries : List ℕ) (at text : ℕ) (qs : List Procedure) (code : List Instruction) (texts : List (List ℕ)) → PartAt at (procedures_code entries at text qs) code → PartAt text (flat_map shown qs) texts
    → (k : ℕ) → k < length qs → Found entries (at + sum_by procedure_size (take k qs)) (slice_index_or qs k no_procedure) code texts
found entries at text [] code texts stands show k below = absurd (omega (arith, below))
found entries at text (q ∷ qs) code texts stands show zero below =
    let others = procedures_code entries (at + procedure_size q) (text + length (shown q)) qs in
    let n : at ≡ at + 0 = omega arith in
    let whole = subst (λ (x : List Instruction). PartAt at x code) (split entries at text q qs) stands in
    subst (λ (m : ℕ). Found entries m q code texts) n
    (record {
      text = text;
      code_at = first_part at (returned entries at text q) others code whole;
      texts_at = first_part text (shown q) (flat_map shown qs) texts show;
    })
found entries at text (q ∷ qs) code texts stands show (suc k) below =
    let others = procedures_code entries (at + procedure_size q) (text + length (shown q)) qs in
    let len = length-returned entries at text q in
    let whole = subst (λ (x : List Instruction). PartAt at x code) (split entries at text q qs) stands in
    let rest = found entries (at + procedure_size q) (text + length (shown q)) qs code texts
    (second_part at (at + procedure_size q) (returned entries at text q) others code whole (omega (arith, len)))
    (second_part text (text + length (shown q)) (shown q) (flat_map shown qs) texts show refl)
    k (omega (arith, below)) in
    let sums = sum_by-cons procedure_size q (take k qs) in
    let n : (at + procedure_size q) + sum_by procedure_size (take k qs) ≡ at + sum_by procedure_size (q ∷ take k qs) = omega (arith, sums) in
    subst (λ (m : ℕ). Found entries m (slice_index_or qs k no_procedure) code texts) n rest

-- the code of a program's procedures stands behind its stop
code_begins : (p : Tree) → PartAt (sizes p.body + 1) (procedures_code (entries_of p) (sizes p.body + 1) (length (names p) + length (body_prints p.body)) p.procedures) (flatten p).code
code_begins p =
    let body = body_code (entries_of p) 0 (length (names p)) p.body in
    let behind = procedures_code (entries_of p) (sizes p.body + 1) (length (names p) + length (body_prints p.body)) p.procedures in
    let len = length-body_code (entries_of p) 0 (length (names p)) p.body in
    let longer = length-append body (instruction 0 op.Stop ∷ []) in
    record {
      front = body ++ instruction 0 op.Stop ∷ [];
      back = [];
      whole_is = sym (append_assoc body (instruction 0 op.Stop ∷ []) (behind ++ []) ∙ ap (λ (x : List Instruction). body ++ instruction 0 op.Stop ∷ x) (append-nil behind));
      before = omega (arith, len, longer);
    }

-- what they print stands behind what its body prints
texts_begin : (p : Tree) → PartAt (length (names p) + length (body_prints p.body)) (flat_map shown p.procedures) (flatten p).texts
texts_begin p =
    let behind = flat_map shown p.procedures in
    record {
      front = names p ++ body_prints p.body;
      back = [];
      whole_is = sym (append_assoc (names p) (body_prints p.body) (behind ++ []) ∙ ap (λ (x : List (List ℕ)). names p ++ (body_prints p.body ++ x)) (append-nil behind));
      before = length-append (names p) (body_prints p.body);
    }

pub procedures_follow : ProceduresFollow
procedures_follow g procedure proper below =
    let p = g.program in
    let q = slice_index_or p.procedures procedure no_procedure in
    let n : (sizes p.body + 1) + sum_by procedure_size (take procedure p.procedures) ≡ entry_of p procedure = omega arith in
    let s : Found (entries_of p) (entry_of p procedure) q (flatten p).code (flatten p).texts = subst (λ (m : ℕ). Found (entries_of p) m q (flatten p).code (flatten p).texts) n (found (entries_of p) (sizes p.body + 1) (length (names p) + length (body_prints p.body)) p.procedures (flatten p).code (flatten p).texts (code_begins p) (texts_begin p) procedure below) in
    let at = entry_of p procedure in
    let body = body_code (entries_of p) at s.text q.body in
    let len = length-body_code (entries_of p) at s.text q.body in
    record {
      body = record {
        proper = procedure_there p p.procedures procedure proper.procedures;
        text = s.text;
        code = first_part at body (instruction 0 op.Return ∷ []) (flatten p).code s.code_at;
        texts = s.texts_at;
      };
      ends = get_first (at + sizes q.body) (instruction 0 op.Return) [] (flatten p).code (second_part at (at + sizes q.body) body (instruction 0 op.Return ∷ []) (flatten p).code s.code_at (omega (arith, len)));
    }
