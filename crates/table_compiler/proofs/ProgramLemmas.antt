-- Procedures come behind the body and the stop.
use Rattle.std.proofs.Common.{◌≡◌, ℕ, suc, ◌+◌, ◌<◌, List, [], ◌∷◌, ◌++◌, length, drop, get_or, drop-cons, map, refl, ap, sym, subst, ◌∙◌, arith, length-append, append_assoc, append-nil}
use Rattle.std.proofs.lemmas.List.Concat.{flat_map-cons}
use Rattle.sial_syntax.specs.declared.program.Proc.{Proc}
use Rattle.sial_syntax.specs.Numbering.{sizes, procedure_size}
use Rattle.sial_syntax.specs.Tree.{Tree, Block, Procedure, procedure}
use Rattle.sip_tables.specs.Code.{instruction, body_code, procedures_code, entries_from, entries_of}
use Rattle.sip_tables.specs.Texts.{body_prints}
use Rattle.sip_tables.specs.declared.instruction.Instruction.{Instruction}
use Rattle.sip_tables.specs.declared.instruction.Operation.TheVariants as op
use Rattle.sip_tables.proofs.CodeLemmas.{length-body_code}
use Rattle.table_compiler.specs.declared.flat.Flat.{Flat}
use Rattle.table_compiler.specs.Grown.{Adds, AddsBody, AddsProcedure, AddsProcedures, AddsProgram, body_behind, procedures_behind, procedures_print}
use Rattle.table_compiler.specs.Left.{ProceduresLeadTo}
use Rattle.table_compiler.proofs.GrownLemmas.{Adds-then}

-- each procedure has one first instruction
pub length-entries_from : (at : ℕ) (procedures : List Procedure) → length (entries_from at procedures) ≡ length procedures
length-entries_from at [] = refl
length-entries_from at (q ∷ rest) = ap suc (length-entries_from (at + procedure_size q) rest)

-- a body and its return
pub procedure_adds : (entries : List ℕ) (a b c : Flat) (q : Procedure) → AddsBody entries a b q.body → Adds b c [] (instruction 0 op.Return ∷ []) → AddsProcedure entries a c q
procedure_adds entries a b c q body ret =
    let both = Adds-then a b c (body_prints q.body) [] (body_behind entries a q.body) (instruction 0 op.Return ∷ []) body ret in
    record { texts = both.texts ∙ ap (λ (z : List (List ℕ)). a.texts.items ++ z) (append-nil (body_prints q.body)); code = both.code }

-- one procedure done: the rest leads where all of them lead
procedure_done : (entries : List ℕ) (now next start : Flat) (q : Procedure) (left whole : List Procedure) → ProceduresLeadTo entries now start (q ∷ left) whole → AddsProcedure entries now next q
    → ProceduresLeadTo entries next start left whole
procedure_done entries now next start q left whole leads adds =
    let code = now.code.items in
    let texts = now.texts.items in
    let body = body_code entries (length code) (length texts) q.body in
    let ret = instruction 0 op.Return in
    let split : procedures_print (q ∷ left) ≡ body_prints q.body ++ procedures_print left = flat_map-cons (λ (q : Procedure). body_prints q.body) q left in
    let longer : length next.code.items ≡ length code + procedure_size q =
    let l = ap (λ (x : List Instruction). length x) adds.code in
    let m = length-append code (body ++ ret ∷ []) in
    let n = length-append body (ret ∷ []) in
    let o = length-body_code entries (length code) (length texts) q.body in
    omega (arith, l, m, n, o)
    in
    let more : length next.texts.items ≡ length texts + length (body_prints q.body) =
    ap (λ (x : List (List ℕ)). length x) adds.texts ∙ length-append texts (body_prints q.body) in
    let rest = procedures_code entries (length code + procedure_size q) (length texts + length (body_prints q.body)) left in
    record {
      texts =
          ap (λ (x : List (List ℕ)). x ++ procedures_print left) adds.texts ∙ append_assoc texts (body_prints q.body) (procedures_print left)
          ∙ ap (λ (x : List (List ℕ)). texts ++ x) (sym split) ∙ leads.texts;
      code =
          ap (λ (n : ℕ). next.code.items ++ procedures_code entries n (length next.texts.items) left) longer
          ∙ ap (λ (n : ℕ). next.code.items ++ procedures_code entries (length code + procedure_size q) n left) more
          ∙ ap (λ (x : List Instruction). x ++ rest) adds.code
          ∙ append_assoc code (body ++ ret ∷ []) rest
          ∙ ap (λ (x : List Instruction). code ++ x) (append_assoc body (ret ∷ []) rest)
          ∙ leads.code;
    }

-- the same of a procedure of the code's tree
pub one_more_procedure : (entries : List ℕ) (now next start : Flat) (procedures : List Proc) (i : ℕ) (q : Proc) → i < length procedures → q ≡ get_or procedures i q → AddsProcedure entries now next (procedure q)
    → ProceduresLeadTo entries now start (map procedure (drop i procedures)) (map procedure procedures)
    → ProceduresLeadTo entries next start (map procedure (drop (i + 1) procedures)) (map procedure procedures)
one_more_procedure entries now next start procedures i q before is adds leads =
    let next_place : i + 1 ≡ suc i = omega arith in
    let parts : drop i procedures ≡ q ∷ drop (i + 1) procedures =
    drop-cons procedures i q before ∙ ap (λ (s : Proc). s ∷ drop (suc i) procedures) (sym is) ∙ ap (λ (n : ℕ). q ∷ drop n procedures) (sym next_place) in
    procedure_done entries now next start (procedure q) (map procedure (drop (i + 1) procedures)) (map procedure procedures)
    (subst (λ (qs : List Proc). ProceduresLeadTo entries now start (map procedure qs) (map procedure procedures)) parts leads) adds

-- nothing left: all was added
pub procedures_done : (entries : List ℕ) (now start : Flat) (whole : List Procedure) → ProceduresLeadTo entries now start [] whole → AddsProcedures entries start now whole
procedures_done entries now start whole leads = record {
  texts = sym (append-nil now.texts.items) ∙ leads.texts;
  code = sym (append-nil now.code.items) ∙ leads.code;
}

-- a program's body, its stop and its procedures
program_adds : (p : Tree) (a b c d : Flat) → a.code.items ≡ [] → AddsBody (entries_of p) a b p.body → Adds b c [] (instruction 0 op.Stop ∷ []) → AddsProcedures (entries_of p) c d p.procedures → AddsProgram a d p
program_adds p a b c d empty body stop procedures =
    let entries = entries_of p in
    let code = body_behind entries a p.body in
    let first = Adds-then a b c (body_prints p.body) [] code (instruction 0 op.Stop ∷ []) body stop in
    let last = Adds-then a c d (body_prints p.body ++ []) (procedures_print p.procedures) (code ++ instruction 0 op.Stop ∷ []) (procedures_behind entries c p.procedures) first procedures in
    let none : length a.code.items ≡ 0 = ap (λ (x : List Instruction). length x) empty in
    let place : length c.code.items ≡ sizes p.body + 1 =
    let l = ap (λ (x : List Instruction). length x) first.code in
    let m = length-append a.code.items (code ++ instruction 0 op.Stop ∷ []) in
    let n = length-append code (instruction 0 op.Stop ∷ []) in
    let o = length-body_code entries (length a.code.items) (length a.texts.items) p.body in
    omega (arith, l, m, n, o, none)
    in
    let text : length c.texts.items ≡ length a.texts.items + length (body_prints p.body) =
    let l = ap (λ (x : List (List ℕ)). length x) first.texts in
    let m = length-append a.texts.items (body_prints p.body ++ []) in
    let n = ap (λ (x : List (List ℕ)). length x) (append-nil (body_prints p.body)) in
    omega (arith, l, m, n)
    in
    record {
      texts = last.texts ∙ ap (λ (x : List (List ℕ)). a.texts.items ++ (x ++ procedures_print p.procedures)) (append-nil (body_prints p.body));
      code =
          last.code
          ∙ ap (λ (x : List Instruction). a.code.items ++ x) (append_assoc code (instruction 0 op.Stop ∷ []) (procedures_behind entries c p.procedures))
          ∙ ap (λ (n : ℕ). a.code.items ++ (code ++ instruction 0 op.Stop ∷ procedures_code entries n (length c.texts.items) p.procedures)) place
          ∙ ap (λ (n : ℕ). a.code.items ++ (code ++ instruction 0 op.Stop ∷ procedures_code entries (sizes p.body + 1) n p.procedures)) text
          ∙ ap (λ (n : ℕ). a.code.items ++ (body_code entries n (length a.texts.items) p.body ++ instruction 0 op.Stop ∷ procedures_code entries (sizes p.body + 1) (length a.texts.items + length (body_prints p.body)) p.procedures)) none;
    }

-- the same, of lists that are the program's
pub all_code : (p : Tree) (entries : List ℕ) (body : Block) (procedures : List Procedure) (a b c d : Flat) → entries ≡ entries_of p → body ≡ p.body → procedures ≡ p.procedures → a.code.items ≡ []
    → AddsBody entries a b body → Adds b c [] (instruction 0 op.Stop ∷ []) → AddsProcedures entries c d procedures → AddsProgram a d p
all_code p entries body procedures a b c d known same_body same_procedures empty first stop last =
    program_adds p a b c d empty
    (subst (λ (e : List ℕ). AddsBody e a b p.body) known (subst (λ (x : Block). AddsBody entries a b x) same_body first))
    stop
    (subst (λ (e : List ℕ). AddsProcedures e c d p.procedures) known (subst (λ (x : List Procedure). AddsProcedures entries c d x) same_procedures last))
