-- Bodies are found again in their code and in the texts that they print.
use Rattle.std.proofs.Common.{◌≡◌, ℕ, zero, suc, ◌+◌, ◌<◌, ◌≤◌, List, [], ◌∷◌, ◌++◌, length, drop, map, refl, sym, ap, subst, ◌∙◌, arith, append_assoc}
use Rattle.std.specs.List.{flat_map}
use Rattle.std.proofs.lemmas.List.Concat.{flat_map-cons}
use Rattle.sial_syntax.specs.Numbering.{size, sizes, procedure_size}
use Rattle.sial_syntax.specs.Tree.{Procedure, Block, End, Then, Plain, Do, DoIn, Pardo, If, IfElse, Call, Assign, Get, Request, Put, Prepare, Create, Delete, Allocate, Deallocate, Collective, SipBarrier, ServerBarrier, Print, PrintScalar, Integrals}
use Rattle.sip_tables.specs.Code.{instruction, wheres_code, form_code, body_code, procedures_code}
use Rattle.sip_tables.specs.declared.instruction.Instruction.{Instruction}
use Rattle.sip_tables.specs.declared.instruction.Operation.TheVariants as op
use Rattle.sip_tables.specs.Texts.{prints, body_prints}
use Rattle.sip_tables.proofs.Rebuilding.{Left, Again, with_rest, after_branch, if_from, pardo_from, statement_from, statements_from, rebuilt, Ends, ends_found, BeginsOther, tests_found, body_begins}

-- bodies of less than so many instructions are found again
abbrev pub Finds : ℕ → Again → Type 0
Finds n again = (entries : List ℕ) (at text : ℕ) (body : Block) (code : List Instruction) (texts : List (List ℕ)) → sizes body < n → Ends code
    → again (body_code entries at text body ++ code) (body_prints body ++ texts) ≡ (body, (code, texts))

-- a body with one instruction behind it
closed_found : (n : ℕ) (again : Again) → Finds n again → (entries : List ℕ) (at text : ℕ) (body : Block) (last : Instruction) (code : List Instruction) (texts : List (List ℕ)) → sizes body < n → Ends (last ∷ [])
    → again ((body_code entries at text body ++ last ∷ []) ++ code) (body_prints body ++ texts) ≡ (body, (last ∷ code, texts))
closed_found n again finds entries at text body last code texts small is =
    ap (λ (c : List Instruction). again c (body_prints body ++ texts)) (append_assoc (body_code entries at text body) (last ∷ []) code) ∙ finds entries at text body (last ∷ code) texts small is

-- a statement, and those behind it
form_found : (n : ℕ) (again : Again) → Finds n again → (entries : List ℕ) (at text line : ℕ) (form : Plain) (code : List Instruction) (texts : List (List ℕ)) (rest : Block) (left : Left) → size form ≤ n
    → again code texts ≡ (rest, left) → statements_from again (form_code entries at text line form ++ code) (prints form ++ texts) ≡ (Then line form rest, left)
unfolding statements_from statement_from with_rest if_from after_branch pardo_from
form_found n again finds entries at text line (Do index body) code texts rest left small h =
    let inner = closed_found n again finds entries (at + 1) text body (instruction line (op.EndDo at)) code texts (omega (arith, small)) tt in
    rw (inner, h) refl
form_found n again finds entries at text line (DoIn sub index body) code texts rest left small h =
    let inner = closed_found n again finds entries (at + 1) text body (instruction line (op.EndDo at)) code texts (omega (arith, small)) tt in
    rw (inner, h) refl
form_found n again finds entries at text line (Pardo indices wheres body) code texts rest left small h =
    let bc = body_code entries (at + (1 + length wheres)) text body in
    let last = instruction line (op.EndPardo at) in
    let behind = (bc ++ last ∷ []) ++ code in
    let other : BeginsOther behind = subst (λ (c : List Instruction). BeginsOther c) (sym (append_assoc bc (last ∷ []) code)) (body_begins entries (at + (1 + length wheres)) text body (last ∷ code) tt) in
    let split = append_assoc (wheres_code line wheres) (bc ++ last ∷ []) code in
    let tests = tests_found line wheres behind other in
    let inner = closed_found n again finds entries (at + (1 + length wheres)) text body last code texts (omega (arith, small)) tt in
    rw (split, tests, inner, h) refl
form_found n again finds entries at text line (If cond body) code texts rest left small h =
    let inner = closed_found n again finds entries (at + 1) text body (instruction line op.EndIf) code texts (omega (arith, small)) tt in
    rw (inner, h) refl
form_found n again finds entries at text line (IfElse cond body other) code texts rest left small h =
    let bc = body_code entries (at + 1) text body in
    let oc = body_code entries (at + (sizes body + 2)) (text + length (body_prints body)) other in
    let els = instruction line (op.Else (at + size (IfElse cond body other))) in
    let last = instruction line op.EndIf in
    let split = append_assoc bc (els ∷ (oc ++ last ∷ [])) code in
    let printed = append_assoc (body_prints body) (body_prints other) texts in
    let first = finds entries (at + 1) text body (els ∷ ((oc ++ last ∷ []) ++ code)) (body_prints other ++ texts) (omega (arith, small)) tt in
    let second = closed_found n again finds entries (at + (sizes body + 2)) (text + length (body_prints body)) other last code texts (omega (arith, small)) tt in
    rw (split, printed, first, second, h) refl
form_found n again finds entries at text line (Call procedure) code texts rest left small h = rw h refl
form_found n again finds entries at text line (Assign target combining right) code texts rest left small h = rw h refl
form_found n again finds entries at text line (Get block) code texts rest left small h = rw h refl
form_found n again finds entries at text line (Put block how from) code texts rest left small h = rw h refl
form_found n again finds entries at text line (Request block) code texts rest left small h = rw h refl
form_found n again finds entries at text line (Prepare block how from) code texts rest left small h = rw h refl
form_found n again finds entries at text line (Create array) code texts rest left small h = rw h refl
form_found n again finds entries at text line (Delete array) code texts rest left small h = rw h refl
form_found n again finds entries at text line (Allocate array slots) code texts rest left small h = rw h refl
form_found n again finds entries at text line (Deallocate array slots) code texts rest left small h = rw h refl
form_found n again finds entries at text line (Collective into from) code texts rest left small h = rw h refl
form_found n again finds entries at text line SipBarrier code texts rest left small h = rw h refl
form_found n again finds entries at text line ServerBarrier code texts rest left small h = rw h refl
form_found n again finds entries at text line (PrintScalar scalar) code texts rest left small h = rw h refl
form_found n again finds entries at text line (Integrals block) code texts rest left small h = rw h refl
form_found n again finds entries at text line (Print printed) code texts rest left small h = rw h refl

-- a statement takes an instruction
size_some : (form : Plain) → 1 ≤ size form
size_some (Do index body) = omega arith
size_some (DoIn sub index body) = omega arith
size_some (Pardo indices wheres body) = omega arith
size_some (If cond body) = omega arith
size_some (IfElse cond body other) = omega arith
size_some (Call procedure) = omega arith
size_some (Assign target combining right) = omega arith
size_some (Get block) = omega arith
size_some (Put block how from) = omega arith
size_some (Request block) = omega arith
size_some (Prepare block how from) = omega arith
size_some (Create array) = omega arith
size_some (Delete array) = omega arith
size_some (Allocate array slots) = omega arith
size_some (Deallocate array slots) = omega arith
size_some (Collective into from) = omega arith
size_some SipBarrier = omega arith
size_some ServerBarrier = omega arith
size_some (PrintScalar scalar) = omega arith
size_some (Integrals block) = omega arith
size_some (Print printed) = omega arith

pub body_found : (n : ℕ) (entries : List ℕ) (at text : ℕ) (body : Block) (code : List Instruction) (texts : List (List ℕ)) → sizes body < n → Ends code
    → rebuilt n (body_code entries at text body ++ code) (body_prints body ++ texts) ≡ (body, (code, texts))
unfolding rebuilt
body_found zero entries at text body code texts small is = absurd (omega (arith, small))
body_found (suc n) entries at text End code texts small is = ends_found (rebuilt n) code texts is
body_found (suc n) entries at text (Then line form rest) code texts small is =
    let some = size_some form in
    let fc = form_code entries at text line form in
    let rc = body_code entries (at + size form) (text + length (prints form)) rest in
    let h = body_found n entries (at + size form) (text + length (prints form)) rest code texts (omega (arith, small, some)) is in
    let split = append_assoc fc rc code in
    let printed = append_assoc (prints form) (body_prints rest) texts in
    rw (split, printed) (form_found n (rebuilt n) (body_found n) entries at text line form (rc ++ code) (body_prints rest ++ texts) rest (code, texts) (omega (arith, small)) h)

-- ---- procedures

-- so many bodies from the front of code, each with one instruction behind it
pub bodies_from : Again → (count : ℕ) → List Instruction → List (List ℕ) → List Block
bodies_from again zero code texts = []
bodies_from again (suc k) code texts = (again code texts).0 ∷ bodies_from again k (drop 1 (again code texts).1.0) (again code texts).1.1

-- the instructions of all bodies
abbrev pub all_sizes : List Procedure → ℕ
all_sizes [] = 0
all_sizes (q ∷ qs) = sizes q.body + all_sizes qs

pub bodies_found : (n : ℕ) (again : Again) → Finds n again → (entries : List ℕ) (at text : ℕ) (qs : List Procedure) (texts : List (List ℕ)) → all_sizes qs < n
    → bodies_from again (length qs) (procedures_code entries at text qs) (flat_map (λ (q : Procedure). body_prints q.body) qs ++ texts) ≡ map (λ (q : Procedure). q.body) qs
unfolding bodies_from
bodies_found n again finds entries at text [] texts small = refl
bodies_found n again finds entries at text (q ∷ qs) texts small =
    let f = λ (q : Procedure). body_prints q.body in
    let split : flat_map f (q ∷ qs) ++ texts ≡ body_prints q.body ++ (flat_map f qs ++ texts) =
    ap (λ (x : List (List ℕ)). x ++ texts) (flat_map-cons f q qs) ∙ append_assoc (body_prints q.body) (flat_map f qs) texts in
    let rc = procedures_code entries (at + procedure_size q) (text + length (body_prints q.body)) qs in
    let first = finds entries at text q.body (instruction 0 op.Return ∷ rc) (flat_map f qs ++ texts) (omega (arith, small)) tt in
    let rest = bodies_found n again finds entries (at + procedure_size q) (text + length (body_prints q.body)) qs texts (omega (arith, small)) in
    rw (split, first, rest) refl
