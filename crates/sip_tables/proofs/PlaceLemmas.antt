-- Statements stand in the code at their numbers.
use Rattle.std.proofs.Common.{◌≡◌, ℕ, zero, suc, ◌+◌, ◌<◌, List, [], ◌∷◌, ◌++◌, length, take, sum_by, Some, slice_get, slice_index, refl, ap, sym, subst, ◌∙◌, arith, length-append, append_assoc, append-nil}
use Rattle.std.specs.List.{AllByRecursion}
use Rattle.std.proofs.lemmas.List.{take_at}
use Rattle.std.proofs.lemmas.List.Sums.{sum_by-append, sum_by-cons}
use Rattle.sial_syntax.specs.Numbering.{size, sizes, stop_at, entry_of, procedure_size}
use Rattle.sial_syntax.specs.Tree.{Tree, Procedure, Block, End, Then, Plain, Do, DoIn, Pardo, If, IfElse, Call, Assign, Get, Request, Put, Prepare, Create, Delete, Allocate, Deallocate, Collective, SipBarrier, ServerBarrier, Print, PrintScalar, Integrals}
use Rattle.sip_tables.specs.Code.{instruction, alone, wheres_code, form_code, body_code, procedures_code, entries_from, entries_of}
use Rattle.sip_tables.specs.declared.instruction.Instruction.{Instruction}
use Rattle.sip_tables.specs.declared.instruction.Operation.TheVariants as op
use Rattle.sip_tables.specs.Flatten.{flatten}
use Rattle.sip_tables.specs.Places.{Placed, placed, placed_inside, placed_procedures}
use Rattle.sip_tables.specs.PlaceLaws.{StandsAt, StatementStands, StatementsStand, StopStands, ProceduresStand, EntriesAreNumbers}
use Rattle.sip_tables.specs.Texts.{prints, body_prints, names}
use Rattle.sip_tables.proofs.CodeLemmas.{length-wheres_code, length-form_code, length-body_code}

-- a part of what stands at a place
within : (at n : ℕ) (part whole front middle back : List Instruction) → StandsAt at part whole → part ≡ front ++ (middle ++ back) → n ≡ at + length front → StandsAt n middle whole
within at n part whole front middle back stands parts place = record {
  front = stands.front ++ front;
  back = back ++ stands.back;
  whole_is =
      stands.whole_is
      ∙ ap (λ (x : List Instruction). stands.front ++ (x ++ stands.back)) parts
      ∙ ap (λ (x : List Instruction). stands.front ++ x) (append_assoc front (middle ++ back) stands.back ∙ ap (λ (x : List Instruction). front ++ x) (append_assoc middle back stands.back))
      ∙ sym (append_assoc stands.front front (middle ++ (back ++ stands.back)));
  before = let e = length-append stands.front front in let b = stands.before in omega (arith, e, b, place);
}

-- what holds of two lists' elements holds of both together
all-append : {X : Type 0} (P : X → Type 0) (xs ys : List X) → AllByRecursion P xs → AllByRecursion P ys → AllByRecursion P (xs ++ ys)
all-append P [] ys first second = second
all-append P (x ∷ xs) ys first second = (first.0, all-append P xs ys first.1 second)

-- a statement's code stands at its number
abbrev Stands : List ℕ → List Instruction → Placed → Type 0
Stands entries whole x = (text : ℕ) × StandsAt x.at (form_code entries x.at text x.line x.form) whole

mutual
  stand_body : (entries : List ℕ) (at text : ℕ) (body : Block) (whole : List Instruction) → StandsAt at (body_code entries at text body) whole → AllByRecursion (Stands entries whole) (placed at body)
  stand_body entries at text End whole stands = tt
  stand_body entries at text (Then line form rest) whole stands =
      let first = form_code entries at text line form in
      let others = body_code entries (at + size form) (text + length (prints form)) rest in
      let len = length-form_code entries at text line form in
      let here = within at at (first ++ others) whole [] first others stands refl (omega arith) in
      let behind = within at (at + size form) (first ++ others) whole first others [] stands (ap (λ (x : List Instruction). first ++ x) (sym (append-nil others))) (omega (arith, len)) in
      ((text, here), all-append (Stands entries whole) (placed_inside at form) (placed (at + size form) rest) (stand_inside entries at text line form whole here) (stand_body entries (at + size form) (text + length (prints form)) rest whole behind))

  stand_inside : (entries : List ℕ) (at text line : ℕ) (form : Plain) (whole : List Instruction) → StandsAt at (form_code entries at text line form) whole → AllByRecursion (Stands entries whole) (placed_inside at form)
  stand_inside entries at text line (Do index body) whole stands =
      let head = instruction line (op.Do index (at + size (Do index body))) in
      stand_body entries (at + 1) text body whole (within at (at + 1) (form_code entries at text line (Do index body)) whole (head ∷ []) (body_code entries (at + 1) text body) (alone line (op.EndDo at)) stands refl (omega arith))
  stand_inside entries at text line (DoIn sub index body) whole stands =
      let head = instruction line (op.DoIn sub index (at + size (DoIn sub index body))) in
      stand_body entries (at + 1) text body whole (within at (at + 1) (form_code entries at text line (DoIn sub index body)) whole (head ∷ []) (body_code entries (at + 1) text body) (alone line (op.EndDo at)) stands refl (omega arith))
  stand_inside entries at text line (Pardo indices wheres body) whole stands =
      let head = instruction line (op.Pardo indices (at + (1 + (length wheres + sizes body)))) in
      let len = length-wheres_code line wheres in
      stand_body entries (at + (1 + length wheres)) text body whole (within at (at + (1 + length wheres)) (form_code entries at text line (Pardo indices wheres body)) whole (head ∷ wheres_code line wheres) (body_code entries (at + (1 + length wheres)) text body) (alone line (op.EndPardo at)) stands refl (omega (arith, len)))
  stand_inside entries at text line (If cond body) whole stands =
      let head = instruction line (op.If cond (at + size (If cond body))) in
      stand_body entries (at + 1) text body whole (within at (at + 1) (form_code entries at text line (If cond body)) whole (head ∷ []) (body_code entries (at + 1) text body) (alone line op.EndIf) stands refl (omega arith))
  stand_inside entries at text line (IfElse cond body other) whole stands =
      let head = instruction line (op.If cond (at + (sizes body + 2))) in
      let middle = instruction line (op.Else (at + size (IfElse cond body other))) in
      let first = body_code entries (at + 1) text body in
      let second = body_code entries (at + (sizes body + 2)) (text + length (body_prints body)) other in
      let last = alone line op.EndIf in
      let len = length-body_code entries (at + 1) text body in
      let both = length-append first (middle ∷ []) in
      let here = within at (at + 1) (form_code entries at text line (IfElse cond body other)) whole (head ∷ []) first (middle ∷ (second ++ last)) stands refl (omega arith) in
      let behind = within at (at + (sizes body + 2)) (form_code entries at text line (IfElse cond body other)) whole (head ∷ (first ++ middle ∷ [])) second last stands (ap (λ (x : List Instruction). head ∷ x) (sym (append_assoc first (middle ∷ []) (second ++ last)))) (omega (arith, len, both)) in
      all-append (Stands entries whole) (placed (at + 1) body) (placed (at + (sizes body + 2)) other) (stand_body entries (at + 1) text body whole here) (stand_body entries (at + (sizes body + 2)) (text + length (body_prints body)) other whole behind)
  stand_inside entries at text line (Call procedure) whole stands = tt
  stand_inside entries at text line (Assign target combining right) whole stands = tt
  stand_inside entries at text line (Get block) whole stands = tt
  stand_inside entries at text line (Request block) whole stands = tt
  stand_inside entries at text line (Put block how from) whole stands = tt
  stand_inside entries at text line (Prepare block how from) whole stands = tt
  stand_inside entries at text line (Create array) whole stands = tt
  stand_inside entries at text line (Delete array) whole stands = tt
  stand_inside entries at text line (Allocate array slots) whole stands = tt
  stand_inside entries at text line (Deallocate array slots) whole stands = tt
  stand_inside entries at text line (Collective into from) whole stands = tt
  stand_inside entries at text line SipBarrier whole stands = tt
  stand_inside entries at text line ServerBarrier whole stands = tt
  stand_inside entries at text line (Print printed) whole stands = tt
  stand_inside entries at text line (PrintScalar scalar) whole stands = tt
  stand_inside entries at text line (Integrals block) whole stands = tt

-- a procedure with its return, and what stands behind it
abbrev returned : (entries : List ℕ) → (at text : ℕ) → Procedure → List Instruction
returned entries at text q = body_code entries at text q.body ++ instruction 0 op.Return ∷ []

-- the code of procedures is that of the first, and then that of the others
procedures_split : (entries : List ℕ) (at text : ℕ) (q : Procedure) (qs : List Procedure) → procedures_code entries at text (q ∷ qs) ≡ returned entries at text q ++ procedures_code entries (at + procedure_size q) (text + length (body_prints q.body)) qs
procedures_split entries at text q qs = sym (append_assoc (body_code entries at text q.body) (instruction 0 op.Return ∷ []) (procedures_code entries (at + procedure_size q) (text + length (body_prints q.body)) qs))

length-returned : (entries : List ℕ) (at text : ℕ) (q : Procedure) → length (returned entries at text q) ≡ procedure_size q
length-returned entries at text q =
    let body = length-body_code entries at text q.body in
    let whole = length-append (body_code entries at text q.body) (instruction 0 op.Return ∷ []) in
    omega (arith, body, whole)

-- the first procedure stands where their code begins
first_stands : (entries : List ℕ) (at text : ℕ) (q : Procedure) (qs : List Procedure) (whole : List Instruction) → StandsAt at (procedures_code entries at text (q ∷ qs)) whole → StandsAt at (returned entries at text q) whole
first_stands entries at text q qs whole stands =
    within at at (procedures_code entries at text (q ∷ qs)) whole [] (returned entries at text q) (procedures_code entries (at + procedure_size q) (text + length (body_prints q.body)) qs) stands (procedures_split entries at text q qs) (omega arith)

-- the others stand behind it
others_stand : (entries : List ℕ) (at text : ℕ) (q : Procedure) (qs : List Procedure) (whole : List Instruction) → StandsAt at (procedures_code entries at text (q ∷ qs)) whole → StandsAt (at + procedure_size q) (procedures_code entries (at + procedure_size q) (text + length (body_prints q.body)) qs) whole
others_stand entries at text q qs whole stands =
    let others = procedures_code entries (at + procedure_size q) (text + length (body_prints q.body)) qs in
    let len = length-returned entries at text q in
    within at (at + procedure_size q) (procedures_code entries at text (q ∷ qs)) whole (returned entries at text q) others [] stands (procedures_split entries at text q qs ∙ ap (λ (x : List Instruction). returned entries at text q ++ x) (sym (append-nil others))) (omega (arith, len))

-- a procedure stands behind those before it
procedure_stands : (entries : List ℕ) (at text : ℕ) (qs : List Procedure) (whole : List Instruction) → StandsAt at (procedures_code entries at text qs) whole → (k : ℕ) (q : Procedure) → slice_get qs k ≡ Some q → (t : ℕ) × StandsAt (at + sum_by procedure_size (take k qs)) (returned entries (at + sum_by procedure_size (take k qs)) t q) whole
procedure_stands entries at text [] whole stands k q is = absurd cc
procedure_stands entries at text (x ∷ qs) whole stands zero q is =
    let same : x ≡ q = cc in
    let n : at + 0 ≡ at = omega arith in
    (text, subst (λ (y : Procedure). StandsAt (at + 0) (returned entries (at + 0) text y) whole) same (subst (λ (m : ℕ). StandsAt m (returned entries m text x) whole) (sym n) (first_stands entries at text x qs whole stands)))
procedure_stands entries at text (x ∷ qs) whole stands (suc k) q is =
    let rest = procedure_stands entries (at + procedure_size x) (text + length (body_prints x.body)) qs whole (others_stand entries at text x qs whole stands) k q is in
    let sums = sum_by-cons procedure_size x (take k qs) in
    let n : (at + procedure_size x) + sum_by procedure_size (take k qs) ≡ at + sum_by procedure_size (x ∷ take k qs) = omega (arith, sums) in
    (rest.0, subst (λ (m : ℕ). StandsAt m (returned entries m rest.0 q) whole) n rest.1)

-- the first instruction of a procedure stands behind the procedures before it
slice_index-entries_from : (at : ℕ) (qs : List Procedure) (k : ℕ) → k < length qs → slice_index (entries_from at qs) k ≡ at + sum_by procedure_size (take k qs)
slice_index-entries_from at [] k below = absurd (omega (arith, below))
slice_index-entries_from at (q ∷ qs) zero below = omega arith
slice_index-entries_from at (q ∷ qs) (suc k) below =
    let rest = slice_index-entries_from (at + procedure_size q) qs k (omega (arith, below)) in
    let sums = sum_by-cons procedure_size q (take k qs) in
    let n : (at + procedure_size q) + sum_by procedure_size (take k qs) ≡ at + sum_by procedure_size (q ∷ take k qs) = omega (arith, sums) in
    rest ∙ n

-- a procedure begins behind those before it
entry-behind : (p : Tree) (before qs : List Procedure) (number : ℕ) → p.procedures ≡ before ++ qs → length before ≡ number → entry_of p number ≡ stop_at p + (1 + sum_by procedure_size before)
entry-behind p before qs number parts len =
    ap (λ (x : List Procedure). stop_at p + (1 + sum_by procedure_size (take number x))) parts ∙ ap (λ (x : List Procedure). stop_at p + (1 + sum_by procedure_size x)) (take_at before qs number len)

-- the next procedure begins behind it
entry-next : (p : Tree) (before : List Procedure) (q : Procedure) (qs : List Procedure) (number : ℕ) → p.procedures ≡ before ++ q ∷ qs → length before ≡ number → entry_of p (number + 1) ≡ entry_of p number + procedure_size q
entry-next p before q qs number parts len =
    let here = entry-behind p before (q ∷ qs) number parts len in
    let longer = length-append before (q ∷ []) in
    let there = entry-behind p (before ++ q ∷ []) qs (number + 1) (parts ∙ sym (append_assoc before (q ∷ []) qs)) (omega (arith, longer, len)) in
    let sums = sum_by-append procedure_size before (q ∷ []) in
    omega (arith, here, there, sums)

-- the statements of a program's procedures stand at their numbers
stand_procedures : (p : Tree) (text : ℕ) (before qs : List Procedure) (number : ℕ) (whole : List Instruction) → p.procedures ≡ before ++ qs → length before ≡ number
    → StandsAt (entry_of p number) (procedures_code (entries_of p) (entry_of p number) text qs) whole → AllByRecursion (Stands (entries_of p) whole) (placed_procedures p number qs)
stand_procedures p text before [] number whole parts len stands = tt
stand_procedures p text before (q ∷ qs) number whole parts len stands =
    let at = entry_of p number in
    let first = first_stands (entries_of p) at text q qs whole stands in
    let body = within at at (returned (entries_of p) at text q) whole [] (body_code (entries_of p) at text q.body) (instruction 0 op.Return ∷ []) first refl (omega arith) in
    let others = others_stand (entries_of p) at text q qs whole stands in
    let next = entry-next p before q qs number parts len in
    let moved = subst (λ (m : ℕ). StandsAt m (procedures_code (entries_of p) m (text + length (body_prints q.body)) qs) whole) (sym next) others in
    let longer = length-append before (q ∷ []) in
    all-append (Stands (entries_of p) whole) (placed at q.body) (placed_procedures p (number + 1) qs) (stand_body (entries_of p) at text q.body whole body) (stand_procedures p (text + length (body_prints q.body)) (before ++ q ∷ []) qs (number + 1) whole (parts ∙ sym (append_assoc before (q ∷ []) qs)) (omega (arith, longer, len)) moved)

-- the text of a program's first printed text
abbrev first_text : Tree → ℕ
first_text p = length (names p)

-- what stands behind a program's body
abbrev behind_body : Tree → List Instruction
behind_body p = procedures_code (entries_of p) (sizes p.body + 1) (first_text p + length (body_prints p.body)) p.procedures

whole_stands : (p : Tree) → StandsAt 0 (flatten p).code (flatten p).code
whole_stands p = record { front = []; back = []; whole_is = sym (append-nil (flatten p).code); before = refl }

body_stands : (p : Tree) → StandsAt 0 (body_code (entries_of p) 0 (first_text p) p.body) (flatten p).code
body_stands p = within 0 0 (flatten p).code (flatten p).code [] (body_code (entries_of p) 0 (first_text p) p.body) (instruction 0 op.Stop ∷ behind_body p) (whole_stands p) refl refl

pub stop_stands : StopStands
stop_stands p =
    let len = length-body_code (entries_of p) 0 (first_text p) p.body in
    within 0 (stop_at p) (flatten p).code (flatten p).code (body_code (entries_of p) 0 (first_text p) p.body) (instruction 0 op.Stop ∷ []) (behind_body p) (whole_stands p) refl (omega (arith, len))

procedures_begin : (p : Tree) → StandsAt (sizes p.body + 1) (behind_body p) (flatten p).code
procedures_begin p =
    let body = body_code (entries_of p) 0 (first_text p) p.body in
    let len = length-body_code (entries_of p) 0 (first_text p) p.body in
    let longer = length-append body (instruction 0 op.Stop ∷ []) in
    within 0 (sizes p.body + 1) (flatten p).code (flatten p).code (body ++ instruction 0 op.Stop ∷ []) (behind_body p) [] (whole_stands p)
    (sym (append_assoc body (instruction 0 op.Stop ∷ []) (behind_body p ++ []) ∙ ap (λ (x : List Instruction). body ++ instruction 0 op.Stop ∷ x) (append-nil (behind_body p)))) (omega (arith, len, longer))

entry-zero : (p : Tree) → entry_of p 0 ≡ sizes p.body + 1
entry-zero p = refl

pub statements_stand : StatementsStand
statements_stand p =
    all-append (StatementStands p) (placed 0 p.body) (placed_procedures p 0 p.procedures)
    (stand_body (entries_of p) 0 (first_text p) p.body (flatten p).code (body_stands p))
    (stand_procedures p (first_text p + length (body_prints p.body)) [] p.procedures 0 (flatten p).code refl refl (procedures_begin p))

pub procedures_stand : ProceduresStand
procedures_stand p number q is =
    let found = procedure_stands (entries_of p) (sizes p.body + 1) (first_text p + length (body_prints p.body)) p.procedures (flatten p).code (procedures_begin p) number q is in
    let n : (sizes p.body + 1) + sum_by procedure_size (take number p.procedures) ≡ entry_of p number = omega arith in
    (found.0, subst (λ (m : ℕ). StandsAt m (returned (entries_of p) m found.0 q) (flatten p).code) n found.1)

pub entries_are_numbers : EntriesAreNumbers
entries_are_numbers p number below =
    let found = slice_index-entries_from (sizes p.body + 1) p.procedures number below in
    omega (arith, found)
