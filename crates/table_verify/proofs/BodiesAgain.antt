-- Bodies are read again from their code and their texts.
use Rattle.std.proofs.Common.{◌≡◌, ℕ, zero, suc, ◌+◌, ◌≤◌, max, List, [], ◌∷◌, ◌++◌, Bool, true, false, cond, length, slice_index, Some, refl, sym, ap, ◌∙◌, arith, append_assoc, append-nil, length-append}
use Rattle.sial_syntax.specs.declared.condition.Cond.{Cond}
use Rattle.sial_syntax.specs.Numbering.{size, sizes}
use Rattle.sial_syntax.specs.Proper.{nesting, body_nesting}
use Rattle.sial_syntax.specs.Tree.{Block, End, Then, Plain, block_of, Do, DoIn, Pardo, If, IfElse, Call, Assign, Get, Request, Put, Prepare, Create, Delete, Allocate, Deallocate, Collective, SipBarrier, ServerBarrier, Print, PrintScalar, Integrals}
use Rattle.sip_tables.specs.Code.{instruction, form_code, body_code}
use Rattle.sip_tables.specs.Texts.{prints, body_prints}
use Rattle.sip_tables.specs.declared.instruction.Instruction.{Instruction}
use Rattle.sip_tables.specs.declared.instruction.Operation.{Operation}
use Rattle.sip_tables.specs.declared.instruction.Operation.TheVariants as op
use Rattle.table_verify.specs.Rest.{Read, ◌>>=◌}
use Rattle.table_verify.specs.Closings.{begin}
use Rattle.table_verify.specs.Statements.{Inner, second, branch, form, statement, turns, inner, body}
use Rattle.table_verify.proofs.StatementsAgain.{state, Again, closed_again, end_if_again, second_by, branch_by, call_by, print_by, statement_by, begins_form, do_again, do_in_again, pardo_again}

-- ---- statements

module _ (entries : List ℕ) (most depth : ℕ) (inner : Inner) (again : Again entries most depth inner) where
  if_again : (at text line : ℕ) (test : Cond) (b : Block) (code : List Instruction) (texts : List (List ℕ)) → 1 + body_nesting b ≤ depth → sizes b + 2 ≤ most
      → branch inner line test (at + (sizes b + 2)) (state (at + 1) text ((body_code entries (at + 1) text b ++ instruction line op.EndIf ∷ []) ++ code) (body_prints b ++ texts)) ≡ Some (If test b, state (at + (sizes b + 2)) (text + length (body_prints b)) code texts)
  if_again at text line test b code texts deep small =
      let place : at + 1 + sizes b + 1 ≡ at + (sizes b + 2) = omega arith in
      branch_by inner line test (at + (sizes b + 2)) _ b _ op.EndIf (state (at + 1 + sizes b + 1) (text + length (body_prints b)) code texts)
      (closed_again entries most depth inner again (at + 1) text b (instruction line op.EndIf) code texts (omega (arith, deep)) (omega (arith, small)) refl) refl (sym place)
      ∙ ap (λ (n : ℕ). Some (If test b, state n (text + length (body_prints b)) code texts)) place

  other_again : (at text line : ℕ) (test : Cond) (b o : Block) (code : List Instruction) (texts : List (List ℕ)) → 1 + max (body_nesting b) (body_nesting o) ≤ depth → sizes b + (sizes o + 3) ≤ most
      → second inner line test b (at + (sizes b + (sizes o + 3)))
      (state (at + (sizes b + 2)) (text + length (body_prints b)) ((body_code entries (at + (sizes b + 2)) (text + length (body_prints b)) o ++ instruction line op.EndIf ∷ []) ++ code) (body_prints o ++ texts))
      ≡ Some (IfElse test b o, state (at + (sizes b + (sizes o + 3))) (text + length (body_prints b ++ body_prints o)) code texts)
  other_again at text line test b o code texts deep small =
      let place : at + (sizes b + 2) + sizes o + 1 ≡ at + (sizes b + (sizes o + 3)) = omega arith in
      let l = length-append (body_prints b) (body_prints o) in
      let number : text + length (body_prints b) + length (body_prints o) ≡ text + length (body_prints b ++ body_prints o) = omega (arith, l) in
      second_by inner line test b (at + (sizes b + (sizes o + 3))) _ o _ _
      (closed_again entries most depth inner again (at + (sizes b + 2)) (text + length (body_prints b)) o (instruction line op.EndIf) code texts (omega (arith, deep)) (omega (arith, small)) refl)
      (end_if_again line (at + (sizes b + 2) + sizes o) (text + length (body_prints b) + length (body_prints o)) code texts) (sym place)
      ∙ ap (λ (n : ℕ). Some (IfElse test b o, state n (text + length (body_prints b) + length (body_prints o)) code texts)) place
      ∙ ap (λ (n : ℕ). Some (IfElse test b o, state (at + (sizes b + (sizes o + 3))) n code texts)) number

  else_again : (at text line : ℕ) (test : Cond) (b o : Block) (code : List Instruction) (texts : List (List ℕ)) → 1 + max (body_nesting b) (body_nesting o) ≤ depth → sizes b + (sizes o + 3) ≤ most
      → branch inner line test (at + (sizes b + 2))
      (state (at + 1) text
      ((body_code entries (at + 1) text b ++ (instruction line (op.Else (at + (sizes b + (sizes o + 3)))) ∷ (body_code entries (at + (sizes b + 2)) (text + length (body_prints b)) o ++ instruction line op.EndIf ∷ []))) ++ code)
      ((body_prints b ++ body_prints o) ++ texts))
      ≡ Some (IfElse test b o, state (at + (sizes b + (sizes o + 3))) (text + length (body_prints b ++ body_prints o)) code texts)
  else_again at text line test b o code texts deep small =
      let bc = body_code entries (at + 1) text b in
      let oc = body_code entries (at + (sizes b + 2)) (text + length (body_prints b)) o in
      let past = at + (sizes b + (sizes o + 3)) in
      let els = instruction line (op.Else past) in
      let behind = (oc ++ instruction line op.EndIf ∷ []) ++ code in
      let place : at + 1 + sizes b + 1 ≡ at + (sizes b + 2) = omega arith in
      let first : inner (state (at + 1) text ((bc ++ (els ∷ (oc ++ instruction line op.EndIf ∷ []))) ++ code) ((body_prints b ++ body_prints o) ++ texts))
      ≡ Some (b, state (at + 1 + sizes b) (text + length (body_prints b)) (els ∷ behind) (body_prints o ++ texts)) =
      ap (λ (c : List Instruction). inner (state (at + 1) text c ((body_prints b ++ body_prints o) ++ texts))) (append_assoc bc (els ∷ (oc ++ instruction line op.EndIf ∷ [])) code)
      ∙ ap (λ (u : List (List ℕ)). inner (state (at + 1) text (bc ++ (els ∷ behind)) u)) (append_assoc (body_prints b) (body_prints o) texts)
      ∙ again (at + 1) text b (els ∷ behind) (body_prints o ++ texts) (omega (arith, deep)) (omega (arith, small)) refl in
      branch_by inner line test (at + (sizes b + 2)) _ b _ (op.Else past) (state (at + 1 + sizes b + 1) (text + length (body_prints b)) behind (body_prints o ++ texts)) first refl (sym place)
      ∙ ap (λ (n : ℕ). second inner line test b past (state n (text + length (body_prints b)) behind (body_prints o ++ texts))) place
      ∙ other_again at text line test b o code texts deep small

  lone : (at text line : ℕ) (o : Operation) (f : Plain) (code : List Instruction) (texts : List (List ℕ)) → form entries most inner at line o (state (at + 1) text code texts) ≡ Some (f, state (at + 1) text code texts)
      → statement entries most inner (state at text (instruction line o ∷ code) texts) ≡ Some ((line, f), state (at + 1) (text + 0) code texts)
  lone at text line o f code texts e =
      let k : text ≡ text + 0 = omega arith in
      statement_by entries most inner at text line o code texts f (state (at + 1) text code texts) e ∙ ap (λ (n : ℕ). Some ((line, f), state (at + 1) n code texts)) k

  statement_again : (at text line : ℕ) (f : Plain) (code : List Instruction) (texts : List (List ℕ)) → nesting f ≤ depth → size f ≤ most
      → statement entries most inner (state at text (form_code entries at text line f ++ code) (prints f ++ texts)) ≡ Some ((line, f), state (at + size f) (text + length (prints f)) code texts)
  statement_again at text line (Do index b) code texts deep small = statement_by entries most inner at text line _ _ _ (Do index b) _ (do_again entries most depth inner again at text line index b code texts deep small)
  statement_again at text line (DoIn sub index b) code texts deep small = statement_by entries most inner at text line _ _ _ (DoIn sub index b) _ (do_in_again entries most depth inner again at text line sub index b code texts deep small)
  statement_again at text line (Pardo indices ws b) code texts deep small = statement_by entries most inner at text line _ _ _ (Pardo indices ws b) _ (pardo_again entries most depth inner again at text line indices ws b code texts deep small)
  statement_again at text line (If test b) code texts deep small = statement_by entries most inner at text line _ _ _ (If test b) _ (if_again at text line test b code texts deep small)
  statement_again at text line (IfElse test b o) code texts deep small = statement_by entries most inner at text line _ _ _ (IfElse test b o) _ (else_again at text line test b o code texts deep small)
  statement_again at text line (Call procedure) code texts deep small = lone at text line (op.Call procedure (slice_index entries procedure)) (Call procedure) code texts (call_by entries procedure (state (at + 1) text code texts))
  statement_again at text line (Print t) code texts deep small = statement_by entries most inner at text line (op.Print text) code (t ∷ texts) (Print t) _ (print_by (at + 1) text t code texts)
  statement_again at text line (Assign target combining right) code texts deep small = lone at text line (op.Assign target combining right) (Assign target combining right) code texts refl
  statement_again at text line (Get block) code texts deep small = lone at text line (op.Get block) (Get block) code texts refl
  statement_again at text line (Request block) code texts deep small = lone at text line (op.Request block) (Request block) code texts refl
  statement_again at text line (Put block how from) code texts deep small = lone at text line (op.Put block how from) (Put block how from) code texts refl
  statement_again at text line (Prepare block how from) code texts deep small = lone at text line (op.Prepare block how from) (Prepare block how from) code texts refl
  statement_again at text line (Create array) code texts deep small = lone at text line (op.Create array) (Create array) code texts refl
  statement_again at text line (Delete array) code texts deep small = lone at text line (op.Delete array) (Delete array) code texts refl
  statement_again at text line (Allocate array slots) code texts deep small = lone at text line (op.Allocate array slots) (Allocate array slots) code texts refl
  statement_again at text line (Deallocate array slots) code texts deep small = lone at text line (op.Deallocate array slots) (Deallocate array slots) code texts refl
  statement_again at text line (Collective into from) code texts deep small = lone at text line (op.Collective into from) (Collective into from) code texts refl
  statement_again at text line SipBarrier code texts deep small = lone at text line op.SipBarrier SipBarrier code texts refl
  statement_again at text line ServerBarrier code texts deep small = lone at text line op.ServerBarrier ServerBarrier code texts refl
  statement_again at text line (PrintScalar scalar) code texts deep small = lone at text line (op.PrintScalar scalar) (PrintScalar scalar) code texts refl
  statement_again at text line (Integrals block) code texts deep small = lone at text line (op.Integrals block) (Integrals block) code texts refl

-- ---- bodies

-- the statements of a body in a list
list_of : Block → List (ℕ × Plain)
list_of End = []
list_of (Then line f rest) = (line, f) ∷ list_of rest

block_of_list : (b : Block) → block_of (list_of b) ≡ b
unfolding list_of
block_of_list End = refl
block_of_list (Then line f rest) = ap (Then line f) (block_of_list rest)

pub size_some : (f : Plain) → 1 ≤ size f
size_some (Do index b) = omega arith
size_some (DoIn sub index b) = omega arith
size_some (Pardo indices ws b) = omega arith
size_some (If test b) = omega arith
size_some (IfElse test b o) = omega arith
size_some _ = omega arith

nothing_more : (at text : ℕ) (front : List (ℕ × Plain)) (code : List Instruction) (texts : List (List ℕ)) → ◌≡◌ {A = Read Block} (Some (block_of front, state at text code texts)) (Some (block_of (front ++ []), state (at + 0) (text + 0) code texts))
nothing_more at text front code texts =
    let a : at ≡ at + 0 = omega arith in
    let t : text ≡ text + 0 = omega arith in
    ap (λ (x : List (ℕ × Plain)). Some (block_of x, state at text code texts)) (sym (append-nil front))
    ∙ ap (λ (n : ℕ). Some (block_of (front ++ []), state n text code texts)) a ∙ ap (λ (n : ℕ). Some (block_of (front ++ []), state (at + 0) n code texts)) t

turns_again : (entries : List ℕ) (most depth : ℕ) (inner : Inner) → Again entries most depth inner → (n : ℕ) (front : List (ℕ × Plain)) (at text : ℕ) (b : Block) (code : List Instruction) (texts : List (List ℕ)) → body_nesting b ≤ depth → sizes b ≤ most
    → sizes b ≤ n → begin code ≡ false → turns entries most inner n front (state at text (body_code entries at text b ++ code) (body_prints b ++ texts)) ≡ Some (block_of (front ++ list_of b), state (at + sizes b) (text + length (body_prints b)) code texts)
unfolding turns list_of
turns_again entries most depth inner again zero front at text End code texts deep small few ends = nothing_more at text front code texts
turns_again entries most depth inner again (suc n) front at text End code texts deep small few ends =
    ap (λ (x : Bool). cond x (statement entries most inner (state at text code texts) >>= λ y. turns entries most inner n (front ++ y.0 ∷ []) y.1) (Some (block_of front, state at text code texts))) ends ∙ nothing_more at text front code texts
turns_again entries most depth inner again zero front at text (Then line f rest) code texts deep small few ends = let some = size_some f in absurd (omega (arith, few, some))
turns_again entries most depth inner again (suc n) front at text (Then line f rest) code texts deep small few ends =
    let some = size_some f in
    let fc = form_code entries at text line f in
    let rc = body_code entries (at + size f) (text + length (prints f)) rest in
    let whole = state at text ((fc ++ rc) ++ code) ((prints f ++ body_prints rest) ++ texts) in
    let split : whole ≡ state at text (fc ++ (rc ++ code)) (prints f ++ (body_prints rest ++ texts)) =
    ap (λ (c : List Instruction). state at text c ((prints f ++ body_prints rest) ++ texts)) (append_assoc fc rc code) ∙ ap (λ (u : List (List ℕ)). state at text (fc ++ (rc ++ code)) u) (append_assoc (prints f) (body_prints rest) texts) in
    let first : statement entries most inner whole ≡ Some ((line, f), state (at + size f) (text + length (prints f)) (rc ++ code) (body_prints rest ++ texts)) =
    ap (statement entries most inner) split ∙ statement_again entries most depth inner again at text line f (rc ++ code) (body_prints rest ++ texts) (omega (arith, deep)) (omega (arith, small)) in
    let starts : begin ((fc ++ rc) ++ code) ≡ true = ap begin (append_assoc fc rc code) ∙ begins_form entries at text line f (rc ++ code) in
    let after = turns_again entries most depth inner again n (front ++ (line, f) ∷ []) (at + size f) (text + length (prints f)) rest code texts (omega (arith, deep)) (omega (arith, small)) (omega (arith, few, some)) ends in
    let place : at + size f + sizes rest ≡ at + (size f + sizes rest) = omega arith in
    let l = length-append (prints f) (body_prints rest) in
    let number : text + length (prints f) + length (body_prints rest) ≡ text + length (prints f ++ body_prints rest) = omega (arith, l) in
    ap (λ (x : Bool). cond x (statement entries most inner whole >>= λ y. turns entries most inner n (front ++ y.0 ∷ []) y.1) (Some (block_of front, whole))) starts
    ∙ ap (λ (r : Read (ℕ × Plain)). r >>= λ y. turns entries most inner n (front ++ y.0 ∷ []) y.1) first
    ∙ after
    ∙ ap (λ (x : List (ℕ × Plain)). Some (block_of x, state (at + size f + sizes rest) (text + length (prints f) + length (body_prints rest)) code texts)) (append_assoc front ((line, f) ∷ []) (list_of rest))
    ∙ ap (λ (m : ℕ). Some (block_of (front ++ ((line, f) ∷ list_of rest)), state m (text + length (prints f) + length (body_prints rest)) code texts)) place
    ∙ ap (λ (m : ℕ). Some (block_of (front ++ ((line, f) ∷ list_of rest)), state (at + (size f + sizes rest)) m code texts)) number

body_by : (entries : List ℕ) (most depth : ℕ) (inner : Inner) → Again entries most depth inner → (at text : ℕ) (b : Block) (code : List Instruction) (texts : List (List ℕ)) → body_nesting b ≤ depth → sizes b ≤ most → begin code ≡ false
    → turns entries most inner most [] (state at text (body_code entries at text b ++ code) (body_prints b ++ texts)) ≡ Some (b, state (at + sizes b) (text + length (body_prints b)) code texts)
body_by entries most depth inner again at text b code texts deep small ends =
    turns_again entries most depth inner again most [] at text b code texts deep small small ends ∙ ap (λ (x : Block). Some (x, state (at + sizes b) (text + length (body_prints b)) code texts)) (block_of_list b)

inner_again : (entries : List ℕ) (most depth : ℕ) → Again entries most depth (inner entries most depth)
inner_again entries most zero at text b code texts deep small ends = absurd (omega (arith, deep))
inner_again entries most (suc depth) at text b code texts deep small ends = body_by entries most depth (inner entries most depth) (inner_again entries most depth) at text b code texts (omega (arith, deep)) small ends

-- a body in which no more nests than so much is read again
pub body_again : (entries : List ℕ) (most depth at text : ℕ) (b : Block) (code : List Instruction) (texts : List (List ℕ)) → body_nesting b ≤ depth → sizes b ≤ most → begin code ≡ false
    → body entries most depth (state at text (body_code entries at text b ++ code) (body_prints b ++ texts)) ≡ Some (b, state (at + sizes b) (text + length (body_prints b)) code texts)
body_again entries most depth at text b code texts deep small ends = body_by entries most depth (inner entries most depth) (inner_again entries most depth) at text b code texts deep small ends
