-- The code of a statement has as many instructions as its size says.
use Rattle.std.proofs.Common.{◌≡◌, ℕ, ◌+◌, List, [], ◌∷◌, ◌++◌, length, refl, arith, length-append}
use Rattle.std.proofs.lemmas.List.{length-map}
use Rattle.sial_syntax.specs.declared.condition.Cond.{Cond}
use Rattle.sial_syntax.specs.Numbering.{size, sizes}
use Rattle.sial_syntax.specs.Tree.{Block, End, Then, Plain, Do, DoIn, Pardo, If, IfElse, Call, Assign, Get, Request, Put, Prepare, Create, Delete, Allocate, Deallocate, Collective, SipBarrier, ServerBarrier, Print, PrintScalar, Integrals}
use Rattle.sip_tables.specs.declared.instruction.Instruction.{Instruction}
use Rattle.sip_tables.specs.declared.instruction.Operation.TheVariants as op
use Rattle.sip_tables.specs.Code.{instruction, alone, wheres_code, form_code, body_code}
use Rattle.sip_tables.specs.Texts.{prints, body_prints}

-- one more instruction at each end
between : (x : Instruction) (xs : List Instruction) (y : Instruction) → length (x ∷ (xs ++ y ∷ [])) ≡ length xs + 2
between x xs y = let e = length-append xs (y ∷ []) in omega (arith, e)

pub length-wheres_code : (line : ℕ) (wheres : List Cond) → length (wheres_code line wheres) ≡ length wheres
length-wheres_code line wheres = length-map wheres (λ cond. instruction line (op.Where cond))

mutual
  pub length-form_code : (entries : List ℕ) (at text line : ℕ) (form : Plain) → length (form_code entries at text line form) ≡ size form
  length-form_code entries at text line (Do index body) =
      let inner = length-body_code entries (at + 1) text body in
      let whole = between (instruction line (op.Do index (at + size (Do index body)))) (body_code entries (at + 1) text body) (instruction line (op.EndDo at)) in
      omega (arith, inner, whole)
  length-form_code entries at text line (DoIn sub index body) =
      let inner = length-body_code entries (at + 1) text body in
      let whole = between (instruction line (op.DoIn sub index (at + size (DoIn sub index body)))) (body_code entries (at + 1) text body) (instruction line (op.EndDo at)) in
      omega (arith, inner, whole)
  length-form_code entries at text line (Pardo indices wheres body) =
      let tests = length-wheres_code line wheres in
      let inner = length-body_code entries (at + (1 + length wheres)) text body in
      let front = length-append (wheres_code line wheres) (body_code entries (at + (1 + length wheres)) text body ++ alone line (op.EndPardo at)) in
      let back = length-append (body_code entries (at + (1 + length wheres)) text body) (alone line (op.EndPardo at)) in
      omega (arith, tests, inner, front, back)
  length-form_code entries at text line (If cond body) =
      let inner = length-body_code entries (at + 1) text body in
      let whole = between (instruction line (op.If cond (at + size (If cond body)))) (body_code entries (at + 1) text body) (instruction line op.EndIf) in
      omega (arith, inner, whole)
  length-form_code entries at text line (IfElse cond body other) =
      let first = length-body_code entries (at + 1) text body in
      let second = length-body_code entries (at + (sizes body + 2)) (text + length (body_prints body)) other in
      let rest = body_code entries (at + (sizes body + 2)) (text + length (body_prints body)) other ++ alone line op.EndIf in
      let front = length-append (body_code entries (at + 1) text body) (instruction line (op.Else (at + size (IfElse cond body other))) ∷ rest) in
      let back = length-append (body_code entries (at + (sizes body + 2)) (text + length (body_prints body)) other) (alone line op.EndIf) in
      omega (arith, first, second, front, back)
  length-form_code entries at text line (Call procedure) = refl
  length-form_code entries at text line (Assign target combining right) = refl
  length-form_code entries at text line (Get block) = refl
  length-form_code entries at text line (Request block) = refl
  length-form_code entries at text line (Put block how from) = refl
  length-form_code entries at text line (Prepare block how from) = refl
  length-form_code entries at text line (Create array) = refl
  length-form_code entries at text line (Delete array) = refl
  length-form_code entries at text line (Allocate array slots) = refl
  length-form_code entries at text line (Deallocate array slots) = refl
  length-form_code entries at text line (Collective into from) = refl
  length-form_code entries at text line SipBarrier = refl
  length-form_code entries at text line ServerBarrier = refl
  length-form_code entries at text line (Print printed) = refl
  length-form_code entries at text line (PrintScalar scalar) = refl
  length-form_code entries at text line (Integrals block) = refl

  pub length-body_code : (entries : List ℕ) (at text : ℕ) (body : Block) → length (body_code entries at text body) ≡ sizes body
  length-body_code entries at text End = refl
  length-body_code entries at text (Then line form rest) =
      let first = length-form_code entries at text line form in
      let others = length-body_code entries (at + size form) (text + length (prints form)) rest in
      let both = length-append (form_code entries at text line form) (body_code entries (at + size form) (text + length (prints form)) rest) in
      omega (arith, first, others, both)
