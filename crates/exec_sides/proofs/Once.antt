-- No instruction of a granted program names an index twice: the code is that of its statements.
use Rattle.std.proofs.Common.{◌≡◌, ℕ, zero, suc, ◌+◌, List, [], ◌∷◌, ◌++◌, filter, length, Bool, true, false, Some, refl, ap, sym, ◌∙◌}
use Rattle.std.specs.Prelude.{flat_map, slice_get}
use Rattle.sial_syntax.specs.declared.condition.Cond.{Cond}
use Rattle.sial_syntax.specs.Numbering.{procedure_size, size, sizes}
use Rattle.sial_syntax.specs.Shapes.{breaks_repeated}
use Rattle.sial_syntax.specs.Tree.{Tree, Procedure, Block, End, Then, Plain, Do, DoIn, Pardo, If, IfElse, Call, Assign, Get, Request, Put, Prepare, Create, Delete, Allocate, Deallocate, Collective, SipBarrier, ServerBarrier, Print, PrintScalar, Integrals}
use Rattle.sial_syntax.specs.Visits.{Visit, visits, inner_visits, body_visits, all_visits}
use Rattle.sip_tables.specs.declared.instruction.Instruction.{Instruction}
use Rattle.sip_tables.specs.declared.instruction.Operation.TheVariants as op
use Rattle.sip_tables.specs.Code.{alone, body_code, entries_of, form_code, instruction, procedures_code, program_code, wheres_code}
use Rattle.sip_tables.specs.Flatten.{flatten}
use Rattle.sip_tables.specs.Texts.{body_prints, names, prints}
use Rattle.sial_meaning.proofs.Granted.Shapes.{shapes-hold}
use Rattle.sial_meaning.proofs.StepsReachTheFold.Rules.{kept_none}
use Rattle.exec_sides.specs.Once.{InstructionsNameOnce, names_twice, operation_names_twice}

-- none of these statements names an index twice
abbrev VisitsOnce : List Visit → Type 0
VisitsOnce [] = Unit {0}
VisitsOnce (v ∷ vs) = (names_twice v.form ≡ false) × VisitsOnce vs

visits-once : (p : Tree) (vs : List Visit) → filter (breaks_repeated p) vs ≡ [] → VisitsOnce vs
visits-once p [] none = tt
visits-once p (v ∷ vs) none = let parts = kept_none (breaks_repeated p v) v (filter (breaks_repeated p) vs) none in (parts.0, visits-once p vs parts.1)

once-split : (xs ys : List Visit) → VisitsOnce (xs ++ ys) → VisitsOnce xs × VisitsOnce ys
once-split [] ys all = (tt, all)
once-split (x ∷ xs) ys all = let rest = once-split xs ys all.1 in ((all.0, rest.0), rest.1)

-- none of these instructions does
abbrev CodeOnce : List Instruction → Type 0
CodeOnce [] = Unit {0}
CodeOnce (i ∷ is) = (operation_names_twice i.operation ≡ false) × CodeOnce is

code-join : (xs ys : List Instruction) → CodeOnce xs → CodeOnce ys → CodeOnce (xs ++ ys)
code-join [] ys first second = second
code-join (x ∷ xs) ys first second = (first.0, code-join xs ys first.1 second)

wheres-once : (line : ℕ) (wheres : List Cond) → CodeOnce (wheres_code line wheres)
wheres-once line [] = tt
wheres-once line (w ∷ ws) = (refl, wheres-once line ws)

mutual
  body-once : (entries : List ℕ) (at text : ℕ) (bound : List ℕ) (within : Bool) (body : Block) → VisitsOnce (visits bound within body) → CodeOnce (body_code entries at text body)
  body-once entries at text bound within End once = tt
  body-once entries at text bound within (Then line form rest) once =
      let parts = once-split (inner_visits bound within form) (visits bound within rest) once.1 in
      code-join (form_code entries at text line form) (body_code entries (at + size form) (text + length (prints form)) rest)
      (form-once entries at text line bound within form once.0 parts.0) (body-once entries (at + size form) (text + length (prints form)) bound within rest parts.1)

  form-once : (entries : List ℕ) (at text line : ℕ) (bound : List ℕ) (within : Bool) (form : Plain) → names_twice form ≡ false → VisitsOnce (inner_visits bound within form) → CodeOnce (form_code entries at text line form)
  form-once entries at text line bound within (Do index body) once inner =
      (refl, code-join (body_code entries (at + 1) text body) (alone line (op.EndDo at)) (body-once entries (at + 1) text (index ∷ bound) within body inner) (refl, tt))
  form-once entries at text line bound within (DoIn sub index body) once inner =
      (refl, code-join (body_code entries (at + 1) text body) (alone line (op.EndDo at)) (body-once entries (at + 1) text (sub ∷ bound) within body inner) (refl, tt))
  form-once entries at text line bound within (Pardo indices wheres body) once inner =
      let first = at + (1 + length wheres) in (
        refl,
        code-join (wheres_code line wheres) (body_code entries first text body ++ alone line (op.EndPardo at)) (wheres-once line wheres)
            (code-join (body_code entries first text body) (alone line (op.EndPardo at)) (body-once entries first text (indices ++ bound) true body inner) (refl, tt)),
      )
  form-once entries at text line bound within (If test body) once inner =
      (refl, code-join (body_code entries (at + 1) text body) (alone line op.EndIf) (body-once entries (at + 1) text bound within body inner) (refl, tt))
  form-once entries at text line bound within (IfElse test body other) once inner =
      let parts = once-split (visits bound within body) (visits bound within other) inner in
      let next = at + (sizes body + 2) in
      let words = text + length (body_prints body) in (
        refl,
        code-join (body_code entries (at + 1) text body) (instruction line (op.Else (at + size (IfElse test body other))) ∷ (body_code entries next words other ++ alone line op.EndIf)) (body-once entries (at + 1) text bound within body parts.0)
            (refl, code-join (body_code entries next words other) (alone line op.EndIf) (body-once entries next words bound within other parts.1) (refl, tt)),
      )
  form-once entries at text line bound within (Call procedure) once inner = (refl, tt)
  form-once entries at text line bound within (Assign target combining right) once inner = (once, tt)
  form-once entries at text line bound within (Get block) once inner = (once, tt)
  form-once entries at text line bound within (Request block) once inner = (once, tt)
  form-once entries at text line bound within (Put block how from) once inner = (once, tt)
  form-once entries at text line bound within (Prepare block how from) once inner = (once, tt)
  form-once entries at text line bound within (Create array) once inner = (refl, tt)
  form-once entries at text line bound within (Delete array) once inner = (refl, tt)
  form-once entries at text line bound within (Allocate array slots) once inner = (once, tt)
  form-once entries at text line bound within (Deallocate array slots) once inner = (once, tt)
  form-once entries at text line bound within (Collective into from) once inner = (refl, tt)
  form-once entries at text line bound within SipBarrier once inner = (refl, tt)
  form-once entries at text line bound within ServerBarrier once inner = (refl, tt)
  form-once entries at text line bound within (Print printed) once inner = (refl, tt)
  form-once entries at text line bound within (PrintScalar scalar) once inner = (refl, tt)
  form-once entries at text line bound within (Integrals block) once inner = (once, tt)

-- the code of procedures
procedures-once : (entries : List ℕ) (at text : ℕ) (procedures : List Procedure) → VisitsOnce (flat_map (λ (q : Procedure). body_visits q.body) procedures) → CodeOnce (procedures_code entries at text procedures)
procedures-once entries at text [] once = tt
procedures-once entries at text (q ∷ qs) once =
    let parts = once-split (body_visits q.body) (flat_map (λ (r : Procedure). body_visits r.body) qs) once in
    let next = at + procedure_size q in
    let words = text + length (body_prints q.body) in
    code-join (body_code entries at text q.body) (instruction 0 op.Return ∷ procedures_code entries next words qs) (body-once entries at text [] false q.body parts.0)
    (refl, procedures-once entries next words qs parts.1)

-- the code of a program
program-once : (p : Tree) (text : ℕ) → VisitsOnce (all_visits p) → CodeOnce (program_code p text)
program-once p text once =
    let parts = once-split (body_visits p.body) (flat_map (λ (q : Procedure). body_visits q.body) p.procedures) once in
    let behind = procedures_code (entries_of p) (sizes p.body + 1) (text + length (body_prints p.body)) p.procedures in
    code-join (body_code (entries_of p) 0 text p.body) (instruction 0 op.Stop ∷ behind) (body-once (entries_of p) 0 text [] false p.body parts.0)
    (refl, procedures-once (entries_of p) (sizes p.body + 1) (text + length (body_prints p.body)) p.procedures parts.1)

-- one of them
code-at : (code : List Instruction) (at : ℕ) (i : Instruction) → CodeOnce code → slice_get code at ≡ Some i → operation_names_twice i.operation ≡ false
code-at [] at i once is = absurd cc
code-at (j ∷ js) zero i once is = let same : j ≡ i = cc in ap (λ (k : Instruction). operation_names_twice k.operation) (sym same) ∙ once.0
code-at (j ∷ js) (suc at) i once is = code-at js at i once.1 is

pub instructions_once : InstructionsNameOnce
instructions_once p at i granted is = code-at (flatten p).code at i (program-once p (length (names p)) (visits-once p (all_visits p) (shapes-hold p granted).repeated)) is
