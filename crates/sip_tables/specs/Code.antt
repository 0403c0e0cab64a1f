-- The code of statements: what stands for each form, with jumps by the sizes of what lies between.
use Rattle.std.specs.Prelude.{ℕ, ◌+◌, List, [], ◌∷◌, ◌++◌, map, length, slice_index}
use Rattle.sial_syntax.specs.declared.condition.Cond.{Cond}
use Rattle.sial_syntax.specs.Numbering.{size, sizes, procedure_size}
use Rattle.sial_syntax.specs.Tree.{Tree, Procedure, Block, End, Then, Plain, Do, DoIn, Pardo, If, IfElse, Call, Assign, Get, Request, Put, Prepare, Create, Delete, Allocate, Deallocate, Collective, SipBarrier, ServerBarrier, Print, PrintScalar, Integrals}
use Rattle.sip_tables.specs.declared.instruction.Instruction.{Instruction}
use Rattle.sip_tables.specs.declared.instruction.Operation.{Operation}
use Rattle.sip_tables.specs.declared.instruction.Operation.TheVariants as op
use Rattle.sip_tables.specs.Texts.{body_prints, prints}

-- an instruction of a statement on this line
abbrev pub instruction : (line : ℕ) → Operation → Instruction
instruction line operation = record { line = line; operation = operation }

-- the code of a statement that is one instruction
abbrev pub alone : (line : ℕ) → Operation → List Instruction
alone line operation = instruction line operation ∷ []

-- the `where` lines of a pardo
abbrev pub wheres_code : (line : ℕ) → List Cond → List Instruction
wheres_code line wheres = map (λ cond. instruction line (op.Where cond)) wheres

abbrev mutual
  -- the code of a statement whose first instruction has the number `at`, and whose first printed text has the number `text`; `entries` are
  -- the numbers of the procedures' first instructions
  pub form_code : (entries : List ℕ) → (at text line : ℕ) → Plain → List Instruction
  form_code entries at text line (Do index body) =
      instruction line (op.Do index (at + size (Do index body)))
      ∷ (body_code entries (at + 1) text body
      ++ alone line (op.EndDo at))
  form_code entries at text line (DoIn sub index body) =
      instruction line (op.DoIn sub index (at + size (DoIn sub index body)))
      ∷ (body_code entries (at + 1) text body
      ++ alone line (op.EndDo at))
  form_code entries at text line (Pardo indices wheres body) =
      instruction line (op.Pardo indices (at + (1 + (length wheres + sizes body))))
      ∷ (wheres_code line wheres
      ++ (body_code entries (at + (1 + length wheres)) text body
      ++ alone line (op.EndPardo at)))
  form_code entries at text line (If cond body) =
      instruction line (op.If cond (at + size (If cond body)))
      ∷ (body_code entries (at + 1) text body
      ++ alone line op.EndIf)
  form_code entries at text line (IfElse cond body other) =
      instruction line (op.If cond (at + (sizes body + 2)))
      ∷ (body_code entries (at + 1) text body
      ++ (instruction line (op.Else (at + size (IfElse cond body other)))
      ∷ (body_code entries (at + (sizes body + 2)) (text + length (body_prints body)) other
      ++ alone line op.EndIf)))
  form_code entries at text line (Call procedure) = alone line (op.Call procedure (slice_index entries procedure))
  form_code entries at text line (Assign target combining right) = alone line (op.Assign target combining right)
  form_code entries at text line (Get block) = alone line (op.Get block)
  form_code entries at text line (Request block) = alone line (op.Request block)
  form_code entries at text line (Put block how from) = alone line (op.Put block how from)
  form_code entries at text line (Prepare block how from) = alone line (op.Prepare block how from)
  form_code entries at text line (Create array) = alone line (op.Create array)
  form_code entries at text line (Delete array) = alone line (op.Delete array)
  form_code entries at text line (Allocate array slots) = alone line (op.Allocate array slots)
  form_code entries at text line (Deallocate array slots) = alone line (op.Deallocate array slots)
  form_code entries at text line (Collective into from) = alone line (op.Collective into from)
  form_code entries at text line SipBarrier = alone line op.SipBarrier
  form_code entries at text line ServerBarrier = alone line op.ServerBarrier
  form_code entries at text line (Print printed) = alone line (op.Print text)
  form_code entries at text line (PrintScalar scalar) = alone line (op.PrintScalar scalar)
  form_code entries at text line (Integrals block) = alone line (op.Integrals block)

  -- the code of statements, from `at` on
  pub body_code : (entries : List ℕ) → (at text : ℕ) → Block → List Instruction
  body_code entries at text End = []
  body_code entries at text (Then line form rest) =
      form_code entries at text line form ++ body_code entries (at + size form) (text + length (prints form)) rest

-- the code of procedures, from `at` on, each with its return
abbrev pub procedures_code : (entries : List ℕ) → (at text : ℕ) → List Procedure → List Instruction
procedures_code entries at text [] = []
procedures_code entries at text (procedure ∷ rest) =
    body_code entries at text procedure.body
    ++ (instruction 0 op.Return
    ∷ procedures_code entries (at + procedure_size procedure) (text + length (body_prints procedure.body)) rest)

-- the numbers of the first instructions of procedures, the first of which begins at `at`
abbrev pub entries_from : (at : ℕ) → List Procedure → List ℕ
entries_from at [] = []
entries_from at (procedure ∷ rest) = at ∷ entries_from (at + procedure_size procedure) rest

-- those of a program's procedures: the first of them begins behind the program's stop
abbrev pub entries_of : Tree → List ℕ
entries_of p = entries_from (sizes p.body + 1) p.procedures

-- the code of a program whose first printed text has this number: its body, its stop, and its procedures
abbrev pub program_code : Tree → (text : ℕ) → List Instruction
program_code p text =
    body_code (entries_of p) 0 text p.body
    ++ (instruction 0 op.Stop
    ∷ procedures_code (entries_of p) (sizes p.body + 1) (text + length (body_prints p.body)) p.procedures)
