-- The outline of a program's code, by its tree.
use Rattle.std.proofs.Common.{◌≡◌, ℕ, ◌+◌, List, [], ◌∷◌, ◌++◌, length, refl, ap, ◌∙◌}
use Rattle.std.proofs.lemmas.List.{map-append}
use Rattle.sial_syntax.specs.declared.condition.Cond.{Cond}
use Rattle.sial_syntax.specs.Numbering.{size, sizes, procedure_size}
use Rattle.sial_syntax.specs.Tree.{Tree, Procedure, Block, End, Then, Plain, Do, DoIn, Pardo, If, IfElse}
use Rattle.sip_tables.specs.Code.{instruction, wheres_code, form_code, body_code, procedures_code, entries_of}
use Rattle.sip_tables.specs.declared.instruction.Instruction.{Instruction}
use Rattle.sip_tables.specs.declared.instruction.Operation.TheVariants as op
use Rattle.sip_tables.specs.Flatten.{flatten}
use Rattle.sip_tables.specs.Texts.{names, prints, body_prints}
use Rattle.table_verify.specs.Outline.{Role, Alone, Loop, Pardo, Branch, Test, Other, EndLoop, EndPardo, EndBranch, EndProgram, EndProcedure, Mark, mark, outline}

-- an instruction of this role
abbrev pub at : (line : ℕ) → Role → Mark
at line r = record { line = line; role = r }

-- so many conditions
abbrev pub tests : (line : ℕ) → List Cond → List Mark
tests line [] = []
tests line (w ∷ ws) = at line Test ∷ tests line ws

abbrev mutual
  -- the outline of a statement
  pub form_marks : (line : ℕ) → Plain → List Mark
  form_marks line (Do index body) = at line Loop ∷ (body_marks body ++ at line EndLoop ∷ [])
  form_marks line (DoIn sub index body) = at line Loop ∷ (body_marks body ++ at line EndLoop ∷ [])
  form_marks line (Pardo indices wheres body) = at line Pardo ∷ (tests line wheres ++ (body_marks body ++ at line EndPardo ∷ []))
  form_marks line (If cond body) = at line Branch ∷ (body_marks body ++ at line EndBranch ∷ [])
  form_marks line (IfElse cond body other) = at line Branch ∷ (body_marks body ++ (at line Other ∷ (body_marks other ++ at line EndBranch ∷ [])))
  form_marks line _ = at line Alone ∷ []

  -- the outline of a body
  pub body_marks : Block → List Mark
  body_marks End = []
  body_marks (Then line form rest) = form_marks line form ++ body_marks rest

-- the outline of procedures
abbrev pub procedures_marks : List Procedure → List Mark
procedures_marks [] = []
procedures_marks (q ∷ qs) = body_marks q.body ++ (at 0 EndProcedure ∷ procedures_marks qs)

-- the outline of a program
abbrev pub program_marks : Tree → List Mark
program_marks p = body_marks p.body ++ (at 0 EndProgram ∷ procedures_marks p.procedures)

tests_marks : (line : ℕ) (ws : List Cond) → outline (wheres_code line ws) ≡ tests line ws
tests_marks line [] = refl
tests_marks line (w ∷ ws) = ap (λ (ms : List Mark). at line Test ∷ ms) (tests_marks line ws)

-- a body with one instruction behind it
closed_by : (code : List Instruction) (b : Block) (last : Instruction) → outline code ≡ body_marks b → outline (code ++ last ∷ []) ≡ body_marks b ++ mark last ∷ []
closed_by code b last is = map-append mark code (last ∷ []) ∙ ap (λ (ms : List Mark). ms ++ mark last ∷ []) is

mutual
  form_outline : (entries : List ℕ) (place text line : ℕ) (f : Plain) → outline (form_code entries place text line f) ≡ form_marks line f
  form_outline entries place text line (Do index b) =
      ap (λ (ms : List Mark). at line Loop ∷ ms) (closed_by (body_code entries (place + 1) text b) b (instruction line (op.EndDo place)) (body_outline entries (place + 1) text b))
  form_outline entries place text line (DoIn sub index b) =
      ap (λ (ms : List Mark). at line Loop ∷ ms) (closed_by (body_code entries (place + 1) text b) b (instruction line (op.EndDo place)) (body_outline entries (place + 1) text b))
  form_outline entries place text line (Pardo indices ws b) =
      let from = place + (1 + length ws) in
      let bc = body_code entries from text b in
      ap (λ (ms : List Mark). at line Pardo ∷ ms) (map-append mark (wheres_code line ws) (bc ++ instruction line (op.EndPardo place) ∷ [])
      ∙ ap (λ (ms : List Mark). ms ++ outline (bc ++ instruction line (op.EndPardo place) ∷ [])) (tests_marks line ws)
      ∙ ap (λ (ms : List Mark). tests line ws ++ ms) (closed_by (body_code entries from text b) b (instruction line (op.EndPardo place)) (body_outline entries from text b)))
  form_outline entries place text line (If cond b) =
      ap (λ (ms : List Mark). at line Branch ∷ ms) (closed_by (body_code entries (place + 1) text b) b (instruction line op.EndIf) (body_outline entries (place + 1) text b))
  form_outline entries place text line (IfElse cond b o) =
      let bc = body_code entries (place + 1) text b in
      let oc = body_code entries (place + (sizes b + 2)) (text + length (body_prints b)) o in
      let behind = instruction line (op.Else (place + size (IfElse cond b o))) ∷ (oc ++ instruction line op.EndIf ∷ []) in
      ap (λ (ms : List Mark). at line Branch ∷ ms) (map-append mark bc behind
      ∙ ap (λ (ms : List Mark). ms ++ outline behind) (body_outline entries (place + 1) text b)
      ∙ ap (λ (ms : List Mark). body_marks b ++ (at line Other ∷ ms)) (closed_by (body_code entries (place + (sizes b + 2)) (text + length (body_prints b)) o) o (instruction line op.EndIf) (body_outline entries (place + (sizes b + 2)) (text + length (body_prints b)) o)))
  form_outline entries place text line _ = refl

  body_outline : (entries : List ℕ) (place text : ℕ) (b : Block) → outline (body_code entries place text b) ≡ body_marks b
  body_outline entries place text End = refl
  body_outline entries place text (Then line f rest) =
      let rc = body_code entries (place + size f) (text + length (prints f)) rest in
      map-append mark (form_code entries place text line f) rc
      ∙ ap (λ (ms : List Mark). ms ++ outline rc) (form_outline entries place text line f)
      ∙ ap (λ (ms : List Mark). form_marks line f ++ ms) (body_outline entries (place + size f) (text + length (prints f)) rest)

procedures_outline : (entries : List ℕ) (place text : ℕ) (qs : List Procedure) → outline (procedures_code entries place text qs) ≡ procedures_marks qs
procedures_outline entries place text [] = refl
procedures_outline entries place text (q ∷ qs) =
    let rc = procedures_code entries (place + procedure_size q) (text + length (body_prints q.body)) qs in
    map-append mark (body_code entries place text q.body) (instruction 0 op.Return ∷ rc)
    ∙ ap (λ (ms : List Mark). ms ++ (at 0 EndProcedure ∷ outline rc)) (body_outline entries place text q.body)
    ∙ ap (λ (ms : List Mark). body_marks q.body ++ (at 0 EndProcedure ∷ ms)) (procedures_outline entries (place + procedure_size q) (text + length (body_prints q.body)) qs)

-- the outline of a program's tables
pub program_outline : (p : Tree) → outline (flatten p).code ≡ program_marks p
program_outline p =
    let text = length (names p) in
    let rc = procedures_code (entries_of p) (sizes p.body + 1) (text + length (body_prints p.body)) p.procedures in
    map-append mark (body_code (entries_of p) 0 text p.body) (instruction 0 op.Stop ∷ rc)
    ∙ ap (λ (ms : List Mark). ms ++ (at 0 EndProgram ∷ outline rc)) (body_outline (entries_of p) 0 text p.body)
    ∙ ap (λ (ms : List Mark). body_marks p.body ++ (at 0 EndProgram ∷ ms)) (procedures_outline (entries_of p) (sizes p.body + 1) (text + length (body_prints p.body)) p.procedures)
