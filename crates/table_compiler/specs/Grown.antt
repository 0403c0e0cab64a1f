-- How texts and code grow while a program is gone through.
use Rattle.std.specs.Prelude.{◌≡◌, ℕ, List, [], ◌∷◌, ◌++◌, flat_map, length}
use Rattle.sial_syntax.specs.Tree.{Tree, Procedure, Block, Plain}
use Rattle.sip_tables.specs.Code.{instruction, form_code, body_code, procedures_code, program_code}
use Rattle.sip_tables.specs.Texts.{prints, body_prints, printed}
use Rattle.sip_tables.specs.declared.instruction.Instruction.{Instruction}
use Rattle.sip_tables.specs.declared.instruction.Operation.TheVariants as op
use Rattle.table_compiler.specs.declared.flat.Flat.{Flat}

-- these texts and this code came behind the others
pub record Adds (old new : Flat) (more_texts : List (List ℕ)) (more_code : List Instruction) : Type 0 where
  pub texts : new.texts.items ≡ old.texts.items ++ more_texts
  pub code : new.code.items ≡ old.code.items ++ more_code

-- these names came behind the other texts, and no code
pub record Names (old new : Flat) (names : List (List ℕ)) : Type 0 where
  pub texts : new.texts.items ≡ old.texts.items ++ names
  pub code : new.code.items ≡ old.code.items

-- a text is printed that comes behind the others
abbrev pub printing : (line : ℕ) → Flat → Instruction
printing line flat = instruction line (op.Print (length flat.texts.items))

-- the code of a statement behind some code and texts
abbrev pub form_behind : (entries : List ℕ) → Flat → (line : ℕ) → Plain → List Instruction
form_behind entries flat line form = form_code entries (length flat.code.items) (length flat.texts.items) line form

-- the code of statements behind some code and texts
abbrev pub body_behind : (entries : List ℕ) → Flat → Block → List Instruction
body_behind entries flat body = body_code entries (length flat.code.items) (length flat.texts.items) body

-- a statement's texts and its code came behind the others
abbrev pub AddsForm : (entries : List ℕ) → (old new : Flat) → (line : ℕ) → Plain → Type 0
AddsForm entries old new line form = Adds old new (prints form) (form_behind entries old line form)

-- the texts and the code of statements came behind the others
abbrev pub AddsBody : (entries : List ℕ) → (old new : Flat) → Block → Type 0
AddsBody entries old new body = Adds old new (body_prints body) (body_behind entries old body)

-- the texts and the code of a procedure came behind the others, with its return
abbrev pub AddsProcedure : (entries : List ℕ) → (old new : Flat) → Procedure → Type 0
AddsProcedure entries old new procedure =
    Adds old new (body_prints procedure.body) (body_behind entries old procedure.body ++ instruction 0 op.Return ∷ [])

-- what procedures print
abbrev pub procedures_print : List Procedure → List (List ℕ)
procedures_print procedures = flat_map (λ (q : Procedure). body_prints q.body) procedures

-- the code of procedures behind some code and texts
abbrev pub procedures_behind : (entries : List ℕ) → Flat → List Procedure → List Instruction
procedures_behind entries flat procedures = procedures_code entries (length flat.code.items) (length flat.texts.items) procedures

-- the texts and the code of procedures came behind the others
abbrev pub AddsProcedures : (entries : List ℕ) → (old new : Flat) → List Procedure → Type 0
AddsProcedures entries old new procedures = Adds old new (procedures_print procedures) (procedures_behind entries old procedures)

-- all that a program prints, and its code, came behind the others
abbrev pub AddsProgram : (old new : Flat) → Tree → Type 0
AddsProgram old new p = Adds old new (printed p) (program_code p (length old.texts.items))
