-- The numbers of `sial_syntax` are the places in the code.
use Rattle.std.specs.Prelude.{◌≡◌, ℕ, ◌<◌, List, [], ◌∷◌, ◌++◌, length, Some, slice_get, slice_index}
use Rattle.std.specs.List.{AllByRecursion}
use Rattle.sial_syntax.specs.Numbering.{stop_at, entry_of}
use Rattle.sial_syntax.specs.Tree.{Tree, Procedure}
use Rattle.sip_tables.specs.Code.{instruction, form_code, body_code, entries_of}
use Rattle.sip_tables.specs.declared.instruction.Instruction.{Instruction}
use Rattle.sip_tables.specs.declared.instruction.Operation.TheVariants as op
use Rattle.sip_tables.specs.Flatten.{flatten}
use Rattle.sip_tables.specs.Places.{Placed, all_placed}

-- some code stands at a place of other code
pub record StandsAt (at : ℕ) (part whole : List Instruction) : Type 0 where
  pub front : List Instruction
  pub back : List Instruction
  pub whole_is : whole ≡ front ++ (part ++ back)
  pub before : length front ≡ at

-- each statement's code stands at its number, with some number for its first printed text
abbrev pub StatementStands : Tree → Placed → Type 0
StatementStands p x = (text : ℕ) × StandsAt x.at (form_code (entries_of p) x.at text x.line x.form) (flatten p).code

abbrev pub StatementsStand : Type 0
StatementsStand = (p : Tree) → AllByRecursion (StatementStands p) (all_placed p)

-- the program's stop stands at its number
abbrev pub StopStands : Type 0
StopStands = (p : Tree) → StandsAt (stop_at p) (instruction 0 op.Stop ∷ []) (flatten p).code

-- a procedure's body stands at its number, with its return behind it
abbrev pub ProcedureStands : Tree → ℕ → Procedure → Type 0
ProcedureStands p number q =
    (text : ℕ)
    × StandsAt (entry_of p number) (body_code (entries_of p) (entry_of p number) text q.body ++ instruction 0 op.Return ∷ [])
    (flatten p).code

abbrev pub ProceduresStand : Type 0
ProceduresStand = (p : Tree) (number : ℕ) (q : Procedure) → slice_get p.procedures number ≡ Some q → ProcedureStands p number q

-- that number is the procedure's first instruction, to which calls jump
abbrev pub EntriesAreNumbers : Type 0
EntriesAreNumbers = (p : Tree) (number : ℕ) → number < length p.procedures → slice_index (entries_of p) number ≡ entry_of p number
