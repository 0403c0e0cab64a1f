-- Where an instruction leads the cursor, and what becomes of the places to return to.
use Rattle.std.specs.Prelude.{◌≡◌, ℕ, ◌+◌, List, [], ◌∷◌, ◌++◌, length, ◌⊎◌}
use Rattle.sial_syntax.specs.Proper.{IsProper}
use Rattle.sial_syntax.specs.Tree.{Tree}
use Rattle.sial_meaning.specs.Control.{Led, Goes, Halts, control}
use Rattle.sial_meaning.specs.Own.{Own}
use Rattle.sial_meaning.specs.Rest.{PardoAt, Rest, place}
use Rattle.sial_meaning.specs.Setting.{Setting}
use Rattle.sial_meaning.specs.Statement.{Reading}
use Rattle.sial_meaning.specs.Step.{Work, Stepped, Moved, Halted, Ended, step}
use Rattle.sip_tables.specs.declared.instruction.Instruction.{Instruction}
use Rattle.sip_tables.specs.declared.instruction.Operation.{Operation}
use Rattle.sip_tables.specs.declared.instruction.Operation.TheVariants as op
use Rattle.code_places.specs.Follows.{Follows, PardoStands, return_places}
use Rattle.code_places.specs.Standing.{HasAt}

-- a cursor: the number of an instruction, and the places to which the calls in progress return, the last of them last
pub record Cursor : Type 0 where
  pub at : ℕ
  pub returns : List ℕ

-- the cursor at the rest of the work
abbrev pub cursor : Rest → Cursor
cursor rest = record { at = place rest; returns = return_places rest }

-- the cursor somewhere else, with the same calls in progress
abbrev pub moved_to : (to : ℕ) → Cursor → Cursor
moved_to to c = record c { at = to }

-- the cursor in a procedure that is called, which returns to the next instruction
abbrev pub called_from : (entry : ℕ) → Cursor → Cursor
called_from entry c = record { at = entry; returns = c.returns ++ (c.at + 1) ∷ [] }

-- the cursor goes to one place or to another
abbrev pub GoesTo : (one other : ℕ) → (from to : Cursor) → Type 0
GoesTo one other from to = (to ≡ moved_to one from) ⊎ (to ≡ moved_to other from)

-- the cursor goes to the body of a pardo with this head, behind its `where` lines
pub record GoesInside (p : Tree) (head : ℕ) (from to : Cursor) : Type 0 where
  pub pardo : PardoAt
  pub stands : PardoStands p pardo
  pub head_is : head ≡ pardo.head
  pub to_is : to ≡ moved_to (head + 1 + length pardo.wheres) from

-- where an operation leads the cursor
abbrev pub Leads : Tree → Operation → (from to : Cursor) → Type 0
Leads p op.Stop from to = to ≡ from
Leads p op.Return from to = from.returns ≡ to.returns ++ to.at ∷ []
Leads p (op.Do index past) from to = GoesTo (from.at + 1) past from to
Leads p (op.DoIn sub index past) from to = GoesTo (from.at + 1) past from to
Leads p (op.EndDo head) from to = GoesTo (head + 1) (from.at + 1) from to
Leads p (op.If cond otherwise) from to = GoesTo (from.at + 1) otherwise from to
Leads p (op.Else past) from to = to ≡ moved_to past from
Leads p (op.Pardo indices end_at) from to = to ≡ moved_to end_at from
Leads p (op.EndPardo head) from to = GoesInside p head from to ⊎ GoesTo from.at (from.at + 1) from to
Leads p (op.Call procedure entry) from to = (to ≡ called_from entry from) ⊎ (to ≡ moved_to (from.at + 1) from)
Leads p _ from to = to ≡ moved_to (from.at + 1) from

-- where an operation leads control; a trap leads nowhere
abbrev pub LeadsControl : Tree → Operation → Cursor → Led → Type 0
LeadsControl p o from (Goes rest own) = Leads p o from (cursor rest)
LeadsControl p o from (Halts trap) = Unit {0}

-- where an operation leads a step; a trap and the program's end lead nowhere
abbrev pub LeadsStep : Tree → Operation → Cursor → Stepped → Type 0
LeadsStep p o from (Moved w) = Leads p o from (cursor w.rest)
LeadsStep p o from (Halted trap s) = Unit {0}
LeadsStep p o from Ended = Unit {0}

-- control goes where the instruction at the cursor leads
abbrev pub ControlIsLed : Type 0
ControlIsLed =
    (g : Setting) (rest : Rest) (own : Own) (i : Instruction) → IsProper g.program → Follows g.program rest
    → HasAt g.program (place rest) i → LeadsControl g.program i.operation (cursor rest) (control g rest own)

-- and so does each step
abbrev pub StepIsLed : Type 0
StepIsLed =
    (reading : Reading) (g : Setting) (w : Work) (i : Instruction) → IsProper g.program → Follows g.program w.rest
    → HasAt g.program (place w.rest) i → LeadsStep g.program i.operation (cursor w.rest) (step reading g w)
