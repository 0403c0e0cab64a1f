-- The instruction at which the cursor stands: what the first item of the rest of the work says of it.
use Rattle.std.specs.Prelude.{◌≡◌, ℕ, ◌+◌, length, Some, slice_get}
use Rattle.sial_syntax.specs.Numbering.{size, sizes, entry_of}
use Rattle.sial_syntax.specs.Tree.{Tree, Plain, Do, DoIn, Pardo, If, IfElse, Call, Assign, Get, Request, Put, Prepare, Create, Delete, Allocate, Deallocate, Collective, SipBarrier, ServerBarrier, Print, PrintScalar, Integrals}
use Rattle.sial_meaning.specs.Rest.{Rest, Over, Next, Turn, Join, Back, Within, place}
use Rattle.sip_tables.specs.Code.{instruction}
use Rattle.sip_tables.specs.declared.instruction.Instruction.{Instruction}
use Rattle.sip_tables.specs.declared.instruction.Operation.{Operation}
use Rattle.sip_tables.specs.declared.instruction.Operation.TheVariants as op
use Rattle.sip_tables.specs.Flatten.{flatten}
use Rattle.code_places.specs.Follows.{Joins}

-- the first operation of a statement that begins at a place, and whose first printed text has a number
abbrev pub operation_of : Tree → (at text : ℕ) → Plain → Operation
operation_of p at text (Do index body) = op.Do index (at + size (Do index body))
operation_of p at text (DoIn sub index body) = op.DoIn sub index (at + size (DoIn sub index body))
operation_of p at text (Pardo indices wheres body) = op.Pardo indices (at + 1 + length wheres + sizes body)
operation_of p at text (If cond body) = op.If cond (at + size (If cond body))
operation_of p at text (IfElse cond body other) = op.If cond (at + 2 + sizes body)
operation_of p at text (Call procedure) = op.Call procedure (entry_of p procedure)
operation_of p at text (Assign target combining right) = op.Assign target combining right
operation_of p at text (Get block) = op.Get block
operation_of p at text (Request block) = op.Request block
operation_of p at text (Put block how from) = op.Put block how from
operation_of p at text (Prepare block how from) = op.Prepare block how from
operation_of p at text (Create array) = op.Create array
operation_of p at text (Delete array) = op.Delete array
operation_of p at text (Allocate array slots) = op.Allocate array slots
operation_of p at text (Deallocate array slots) = op.Deallocate array slots
operation_of p at text (Collective into from) = op.Collective into from
operation_of p at text SipBarrier = op.SipBarrier
operation_of p at text ServerBarrier = op.ServerBarrier
operation_of p at text (Print printed) = op.Print text
operation_of p at text (PrintScalar scalar) = op.PrintScalar scalar
operation_of p at text (Integrals block) = op.Integrals block

-- what a statement prints is the text of this number; others print no text
abbrev pub Prints : Tree → (text : ℕ) → Plain → Type 0
Prints p text (Print printed) = slice_get (flatten p).texts text ≡ Some printed
Prints p text _ = Unit {0}

-- an instruction is that of a statement
pub record IsFirst (p : Tree) (at line : ℕ) (form : Plain) (i : Instruction) : Type 0 where
  pub text : ℕ
  pub is : i ≡ instruction line (operation_of p at text form)
  pub prints : Prints p text form

-- what the first item of the rest of the work says of the instruction at its place
abbrev pub Says : Tree → Rest → Instruction → Type 0
Says p (Over at) i = i ≡ instruction 0 op.Stop
Says p (Next at line form rest) i = IsFirst p at line form i
Says p (Turn loop last rest) i = i.operation ≡ op.EndDo loop.head
Says p (Join at rest) i = Joins i.operation at (place rest)
Says p (Back at values rest) i = i ≡ instruction 0 op.Return
Says p (Within pardo number rest) i = i.operation ≡ op.EndPardo pardo.head
