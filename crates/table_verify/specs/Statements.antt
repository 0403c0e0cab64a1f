-- Statements read from the front of code and texts.
use Rattle.std.specs.Prelude.{ℕ, zero, suc, List, [], ◌∷◌, ◌++◌, ◌==◌, ◌&&◌, if◌then◌else◌, slice_index, Option, Some, None}
use Rattle.sial_syntax.specs.declared.condition.Cond.{Cond}
use Rattle.sial_syntax.specs.Tree.{Block, Plain, block_of, Do, DoIn, Pardo, If, IfElse, Call, Assign, Get, Request, Put, Prepare, Create, Delete, Allocate, Deallocate, Collective, SipBarrier, ServerBarrier, Print, PrintScalar, Integrals}
use Rattle.sip_tables.specs.declared.instruction.Operation.{Operation}
use Rattle.sip_tables.specs.declared.instruction.Operation.TheVariants as op
use Rattle.table_verify.specs.Rest.{Left, Read, next, numbered, ◌>>=◌}
use Rattle.table_verify.specs.declared.statements.Whole.{Whole}
use Rattle.table_verify.specs.Closings.{begin, end_do, end_pardo, end_if, wheres}

-- how the body of a statement is read
abbrev pub Inner : Type 0
Inner = Left → Read Block

-- a loop over segments
unfoldable pub over_segments : Inner → (at line index past : ℕ) → Left → Read Plain
over_segments inner at line index past left = do
  x ← inner left
  y ← end_do line at x.1
  if past == y.at then Some (Do index x.0, y) else None

-- a loop over pieces
unfoldable pub over_pieces : Inner → (at line sub index past : ℕ) → Left → Read Plain
over_pieces inner at line sub index past left = do
  x ← inner left
  y ← end_do line at x.1
  if past == y.at then Some (DoIn sub index x.0, y) else None

-- a pardo, with at most so many conditions
unfoldable pub pardo : Inner → (most at line : ℕ) → (indices : List ℕ) → (last : ℕ) → Left → Read Plain
pardo inner most at line indices last left = do
  w ← wheres line most [] left
  x ← inner w.1
  y ← end_pardo line at x.1
  if last == x.1.at then Some (Pardo indices w.0 x.0, y) else None

-- the other branch of an `if`
unfoldable pub second : Inner → (line : ℕ) → Cond → Block → (past : ℕ) → Left → Read Plain
second inner line test first past left = do
  x ← inner left
  y ← end_if line x.1
  if past == y.at then Some (IfElse test first x.0, y) else None

-- an `if` whose first branch was read, with what stands behind it
abbrev pub after_branch : Inner → (line : ℕ) → Cond → Block → Operation → Left → Read Plain
after_branch inner line test first op.EndIf left = Some (If test first, left)
after_branch inner line test first (op.Else past) left = second inner line test first past left
after_branch inner line test first _ left = None

-- an `if`
unfoldable pub branch : Inner → (line : ℕ) → Cond → (otherwise : ℕ) → Left → Read Plain
branch inner line test otherwise left = do
  x ← inner left
  y ← next x.1
  if (y.0.line == line) && (otherwise == y.1.at) then after_branch inner line test x.0 y.0.operation y.1 else None

-- a printed text
unfoldable pub print : (number : ℕ) → Left → Read Plain
print number left = do
  x ← numbered number left
  Some (Print x.0, x.1)

-- a call; `entries` are the numbers of the procedures' first instructions
unfoldable pub call : (entries : List ℕ) → (procedure entry : ℕ) → Left → Read Plain
call entries procedure entry left = if entry == slice_index entries procedure then Some (Call procedure, left) else None

-- a statement that is one instruction with no number in it
abbrev pub simple : Operation → Option Plain
simple (op.Assign target combining right) = Some (Assign target combining right)
simple (op.Get block) = Some (Get block)
simple (op.Request block) = Some (Request block)
simple (op.Put block how from) = Some (Put block how from)
simple (op.Prepare block how from) = Some (Prepare block how from)
simple (op.Create array) = Some (Create array)
simple (op.Delete array) = Some (Delete array)
simple (op.Allocate array slots) = Some (Allocate array slots)
simple (op.Deallocate array slots) = Some (Deallocate array slots)
simple (op.Collective into from) = Some (Collective into from)
simple op.SipBarrier = Some SipBarrier
simple op.ServerBarrier = Some ServerBarrier
simple (op.PrintScalar scalar) = Some (PrintScalar scalar)
simple (op.Integrals block) = Some (Integrals block)
simple _ = None

-- such a statement, with what is left
abbrev pub alone : Operation → Left → Read Plain
alone operation left = simple operation >>= λ form. Some (form, left)

-- what a statement says that begins with an operation at this place, on this line
abbrev pub form : (entries : List ℕ) → (most : ℕ) → Inner → (at line : ℕ) → Operation → Left → Read Plain
form entries most inner at line (op.Do index past) left = over_segments inner at line index past left
form entries most inner at line (op.DoIn sub index past) left = over_pieces inner at line sub index past left
form entries most inner at line (op.Pardo indices last) left = pardo inner most at line indices last left
form entries most inner at line (op.If test otherwise) left = branch inner line test otherwise left
form entries most inner at line (op.Print number) left = print number left
form entries most inner at line (op.Call procedure entry) left = call entries procedure entry left
form entries most inner at line operation left = alone operation left

-- a statement with its line
unfoldable pub statement : (entries : List ℕ) → (most : ℕ) → Inner → Left → Read (ℕ × Plain)
statement entries most inner left = do
  x ← next left
  y ← form entries most inner left.at x.0.line x.0.operation x.1
  Some ((x.0.line, y.0), y.1)

-- statements as long as there are any, in so many turns at most, behind those that were read; `most` is how many instructions there are
unfoldable pub turns : (entries : List ℕ) → (most : ℕ) → Inner → (turn : ℕ) → List (ℕ × Plain) → Left → Read Block
turns entries most inner zero front left = Some (block_of front, left)
turns entries most inner (suc turn) front left =
    if begin left.code then (statement entries most inner left >>= λ x. turns entries most inner turn (front ++ x.0 ∷ []) x.1) else Some (block_of front, left)

-- the body of a statement in a body in which so much may nest
abbrev pub inner : (entries : List ℕ) → (most depth : ℕ) → Inner
inner entries most zero left = None
inner entries most (suc depth) left = turns entries most (inner entries most depth) most [] left

-- statements in which so much may nest
abbrev pub body : (entries : List ℕ) → (most depth : ℕ) → Inner
body entries most depth left = turns entries most (inner entries most depth) most [] left

-- the same, by what all of the code tells
abbrev pub within : Whole → (depth : ℕ) → Inner
within whole depth left = inner whole.entries.now whole.len depth left
