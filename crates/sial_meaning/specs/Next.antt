-- What comes next: the class of the first item of the rest of the work, and what a statement asks for.
use Rattle.std.specs.Prelude.{ℕ, List, [], ◌∷◌}
use Rattle.sial_syntax.specs.declared.access.Access.{Access}
use Rattle.sial_syntax.specs.declared.access.Class.{Class}
use Rattle.sial_syntax.specs.declared.access.Class.TheVariants.{Distributed, Served}
use Rattle.sial_syntax.specs.declared.operand.BlockRef.{BlockRef}
use Rattle.sial_syntax.specs.Tree as tree
use Rattle.sial_syntax.specs.Tree.{Plain, Do, DoIn, If, IfElse, Call, Request, Prepare, Create, Delete, Collective, SipBarrier, ServerBarrier}
use Rattle.sial_meaning.specs.Rest as rest
use Rattle.sial_meaning.specs.Rest.{Rest, Turn, Join, Back, Within}
use Rattle.sial_meaning.specs.Setting.{Setting}
use Rattle.sial_meaning.specs.Statement.{reads_of}

-- what comes next
pub data Task : Type 0 where
  -- nothing, at the program's end
  Over : Task
  -- a loop, a branch or a call, or the end of one
  Control : Task
  -- a pardo, to be entered
  Pardo : Task
  -- the end of a pardo's body: the next tuple of its box, or the pardo's end
  End : Task
  -- a statement that holds no other, with its line, and what is left behind it
  Statement : (line : ℕ) → Plain → Rest → Task

-- a statement that comes next
abbrev pub form_next : (line : ℕ) → Plain → Rest → Task
form_next line (Do index body) more = Control
form_next line (DoIn sub index body) more = Control
form_next line (tree.Pardo indices wheres body) more = Pardo
form_next line (If test body) more = Control
form_next line (IfElse test body other) more = Control
form_next line (Call procedure) more = Control
form_next line form more = Statement line form more

-- the class of the first item
abbrev pub next_of : Rest → Task
next_of (rest.Over at) = Over
next_of (rest.Next at line form more) = form_next line form more
next_of (Turn loop last more) = Control
next_of (Join at more) = Control
next_of (Back at values more) = Control
next_of (Within pardo number more) = End

-- what a statement that holds no other asks for, other than what the worker holds alone
pub data Asks : Type 0 where
  -- nothing
  Local : Asks
  -- the values of these shared blocks
  Operands : (blocks : List BlockRef) → Asks
  -- that a shared block be fetched
  Get : (block : BlockRef) → Asks
  -- that a shared block be replaced, added to or made the greater
  Put : (block : BlockRef) → (how : Access) → (from : BlockRef) → Asks
  -- that all workers meet, and an epoch of this class end
  Sync : Class → Asks
  -- that all workers meet, and the sum of a partial scalar
  Collect : (into from : ℕ) → Asks

-- the shared blocks that are read, if any
abbrev pub local_or : List BlockRef → Asks
local_or [] = Local
local_or (b ∷ bs) = Operands (b ∷ bs)

-- what a statement asks for
abbrev pub asked : Setting → Plain → Asks
asked g (tree.Get block) = Get block
asked g (Request block) = Get block
asked g (tree.Put block how from) = Put block how from
asked g (Prepare block how from) = Put block how from
asked g (Create array) = Sync Distributed
asked g (Delete array) = Sync Distributed
asked g (Collective into from) = Collect into from
asked g SipBarrier = Sync Distributed
asked g ServerBarrier = Sync Served
asked g form = local_or (reads_of g form)
