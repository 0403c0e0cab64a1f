-- What the first item of the rest of the work is, by the instruction at the cursor.
use Rattle.std.specs.Prelude.{◌≡◌, ℕ, ◌+◌, List, length, Some, slice_get, ◌⊎◌}
use Rattle.sial_syntax.specs.declared.condition.Cond.{Cond}
use Rattle.sial_syntax.specs.Numbering.{size, sizes, entry_of}
use Rattle.sial_syntax.specs.Tree as tree
use Rattle.sial_syntax.specs.Tree.{Tree, Block, Plain}
use Rattle.sial_meaning.specs.Rest.{LoopAt, PardoAt, Rest, Over, Next, Turn, Join, Back, Within, place}
use Rattle.sip_tables.specs.declared.instruction.Operation.{Operation}
use Rattle.sip_tables.specs.declared.instruction.Operation.TheVariants as op
use Rattle.sip_tables.specs.Flatten.{flatten}
use Rattle.code_places.specs.Follows.{Follows, LoopStands, PardoStands}
use Rattle.code_places.specs.Standing.{FormStands}

-- a statement comes next, and then more
pub record IsNext (p : Tree) (rest : Rest) (line : ℕ) (form : Plain) (more : Rest) : Type 0 where
  pub is : rest ≡ Next (place rest) line form more
  pub stands : FormStands p (place rest) line form
  pub behind : place more ≡ place rest + size form
  pub follows : Follows p more

-- a statement comes next that is one instruction
pub record IsSingle (p : Tree) (rest : Rest) (line : ℕ) (form : Plain) : Type 0 where
  pub more : Rest
  pub next : IsNext p rest line form more

-- a loop, with its body, is entered or passed
pub record IsHead (p : Tree) (rest : Rest) (line : ℕ) (form : Block → Plain) (past : ℕ) : Type 0 where
  pub body : Block
  pub more : Rest
  pub next : IsNext p rest line (form body) more
  pub past_is : past ≡ place more

-- the end of a loop's body
pub record IsTurn (p : Tree) (rest : Rest) (head : ℕ) : Type 0 where
  pub loop : LoopAt
  pub last : ℕ
  pub more : Rest
  pub is : rest ≡ Turn loop last more
  pub head_is : head ≡ loop.head
  pub stands : LoopStands p loop
  pub behind : place more ≡ loop.at + 1
  pub follows : Follows p more

-- an `if` with `else`, whose other branch begins at a place
pub record IsElse (p : Tree) (rest : Rest) (line : ℕ) (cond : Cond) (otherwise : ℕ) : Type 0 where
  pub body : Block
  pub other : Block
  pub more : Rest
  pub next : IsNext p rest line (tree.IfElse cond body other) more
  pub otherwise_is : otherwise ≡ place rest + 2 + sizes body

-- the end of a branch, with the place behind it
pub record IsJoin (p : Tree) (rest : Rest) (to : ℕ) : Type 0 where
  pub more : Rest
  pub is : rest ≡ Join (place rest) more
  pub behind : place more ≡ to
  pub follows : Follows p more

-- a pardo, whose end has a place
pub record IsPardo (p : Tree) (rest : Rest) (line : ℕ) (indices : List ℕ) (end_at : ℕ) : Type 0 where
  pub wheres : List Cond
  pub body : Block
  pub more : Rest
  pub next : IsNext p rest line (tree.Pardo indices wheres body) more
  pub end_is : end_at ≡ place rest + 1 + length wheres + sizes body

-- the end of a pardo's body
pub record IsWithin (p : Tree) (rest : Rest) (head : ℕ) : Type 0 where
  pub pardo : PardoAt
  pub number : ℕ
  pub more : Rest
  pub is : rest ≡ Within pardo number more
  pub head_is : head ≡ pardo.head
  pub stands : PardoStands p pardo
  pub behind : place more ≡ pardo.at + 1
  pub follows : Follows p more

-- a call, to a procedure's entry
pub record IsCall (p : Tree) (rest : Rest) (line procedure entry : ℕ) : Type 0 where
  pub more : Rest
  pub next : IsNext p rest line (tree.Call procedure) more
  pub entry_is : entry ≡ entry_of p procedure

-- the end of a procedure
pub record IsBack (p : Tree) (rest : Rest) : Type 0 where
  pub values : List ℕ
  pub more : Rest
  pub is : rest ≡ Back (place rest) values more
  pub follows : Follows p more

-- a text is printed, which has this number
pub record IsPrint (p : Tree) (rest : Rest) (line text : ℕ) : Type 0 where
  pub printed : List ℕ
  pub more : Rest
  pub next : IsNext p rest line (tree.Print printed) more
  pub text_is : slice_get (flatten p).texts text ≡ Some printed

-- what the first item is; the cursor never stands at a `where` line
abbrev pub ItemOf : Tree → Rest → (line : ℕ) → Operation → Type 0
ItemOf p rest line op.Stop = rest ≡ Over (place rest)
ItemOf p rest line op.Return = IsBack p rest
ItemOf p rest line (op.Do index past) = IsHead p rest line (tree.Do index) past
ItemOf p rest line (op.DoIn sub index past) = IsHead p rest line (tree.DoIn sub index) past
ItemOf p rest line (op.EndDo head) = IsTurn p rest head
ItemOf p rest line (op.If cond otherwise) = IsHead p rest line (tree.If cond) otherwise ⊎ IsElse p rest line cond otherwise
ItemOf p rest line (op.Else past) = IsJoin p rest past
ItemOf p rest line op.EndIf = IsJoin p rest (place rest + 1)
ItemOf p rest line (op.Pardo indices end_at) = IsPardo p rest line indices end_at
ItemOf p rest line (op.Where cond) = ⊥
ItemOf p rest line (op.EndPardo head) = IsWithin p rest head
ItemOf p rest line (op.Call procedure entry) = IsCall p rest line procedure entry
ItemOf p rest line (op.Assign target combining right) = IsSingle p rest line (tree.Assign target combining right)
ItemOf p rest line (op.Get block) = IsSingle p rest line (tree.Get block)
ItemOf p rest line (op.Request block) = IsSingle p rest line (tree.Request block)
ItemOf p rest line (op.Put block how from) = IsSingle p rest line (tree.Put block how from)
ItemOf p rest line (op.Prepare block how from) = IsSingle p rest line (tree.Prepare block how from)
ItemOf p rest line (op.Create array) = IsSingle p rest line (tree.Create array)
ItemOf p rest line (op.Delete array) = IsSingle p rest line (tree.Delete array)
ItemOf p rest line (op.Allocate array slots) = IsSingle p rest line (tree.Allocate array slots)
ItemOf p rest line (op.Deallocate array slots) = IsSingle p rest line (tree.Deallocate array slots)
ItemOf p rest line (op.Collective into from) = IsSingle p rest line (tree.Collective into from)
ItemOf p rest line op.SipBarrier = IsSingle p rest line tree.SipBarrier
ItemOf p rest line op.ServerBarrier = IsSingle p rest line tree.ServerBarrier
ItemOf p rest line (op.Print text) = IsPrint p rest line text
ItemOf p rest line (op.PrintScalar scalar) = IsSingle p rest line (tree.PrintScalar scalar)
ItemOf p rest line (op.Integrals block) = IsSingle p rest line (tree.Integrals block)
