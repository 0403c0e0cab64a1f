-- The rest of a worker's work.
use Rattle.std.specs.Prelude.{ℕ, ◌+◌, List}
use Rattle.sial_syntax.specs.declared.condition.Cond.{Cond}
use Rattle.sial_syntax.specs.Numbering.{size}
use Rattle.sial_syntax.specs.Tree.{Block, End, Then, Plain}

-- a loop where it stands in the code: the instructions at its end and at its head, its index, and its body, which begins behind the head
pub record LoopAt : Type 0 where
  pub at : ℕ
  pub head : ℕ
  pub index : ℕ
  pub body : Block

-- a pardo where it stands in the code: the instructions at its end and at its head, its indices, its `where` lines, and its body, which begins behind these
pub record PardoAt : Type 0 where
  pub at : ℕ
  pub head : ℕ
  pub indices : List ℕ
  pub wheres : List Cond
  pub body : Block

-- the rest of the work; each item carries the number of its instruction
pub data Rest : Type 0 where
  -- the program's end
  Over : (at : ℕ) → Rest
  -- a statement that hasn't begun
  Next : (at line : ℕ) → Plain → Rest → Rest
  -- the end of a loop's body: the index goes on to `last`, and the body is run again
  Turn : LoopAt → (last : ℕ) → Rest → Rest
  -- the end of the branch that was taken
  Join : (at : ℕ) → Rest → Rest
  -- the end of a procedure, behind which the caller's indices have these numbers again
  Back : (at : ℕ) → (values : List ℕ) → Rest → Rest
  -- the end of a pardo's body: the tuples of its box from this place on are left
  Within : PardoAt → (number : ℕ) → Rest → Rest

-- the instruction that the rest begins with
abbrev pub place : Rest → ℕ
place (Over at) = at
place (Next at line form rest) = at
place (Turn loop last rest) = loop.at
place (Join at rest) = at
place (Back at values rest) = at
place (Within pardo number rest) = pardo.at

-- statements that begin at an instruction, before the rest
abbrev pub push : (at : ℕ) → Block → Rest → Rest
push at End rest = rest
push at (Then line form more) rest = Next at line form (push (at + size form) more rest)

-- how many procedures are under way
abbrev pub depth : Rest → ℕ
depth (Over at) = 0
depth (Next at line form rest) = depth rest
depth (Turn loop last rest) = depth rest
depth (Join at rest) = depth rest
depth (Back at values rest) = depth rest + 1
depth (Within pardo number rest) = depth rest
