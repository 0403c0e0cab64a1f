-- Where statements stand in the code: each with the number of its first instruction.
use Rattle.std.specs.Prelude.{ℕ, ◌+◌, List, [], ◌∷◌, ◌++◌, length}
use Rattle.sial_syntax.specs.Numbering.{size, sizes, entry_of}
use Rattle.sial_syntax.specs.Tree.{Tree, Procedure, Block, End, Then, Plain, Do, DoIn, Pardo, If, IfElse}

-- a statement with its line and the number of its first instruction
pub record Placed : Type 0 where
  pub at : ℕ
  pub line : ℕ
  pub form : Plain

abbrev mutual
  -- the statements of a body whose first instruction is `at`, each before those inside it
  pub placed : (at : ℕ) → Block → List Placed
  placed at End = []
  placed at (Then line form rest) = record { at = at; line = line; form = form } ∷ (placed_inside at form ++ placed (at + size form) rest)

  -- the statements inside a statement whose first instruction is `at`
  pub placed_inside : (at : ℕ) → Plain → List Placed
  placed_inside at (Do index body) = placed (at + 1) body
  placed_inside at (DoIn sub index body) = placed (at + 1) body
  placed_inside at (Pardo indices wheres body) = placed (at + (1 + length wheres)) body
  placed_inside at (If cond body) = placed (at + 1) body
  placed_inside at (IfElse cond body other) = placed (at + 1) body ++ placed (at + (sizes body + 2)) other
  placed_inside at _ = []

-- the statements of procedures, the first of which has this number in the program
abbrev pub placed_procedures : Tree → (number : ℕ) → List Procedure → List Placed
placed_procedures p number [] = []
placed_procedures p number (procedure ∷ rest) = placed (entry_of p number) procedure.body ++ placed_procedures p (number + 1) rest

-- all statements of a program
abbrev pub all_placed : Tree → List Placed
all_placed p = placed 0 p.body ++ placed_procedures p 0 p.procedures
