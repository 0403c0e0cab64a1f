-- The numbers of a program's instructions: the body, its stop, and then each procedure with its return.
use Rattle.std.specs.Prelude.{ℕ, ◌+◌, length, take, sum_by}
use Rattle.sial_syntax.specs.Tree.{Tree, Procedure, Block, End, Then, Plain, Do, DoIn, Pardo, If, IfElse}

abbrev mutual
  -- how many instructions a statement takes: a loop, a pardo and an `if` have one at their end, an `else` and each `where` one more
  pub size : Plain → ℕ
  size (Do index body) = sizes body + 2
  size (DoIn sub index body) = sizes body + 2
  size (Pardo indices wheres body) = length wheres + (sizes body + 2)
  size (If cond body) = sizes body + 2
  size (IfElse cond body other) = sizes body + (sizes other + 3)
  size _ = 1

  -- how many instructions statements take together
  pub sizes : Block → ℕ
  sizes End = 0
  sizes (Then line form rest) = size form + sizes rest

-- the number of the program's stop
abbrev pub stop_at : Tree → ℕ
stop_at p = sizes p.body

-- how many instructions a procedure takes with its return
abbrev pub procedure_size : Procedure → ℕ
procedure_size p = sizes p.body + 1

-- the number of a procedure's first instruction
abbrev pub entry_of : Tree → (procedure : ℕ) → ℕ
entry_of p procedure = stop_at p + (1 + sum_by procedure_size (take procedure p.procedures))

abbrev mutual
  -- how many statements a statement is, with those inside
  pub statements_in : Plain → ℕ
  statements_in (Do index body) = 1 + statements body
  statements_in (DoIn sub index body) = 1 + statements body
  statements_in (Pardo indices wheres body) = 1 + statements body
  statements_in (If cond body) = 1 + statements body
  statements_in (IfElse cond body other) = 1 + (statements body + statements other)
  statements_in _ = 1

  -- how many statements there are, with those inside
  pub statements : Block → ℕ
  statements End = 0
  statements (Then line form rest) = statements_in form + statements rest
