-- The calls of procedures, with their lines, in order.
use Rattle.std.specs.Prelude.{ℕ, List, [], ◌∷◌, ◌++◌, map, Bool, true, false}
use Rattle.std.specs.Global.{Vec}
use Rattle.sial_syntax.specs.Tree.{Tree, Procedure, Block, End, Then, Plain, Do, DoIn, Pardo, If, IfElse}
use Rattle.sial_syntax.specs.Tree as tree
use Rattle.scalar_discipline.specs.declared.call.Call.{Call}

abbrev mutual
  -- calls, and behind them those of a body
  pub with_body : (within : Bool) → Block → List Call → List Call
  with_body within End calls = calls
  with_body within (Then line form rest) calls = with_body within rest (with_form within line form calls)

  -- calls, and behind them that which a statement is, and those inside it
  pub with_form : (within : Bool) → (line : ℕ) → Plain → List Call → List Call
  with_form within line (tree.Call procedure) calls = calls ++ record { line = line; procedure = procedure; within = within } ∷ []
  with_form within line (Do index body) calls = with_body within body calls
  with_form within line (DoIn sub index body) calls = with_body within body calls
  with_form within line (Pardo indices wheres body) calls = with_body true body calls
  with_form within line (If cond body) calls = with_body within body calls
  with_form within line (IfElse cond body other) calls = with_body within other (with_body within body calls)
  with_form within line _ calls = calls

-- the calls of a procedure
abbrev pub calls_within : Procedure → List Call
calls_within procedure = with_body false procedure.body []

-- lists of calls
abbrev pub lists : List (Vec Call) → List (List Call)
lists calls = map (λ (own : Vec Call). own.items) calls
