-- The meaning of a program: a fold over its tree that stops at a trap.
use Rattle.std.specs.Prelude.{ℕ, zero, suc, List, [], ◌∷◌, map, Bool, true, false, ◌==◌, not, nat_lt, nat_le, Ok, Err}
use Rattle.std.specs.List.{list_all}
use Rattle.sial_syntax.specs.declared.condition.Cond.{Cond}
use Rattle.sial_syntax.specs.declared.condition.Test.{Test}
use Rattle.sial_syntax.specs.declared.condition.Test.TheVariants.{Less, LessEqual, Greater, GreaterEqual, Equal, NotEqual}
use Rattle.sial_syntax.specs.declared.condition.Value.{Value}
use Rattle.sial_syntax.specs.declared.condition.Value.TheVariants.{Number, Scalar, Index}
use Rattle.sial_syntax.specs.Boxes.{numbers_from, tuples}
use Rattle.sial_syntax.specs.Spaces.{first_of, count_of, box_of, onto_firsts, pieces_of}
use Rattle.sial_syntax.specs.Tree.{Block, End, Then, Plain, Do, DoIn, Pardo, If, IfElse, Call}
use Rattle.sial_meaning.specs.declared.trap.TrapKind.TheVariants.{UnsetScalar}
use Rattle.sial_meaning.specs.Setting.{Setting, procedure_body}
use Rattle.sial_meaning.specs.Own.{Own, value_of, bound, all_bound, none_bound, with_values, unset, scalar_of}
use Rattle.sial_meaning.specs.State.{State, start_state, with_own}
use Rattle.sial_meaning.specs.LocalStep.{Answer, and_then, or_trap}
use Rattle.sial_meaning.specs.Statement.{Outcome, Went, Stopped, after, Reading, Present, Copied, statement, trap_at}

-- a value of a condition
abbrev pub value_in : Own → Value → Answer ℕ
value_in own (Number n) = Ok n
value_in own (Scalar s) = or_trap UnsetScalar (scalar_of own s)
value_in own (Index i) = Ok (value_of own i)

-- whether a comparison of unsigned numbers holds
abbrev pub holds : Test → (left right : ℕ) → Bool
holds Less a b = nat_lt a b
holds LessEqual a b = nat_le a b
holds Greater a b = nat_lt b a
holds GreaterEqual a b = nat_le b a
holds Equal a b = a == b
holds NotEqual a b = not (a == b)

-- a condition, its values tested from left to right
abbrev pub condition : Own → Cond → Answer Bool
condition own cond = and_then (value_in own cond.left) (λ a. and_then (value_in own cond.right) (λ b. Ok (holds cond.test a b)))

-- one of two ways, or the trap of the condition
abbrev pub chosen : (line : ℕ) → Answer Bool → (met unmet : State → Outcome) → State → Outcome
chosen line (Ok true) met unmet s = met s
chosen line (Ok false) met unmet s = unmet s
chosen line (Err kind) met unmet s = Stopped (trap_at line kind) s

-- whether a condition holds; one without a value doesn't
abbrev pub is_met : Answer Bool → Bool
is_met (Ok met) = met
is_met (Err kind) = false

-- whether all `where` lines hold
abbrev pub all_met : Own → List Cond → Bool
all_met own wheres = list_all (λ c. is_met (condition own c)) wheres

-- one thing after another for each number, up to a trap
abbrev pub over : {X : Type 0} → List X → (X → State → Outcome) → State → Outcome
over [] turn s = Went s
over (x ∷ xs) turn s = after (turn x s) (over xs turn)

-- a state with this part of the worker's changed
abbrev pub on_own : (Own → Own) → State → State
on_own f s = with_own s (f s.own)

-- a state, its worker's part changed behind what went before
abbrev pub then_own : Outcome → (Own → Own) → Outcome
then_own outcome f = after outcome (λ s. Went (on_own f s))

-- the numbers of an index's segments
abbrev pub segments_over : Setting → (index : ℕ) → List ℕ
segments_over g index = numbers_from (first_of g.spaces index) (count_of g.spaces index)

-- the numbers of a subindex's pieces in the segment that its super index has
abbrev pub pieces_over : Setting → Own → (sub index : ℕ) → List ℕ
pieces_over g own sub index = numbers_from 1 (pieces_of g.spaces sub (value_of own index))

-- the worker's part as one tuple of a pardo is taken up
abbrev pub taken_up : Setting → List ℕ → List ℕ → Own → Own
taken_up g indices tuple own = all_bound indices (onto_firsts g.spaces indices tuple) (unset g own)

-- the worker's part as a pardo is left: its indices aren't bound any longer
abbrev pub left : Setting → List ℕ → Own → Own
left g indices own = all_bound indices (map (λ i. 0) indices) (unset g own)

-- a body, left out where a `where` line fails
abbrev pub unless_left_out : Bool → (State → Outcome) → State → Outcome
unless_left_out true body s = body s
unless_left_out false body s = Went s

-- one tuple of a pardo that was taken up
abbrev pub iteration : List Cond → (State → Outcome) → State → Outcome
iteration wheres body s = unless_left_out (all_met s.own wheres) body s

abbrev mutual
  -- statements in order, where calls have a meaning
  pub block_meaning : Reading → Setting → (ℕ → State → Outcome) → Block → State → Outcome
  block_meaning reading g call End s = Went s
  block_meaning reading g call (Then line form rest) s = after (form_meaning reading g call line form s) (block_meaning reading g call rest)

  -- one statement, where calls have a meaning
  pub form_meaning : Reading → Setting → (ℕ → State → Outcome) → (line : ℕ) → Plain → State → Outcome
  form_meaning reading g call line (Do index body) s =
      then_own (over (segments_over g index) (λ k t. block_meaning reading g call body (on_own (bound index k) t)) s) (bound index 0)
  form_meaning reading g call line (DoIn sub index body) s =
      then_own (over (pieces_over g s.own sub index) (λ k t. block_meaning reading g call body (on_own (bound sub k) t)) s) (bound sub 0)
  form_meaning reading g call line (Pardo indices wheres body) s =
      then_own
      (over (tuples (box_of g.spaces indices)) (λ tuple t. iteration wheres (block_meaning reading g call body) (on_own (taken_up g indices tuple) t)) (on_own (unset g) s))
      (left g indices)
  form_meaning reading g call line (If test body) s = chosen line (condition s.own test) (block_meaning reading g call body) Went s
  form_meaning reading g call line (IfElse test body other) s = chosen line (condition s.own test) (block_meaning reading g call body) (block_meaning reading g call other) s
  form_meaning reading g call line (Call procedure) s = call procedure s
  form_meaning reading g call line form s = statement reading g line form s

-- a procedure that may call so deep: its body with no index bound, and then the caller's indices bound again
abbrev pub calls : Reading → Setting → (depth : ℕ) → (procedure : ℕ) → State → Outcome
calls reading g zero procedure s = Went s
calls reading g (suc depth) procedure s =
    then_own (block_meaning reading g (calls reading g depth) (procedure_body g procedure) (on_own none_bound s)) (with_values s.own.values)

-- how deep procedures may call
abbrev pub call_depth : ℕ
call_depth = 16

-- the meaning of a program from its start, as reads see the shared blocks
abbrev pub meaning : Reading → Setting → Outcome
meaning reading g = block_meaning reading g (calls reading g call_depth) g.program.body (start_state g)

-- the sequential meaning
abbrev pub sequential : Setting → Outcome
sequential g = meaning Present g

-- the epoch meaning: reads see the blocks as they stood when the epoch began
abbrev pub by_epochs : Setting → Outcome
by_epochs g = meaning Copied g
