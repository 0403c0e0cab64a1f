-- Proper trees: within the limits, with names that are names, numbers below 2^64 and numbers of things that are there.
use Rattle.std.specs.Prelude.{ℕ, ◌+◌, List, Bool, true, false, ◌&&◌, nat_le, nat_lt, length, max, sum_by, ◌≤◌, IsTrue}
use Rattle.std.specs.List.{list_all, enumerate_from}
use Rattle.sial_syntax.specs.declared.access.Access.{Access}
use Rattle.sial_syntax.specs.declared.access.Access.TheVariants.{Read, Add, Max, Store}
use Rattle.sial_syntax.specs.declared.array.ArrayDecl.{ArrayDecl}
use Rattle.sial_syntax.specs.declared.condition.Cond.{Cond}
use Rattle.sial_syntax.specs.declared.condition.Value.{Value}
use Rattle.sial_syntax.specs.declared.condition.Value.TheVariants as value
use Rattle.sial_syntax.specs.declared.index.Bound.{Bound}
use Rattle.sial_syntax.specs.declared.index.Bound.TheVariants.{Number, Named}
use Rattle.sial_syntax.specs.declared.index.IndexDecl.{IndexDecl}
use Rattle.sial_syntax.specs.declared.index.Range.{Range}
use Rattle.sial_syntax.specs.declared.index.Range.TheVariants.{Segments, Sub}
use Rattle.sial_syntax.specs.declared.operand.BlockRef.{BlockRef}
use Rattle.sial_syntax.specs.declared.operand.Operand.{Operand}
use Rattle.sial_syntax.specs.declared.operand.Operand.TheVariants as operand
use Rattle.sial_syntax.specs.declared.operand.Right.{Right}
use Rattle.sial_syntax.specs.declared.operand.Right.TheVariants.{One, Two}
use Rattle.sial_syntax.specs.declared.operand.Slot.{Slot}
use Rattle.sial_syntax.specs.declared.operand.Slot.TheVariants.{At, All}
use Rattle.sial_syntax.specs.declared.operand.Target.{Target}
use Rattle.sial_syntax.specs.declared.operand.Target.TheVariants as target
use Rattle.sial_syntax.specs.Limits.{past_numbers, past_lines, most_statements, most_names, most_nesting, most_rank, most_pardo}
use Rattle.sial_syntax.specs.Names.{is_name, is_text}
use Rattle.sial_syntax.specs.Numbering.{statements}
use Rattle.sial_syntax.specs.Parts.{numbers_named}
use Rattle.sial_syntax.specs.Tree.{Tree, Procedure, Block, End, Then, Plain, Do, DoIn, Pardo, If, IfElse, Call, Assign, Get, Request, Put, Prepare, Create, Delete, Allocate, Deallocate, Collective, SipBarrier, ServerBarrier, Print, PrintScalar, Integrals}
use Rattle.sial_syntax.specs.Visits.{Visit, all_visits}

-- whether a tree has an index of this number
abbrev pub has_index : Tree → ℕ → Bool
has_index p index = nat_lt index (length p.indices)

-- whether a tree has an array of this number
abbrev pub has_array : Tree → ℕ → Bool
has_array p array = nat_lt array (length p.arrays)

-- whether a tree has a scalar of this number
abbrev pub has_scalar : Tree → ℕ → Bool
has_scalar p scalar = nat_lt scalar (length p.scalars)

-- whether a tree has a procedure of this number
abbrev pub has_procedure : Tree → ℕ → Bool
has_procedure p procedure = nat_lt procedure (length p.procedures)

-- whether a list has at least one and at most so many entries
abbrev pub has_length : {X : Type 0} → (most : ℕ) → List X → Bool
has_length most xs = nat_le 1 (length xs) && nat_le (length xs) most

-- whether a block's array and indices are there
abbrev pub proper_block : Tree → BlockRef → Bool
proper_block p block = has_array p block.array && (has_length most_rank block.at && list_all (has_index p) block.at)

-- whether an operand's parts are there
abbrev pub proper_operand : Tree → Operand → Bool
proper_operand p (operand.Number n) = true
proper_operand p (operand.Scalar s) = has_scalar p s
proper_operand p (operand.Block b) = proper_block p b

-- whether a right side's parts are there
abbrev pub proper_right : Tree → Right → Bool
proper_right p (One a) = proper_operand p a
proper_right p (Two a bin b) = proper_operand p a && proper_operand p b

-- whether a target's parts are there
abbrev pub proper_target : Tree → Target → Bool
proper_target p (target.Scalar s) = has_scalar p s
proper_target p (target.Block b) = proper_block p b

-- whether a value's parts are there
abbrev pub proper_value : Tree → Value → Bool
proper_value p (value.Number n) = true
proper_value p (value.Scalar s) = has_scalar p s
proper_value p (value.Index i) = has_index p i

-- whether a condition's parts are there
abbrev pub proper_cond : Tree → Cond → Bool
proper_cond p cond = proper_value p cond.left && proper_value p cond.right

-- whether a slot's index is there
abbrev pub proper_slot : Tree → Slot → Bool
proper_slot p (At index) = has_index p index
proper_slot p All = true

-- whether an access writes
abbrev pub is_write : Access → Bool
is_write Read = false
is_write Add = true
is_write Max = true
is_write Store = true

abbrev mutual
  -- whether a statement's parts are there
  pub proper_form : Tree → Plain → Bool
  proper_form p (Do index body) = has_index p index && proper_body p body
  proper_form p (DoIn sub index body) = has_index p sub && (has_index p index && proper_body p body)
  proper_form p (Pardo indices wheres body) = has_length most_pardo indices && (list_all (has_index p) indices && (list_all (proper_cond p) wheres && proper_body p body))
  proper_form p (If cond body) = proper_cond p cond && proper_body p body
  proper_form p (IfElse cond body other) = proper_cond p cond && (proper_body p body && proper_body p other)
  proper_form p (Call procedure) = has_procedure p procedure
  proper_form p (Assign target op right) = proper_target p target && proper_right p right
  proper_form p (Get block) = proper_block p block
  proper_form p (Request block) = proper_block p block
  proper_form p (Put block how from) = proper_block p block && (is_write how && proper_block p from)
  proper_form p (Prepare block how from) = proper_block p block && (is_write how && proper_block p from)
  proper_form p (Create array) = has_array p array
  proper_form p (Delete array) = has_array p array
  proper_form p (Allocate array at) = has_array p array && (has_length most_rank at && list_all (proper_slot p) at)
  proper_form p (Deallocate array at) = has_array p array && (has_length most_rank at && list_all (proper_slot p) at)
  proper_form p (Collective into from) = has_scalar p into && has_scalar p from
  proper_form p SipBarrier = true
  proper_form p ServerBarrier = true
  proper_form p (Print text) = is_text text
  proper_form p (PrintScalar scalar) = has_scalar p scalar
  proper_form p (Integrals block) = proper_block p block

  -- whether the parts of all statements are there
  pub proper_body : Tree → Block → Bool
  proper_body p End = true
  proper_body p (Then line form rest) = proper_form p form && proper_body p rest

abbrev mutual
  -- how many `do`, `pardo` and `if` stand within each other in a statement
  pub nesting : Plain → ℕ
  nesting (Do index body) = 1 + body_nesting body
  nesting (DoIn sub index body) = 1 + body_nesting body
  nesting (Pardo indices wheres body) = 1 + body_nesting body
  nesting (If cond body) = 1 + body_nesting body
  nesting (IfElse cond body other) = 1 + max (body_nesting body) (body_nesting other)
  nesting _ = 0

  -- how many stand within each other in a body
  pub body_nesting : Block → ℕ
  body_nesting End = 0
  body_nesting (Then line form rest) = max (nesting form) (body_nesting rest)

-- whether something is a number: below 2^64
abbrev pub is_number : ℕ → Bool
is_number n = nat_lt n past_numbers

-- whether something is the number of a text line: below 2^32
abbrev pub is_line : ℕ → Bool
is_line line = nat_lt line past_lines

-- whether the line of a statement is one, and the numbers that it writes out are numbers
abbrev pub proper_numbers : Visit → Bool
proper_numbers v = is_line v.line && list_all is_number (numbers_named v.form)

-- whether a bound is a number, or names a constant properly
abbrev pub proper_bound : Bound → Bool
proper_bound (Number n) = is_number n
proper_bound (Named name) = is_name name

-- whether an index's range is proper; a subindex's super index stands before it
abbrev pub proper_range : (place : ℕ) → Range → Bool
proper_range place (Segments kind lo hi) = proper_bound lo && proper_bound hi
proper_range place (Sub super) = nat_lt super place

-- whether a declared index is proper at its place
abbrev pub proper_index : ℕ × IndexDecl → Bool
proper_index x = is_name x.1.name && (is_line x.1.line && proper_range x.0 x.1.range)

-- whether a declared array is proper
abbrev pub proper_array : Tree → ArrayDecl → Bool
proper_array p array = is_name array.name && (is_line array.line && (has_length most_rank array.dims && list_all (has_index p) array.dims))

-- whether a body is proper and not too deep
abbrev pub proper_depth : Tree → Block → Bool
proper_depth p body = proper_body p body && nat_le (body_nesting body) most_nesting

-- whether a procedure is proper
abbrev pub proper_procedure : Tree → Procedure → Bool
proper_procedure p procedure = is_name procedure.name && proper_depth p procedure.body

-- how many statements a program has
abbrev pub all_statements : Tree → ℕ
all_statements p = statements p.body + sum_by (λ (q : Procedure). statements q.body) p.procedures

-- a proper tree
pub record IsProper (p : Tree) : Type 0 where
  pub name : IsTrue (is_name p.name)
  pub indices : IsTrue (list_all proper_index (enumerate_from 0 p.indices))
  pub arrays : IsTrue (list_all (proper_array p) p.arrays)
  pub scalars : IsTrue (list_all is_name p.scalars)
  pub procedures : IsTrue (list_all (proper_procedure p) p.procedures)
  pub body : IsTrue (proper_depth p p.body)
  pub numbers : IsTrue (list_all proper_numbers (all_visits p))
  pub few_indices : length p.indices ≤ most_names
  pub few_arrays : length p.arrays ≤ most_names
  pub few_scalars : length p.scalars ≤ most_names
  pub few_procedures : length p.procedures ≤ most_names
  pub few_statements : all_statements p ≤ most_statements
