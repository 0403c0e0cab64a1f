-- The deeds of an iteration: a fold over its body, from what the worker holds, the copies and the epochs alone.
use Rattle.std.specs.Prelude.{ℕ, zero, suc, List, [], ◌∷◌, ◌++◌, map, Bool, true, false, Option, Some, None, Ok, Err, replicate, length, slice_index_or, if◌then◌else◌}
use Rattle.sial_syntax.specs.declared.access.Access.{Access}
use Rattle.sial_syntax.specs.declared.access.Access.TheVariants.{Read}
use Rattle.sial_syntax.specs.declared.classes.ScalarClass.{ScalarClass}
use Rattle.sial_syntax.specs.declared.classes.ScalarClass.TheVariants.{Replicated, Private, Partial}
use Rattle.sial_syntax.specs.declared.condition.Cond.{Cond}
use Rattle.sial_syntax.specs.declared.operand.BlockRef.{BlockRef}
use Rattle.sial_syntax.specs.declared.operand.Target.TheVariants as target
use Rattle.sial_syntax.specs.Sides.{accumulates}
use Rattle.sial_syntax.specs.Tree.{Block, End, Then, Plain, Do, DoIn, Pardo, If, IfElse, Call, Assign, Get, Request, Put, Prepare}
use Rattle.sial_meaning.specs.declared.trap.Trap.{Trap}
use Rattle.sial_meaning.specs.declared.trap.TrapKind.{TrapKind}
use Rattle.sial_meaning.specs.Access.{Touch}
use Rattle.sial_meaning.specs.Deeds.{Deed, Reads, Writes, Adds, Traps, applied}
use Rattle.sial_meaning.specs.LocalStep.{Done, Answer, words_of, local_step}
use Rattle.sial_meaning.specs.Meaning.{condition, all_met, segments_over, pieces_over}
use Rattle.sial_meaning.specs.Own.{Own, bound, none_bound, with_values}
use Rattle.sial_meaning.specs.Setting.{Setting, procedure_body, scalar_class}
use Rattle.sial_meaning.specs.State.{Shared, Epochs, State, epoch_of, shared_block}
use Rattle.sial_meaning.specs.Statement.{Outcome, Went, Stopped, Named, named, reads_of, created_trap, trap_at}

-- what an iteration sees of the world outside
pub record View : Type 0 where
  pub copies : Shared
  pub epochs : Epochs

-- what an iteration sees in a state
abbrev pub view_of : State → View
view_of s = record { copies = s.copies; epochs = s.epochs }

-- where statements of an iteration lead, and what they did before: on, with what the worker then holds, or to a trap, with what it held
pub data Ran : Type 0 where
  Through : (before : List Deed) → Own → Ran
  Broke : (before : List Deed) → Trap → Own → Ran

-- all deeds, the trap as the last
abbrev pub deeds_of : Ran → List Deed
deeds_of (Through before own) = before
deeds_of (Broke before trap own) = before ++ Traps trap ∷ []

-- the outcome in a state
abbrev pub outcome_in : State → Ran → Outcome
outcome_in s (Through before own) = Went (record (applied before s) { own = own })
outcome_in s (Broke before trap own) = Stopped trap (record (applied before s) { own = own })

-- what was done behind other deeds
abbrev pub behind : List Deed → Ran → Ran
behind first (Through before own) = Through (first ++ before) own
behind first (Broke before trap own) = Broke (first ++ before) trap own

-- one thing, and then another where no trap came
abbrev pub and_so : Ran → (Own → Ran) → Ran
and_so (Through before own) next = behind before (next own)
and_so (Broke before trap own) next = Broke before trap own

-- one thing after another for each number, up to a trap
abbrev pub ran_over : {X : Type 0} → List X → (X → Own → Ran) → Own → Ran
ran_over [] turn own = Through [] own
ran_over (x ∷ xs) turn own = and_so (turn x own) (ran_over xs turn)

-- what the worker holds changed behind what went before
abbrev pub ran_then : Ran → (Own → Own) → Ran
ran_then ran f = and_so ran (λ own. Through [] (f own))

-- one of two ways, or the trap of the condition
abbrev pub ran_by : (line : ℕ) → Answer Bool → (met unmet : Own → Ran) → Own → Ran
ran_by line (Ok true) met unmet own = met own
ran_by line (Ok false) met unmet own = unmet own
ran_by line (Err kind) met unmet own = Broke [] (trap_at line kind) own

-- an access to a shared block, in the present epoch of its class
abbrev pub touch_of : View → Named → Access → (line : ℕ) → Touch
touch_of view place kind line = record { class = place.class; epoch = epoch_of view.epochs place.class; block = place.block; kind = kind; line = line }

-- the reads of shared blocks, in order
abbrev pub reads_done : Setting → View → (line : ℕ) → Own → List BlockRef → List Deed
reads_done g view line own blocks = map (λ b. Reads (touch_of view (named g own b) Read line)) blocks

-- the values of shared blocks, in order: those of the copies
abbrev pub values_seen : Setting → View → Own → List BlockRef → List (List ℕ)
values_seen g view own blocks = map (λ b. shared_block view.copies (named g own b).class (named g own b).block) blocks

-- partial scalars that are all 0
abbrev pub no_partials : Setting → List ℕ
no_partials g = replicate (length g.program.scalars) 0

-- a number added to a scalar of this class
abbrev pub added_to : ScalarClass → (scalar number : ℕ) → List Deed
added_to Replicated scalar number = []
added_to Private scalar number = []
added_to Partial scalar number = Adds scalar number ∷ []

-- what an assignment that only adds or subtracts adds to a partial scalar: what it made of 0
abbrev pub additions : Setting → Plain → (partials : List ℕ) → List Deed
additions g (Assign (target.Scalar s) op right) partials = if accumulates op then added_to (scalar_class g s) s (slice_index_or partials s 0) else []
additions g form partials = []

-- a local statement behind its reads
abbrev pub local_ran : Setting → (line : ℕ) → Plain → (before : List Deed) → Own → Answer Done → Ran
local_ran g line form before own (Ok done) = Through (before ++ additions g form done.partials) done.own
local_ran g line form before own (Err kind) = Broke before (trap_at line kind) own

-- `put` and `prepare`
abbrev pub put_ran : (line : ℕ) → Touch → Own → Answer (List ℕ) → Ran
put_ran line touch own (Ok words) = Through (Writes touch words ∷ []) own
put_ran line touch own (Err kind) = Broke [] (trap_at line kind) own

-- a statement whose created flags are as it wants them
abbrev pub effect_ran : Setting → View → (line : ℕ) → Plain → Own → Ran
effect_ran g view line (Get block) own = Through (reads_done g view line own (block ∷ [])) own
effect_ran g view line (Request block) own = Through (reads_done g view line own (block ∷ [])) own
effect_ran g view line (Put block how from) own = put_ran line (touch_of view (named g own block) how line) own (words_of g own from [])
effect_ran g view line (Prepare block how from) own = put_ran line (touch_of view (named g own block) how line) own (words_of g own from [])
effect_ran g view line form own =
    local_ran g line form (reads_done g view line own (reads_of g form)) own (local_step g form (values_seen g view own (reads_of g form)) own (no_partials g))

-- the trap of the created flags, or what follows
abbrev pub unless_broken : (line : ℕ) → Own → Option TrapKind → (Own → Ran) → Ran
unless_broken line own None next = next own
unless_broken line own (Some kind) next = Broke [] (trap_at line kind) own

-- a statement that holds no other
abbrev pub statement_ran : Setting → View → (line : ℕ) → Plain → Own → Ran
statement_ran g view line form own = unless_broken line own (created_trap g form own) (effect_ran g view line form)

abbrev mutual
  -- statements in order, where calls are as given
  pub block_ran : Setting → View → (ℕ → Own → Ran) → Block → Own → Ran
  block_ran g view call End own = Through [] own
  block_ran g view call (Then line form rest) own = and_so (form_ran g view call line form own) (block_ran g view call rest)

  -- one statement, where calls are as given; no pardo stands within one
  pub form_ran : Setting → View → (ℕ → Own → Ran) → (line : ℕ) → Plain → Own → Ran
  form_ran g view call line (Do index body) own = ran_then (ran_over (segments_over g index) (λ k o. block_ran g view call body (bound index k o)) own) (bound index 0)
  form_ran g view call line (DoIn sub index body) own = ran_then (ran_over (pieces_over g own sub index) (λ k o. block_ran g view call body (bound sub k o)) own) (bound sub 0)
  form_ran g view call line (Pardo indices wheres body) own = Through [] own
  form_ran g view call line (If test body) own = ran_by line (condition own test) (block_ran g view call body) (Through []) own
  form_ran g view call line (IfElse test body other) own = ran_by line (condition own test) (block_ran g view call body) (block_ran g view call other) own
  form_ran g view call line (Call procedure) own = call procedure own
  form_ran g view call line form own = statement_ran g view line form own

-- a procedure that may call so deep
abbrev pub calls_ran : Setting → View → (depth : ℕ) → (procedure : ℕ) → Own → Ran
calls_ran g view zero procedure own = Through [] own
calls_ran g view (suc depth) procedure own = ran_then (block_ran g view (calls_ran g view depth) (procedure_body g procedure) (none_bound own)) (with_values own.values)

-- a body, left out where a `where` line fails
abbrev pub ran_unless_left_out : Bool → (Own → Ran) → Own → Ran
ran_unless_left_out true body own = body own
ran_unless_left_out false body own = Through [] own

-- an iteration of a pardo, from what the worker holds as its tuple is taken up, where procedures may call so deep
abbrev pub iteration_ran : Setting → View → (depth : ℕ) → (wheres : List Cond) → Block → Own → Ran
iteration_ran g view depth wheres body own = ran_unless_left_out (all_met own wheres) (block_ran g view (calls_ran g view depth) body) own
