-- What holds of each read, write and addition holds of each deed of an iteration before its end; and no deed before the end is a trap.
use Rattle.std.proofs.Common.{◌≡◌, ℕ, zero, suc, List, [], ◌∷◌, ◌++◌, Bool, true, false, if◌then◌else◌, Option, Some, None, Ok, Err, slice_index_or, refl}
use Rattle.sial_syntax.specs.declared.access.Access.{Access}
use Rattle.sial_syntax.specs.declared.access.Access.TheVariants.{Read}
use Rattle.sial_syntax.specs.declared.classes.ScalarClass.{ScalarClass}
use Rattle.sial_syntax.specs.declared.classes.ScalarClass.TheVariants.{Replicated, Private, Partial}
use Rattle.sial_syntax.specs.declared.condition.Cond.{Cond}
use Rattle.sial_syntax.specs.declared.operand.BlockRef.{BlockRef}
use Rattle.sial_syntax.specs.declared.operand.Target.TheVariants as target
use Rattle.sial_syntax.specs.Sides.{accumulates}
use Rattle.sial_syntax.specs.Tree.{Block, End, Then, Plain, Do, DoIn, Pardo, If, IfElse, Call, Assign, Get, Request, Put, Prepare}
use Rattle.sial_meaning.specs.declared.trap.TrapKind.{TrapKind}
use Rattle.sial_meaning.specs.Deeds.{Deed, Reads, Writes, Adds, Traps, traps}
use Rattle.sial_meaning.specs.LocalStep.{Done, Answer, words_of, local_step}
use Rattle.sial_meaning.specs.Meaning.{condition, all_met, segments_over, pieces_over}
use Rattle.sial_meaning.specs.Own.{Own, bound, none_bound, with_values}
use Rattle.sial_meaning.specs.Ran.{View, Ran, Through, Broke, behind, and_so, ran_over, ran_by, touch_of, reads_done, values_seen, no_partials, added_to, additions, local_ran, put_ran, effect_ran, unless_broken, statement_ran, block_ran, form_ran, calls_ran, ran_unless_left_out, iteration_ran}
use Rattle.sial_meaning.specs.Setting.{Setting, procedure_body, scalar_class}
use Rattle.sial_meaning.specs.Statement.{Named, named, reads_of, created_trap}

-- something holds of each of some deeds
abbrev pub Each : (Deed → Type 0) → List Deed → Type 0
Each P [] = Unit {0}
Each P (d ∷ ds) = P d × Each P ds

-- of some and of others
pub each_append : (P : Deed → Type 0) (a b : List Deed) → Each P a → Each P b → Each P (a ++ b)
each_append P [] b e f = f
each_append P (d ∷ ds) b e f = (e.0, each_append P ds b e.1 f)

-- of each deed before the end
abbrev pub EachBefore : (Deed → Type 0) → Ran → Type 0
EachBefore P (Through before own) = Each P before
EachBefore P (Broke before trap own) = Each P before

module _ (g : Setting) (v : View) (P : Deed → Type 0) (reads : (place : Named) (line : ℕ) → P (Reads (touch_of v place Read line))) (adds : (scalar n : ℕ) → P (Adds scalar n)) where
  -- what was done behind other deeds
  pub each_behind : (first : List Deed) (x : Ran) → Each P first → EachBefore P x → EachBefore P (behind first x)
  each_behind first (Through before own) e f = each_append P first before e f
  each_behind first (Broke before trap own) e f = each_append P first before e f

  -- one thing after another
  each_then : (x : Ran) (next : Own → Ran) → EachBefore P x → ((own : Own) → EachBefore P (next own)) → EachBefore P (and_so x next)
  each_then (Through before own) next e h = each_behind before (next own) e (h own)
  each_then (Broke before trap own) next e h = e

  -- one thing after another for each number
  each_over : {X : Type 0} (xs : List X) (turn : X → Own → Ran) → ((x : X) (own : Own) → EachBefore P (turn x own)) → (own : Own) → EachBefore P (ran_over xs turn own)
  each_over [] turn h own = tt
  each_over (x ∷ xs) turn h own = each_then (turn x own) (ran_over xs turn) (h x own) (each_over xs turn h)

  -- one of two ways
  each_by : (line : ℕ) (answer : Answer Bool) (met unmet : Own → Ran) (own : Own) → EachBefore P (met own) → EachBefore P (unmet own) → EachBefore P (ran_by line answer met unmet own)
  each_by line (Ok true) met unmet own a b = a
  each_by line (Ok false) met unmet own a b = b
  each_by line (Err kind) met unmet own a b = tt

  -- reads
  pub each_read : (line : ℕ) (own : Own) (blocks : List BlockRef) → Each P (reads_done g v line own blocks)
  each_read line own [] = tt
  each_read line own (b ∷ bs) = (reads (named g own b) line, each_read line own bs)

  -- an addition
  each_added : (b : Bool) (class : ScalarClass) (scalar n : ℕ) → Each P (if b then added_to class scalar n else [])
  each_added true Replicated scalar n = tt
  each_added true Private scalar n = tt
  each_added true Partial scalar n = (adds scalar n, tt)
  each_added false class scalar n = tt

  -- the additions of a statement
  each_addition : (form : Plain) (partials : List ℕ) → Each P (additions g form partials)
  each_addition (Assign (target.Scalar s) op right) partials = each_added (accumulates op) (scalar_class g s) s (slice_index_or partials s 0)
  each_addition form partials = tt

  -- a local statement
  pub each_local : (line : ℕ) (form : Plain) (before : List Deed) (own : Own) (answer : Answer Done) → Each P before → EachBefore P (local_ran g line form before own answer)
  each_local line form before own (Ok done) e = each_append P before (additions g form done.partials) e (each_addition form done.partials)
  each_local line form before own (Err kind) e = e

  module _ (writes : (place : Named) (how : Access) (line : ℕ) (words : List ℕ) → P (Writes (touch_of v place how line) words)) where
    -- a write
    each_put : (line : ℕ) (place : Named) (how : Access) (own : Own) (answer : Answer (List ℕ)) → EachBefore P (put_ran line (touch_of v place how line) own answer)
    each_put line place how own (Ok words) = (writes place how line words, tt)
    each_put line place how own (Err kind) = tt

    -- the effect of a statement
    each_effect : (line : ℕ) (form : Plain) (own : Own) → EachBefore P (effect_ran g v line form own)
    each_effect line (Get block) own = each_read line own (block ∷ [])
    each_effect line (Request block) own = each_read line own (block ∷ [])
    each_effect line (Put block how from) own = each_put line (named g own block) how own (words_of g own from [])
    each_effect line (Prepare block how from) own = each_put line (named g own block) how own (words_of g own from [])
    each_effect line form own =
        each_local
        line
        form
        (reads_done g v line own (reads_of g form))
        own
        (local_step g form (values_seen g v own (reads_of g form)) own (no_partials g))
        (each_read line own (reads_of g form))

    -- a statement, unless its created flags trap
    each_unless : (line : ℕ) (own : Own) (trap : Option TrapKind) (next : Own → Ran) → EachBefore P (next own) → EachBefore P (unless_broken line own trap next)
    each_unless line own None next e = e
    each_unless line own (Some kind) next e = tt

    -- a statement
    pub each_statement : (line : ℕ) (form : Plain) (own : Own) → EachBefore P (statement_ran g v line form own)
    each_statement line form own = each_unless line own (created_trap g form own) (effect_ran g v line form) (each_effect line form own)

    module _ (call : ℕ → Own → Ran) (calls_each : (q : ℕ) (own : Own) → EachBefore P (call q own)) where
      mutual
        -- statements
        each_block : (body : Block) (own : Own) → EachBefore P (block_ran g v call body own)
        each_block End own = tt
        each_block (Then line form rest) own = each_then (form_ran g v call line form own) (block_ran g v call rest) (each_form line form own) (each_block rest)

        -- each of them
        each_form : (line : ℕ) (form : Plain) (own : Own) → EachBefore P (form_ran g v call line form own)
        each_form line (Do index body) own =
            each_then
            (ran_over (segments_over g index) (λ k o. block_ran g v call body (bound index k o)) own)
            (λ o. Through [] (bound index 0 o))
            (each_over (segments_over g index) (λ k o. block_ran g v call body (bound index k o)) (λ k o. each_block body (bound index k o)) own)
            (λ o. tt)
        each_form line (DoIn sub index body) own =
            each_then
            (ran_over (pieces_over g own sub index) (λ k o. block_ran g v call body (bound sub k o)) own)
            (λ o. Through [] (bound sub 0 o))
            (each_over (pieces_over g own sub index) (λ k o. block_ran g v call body (bound sub k o)) (λ k o. each_block body (bound sub k o)) own)
            (λ o. tt)
        each_form line (Pardo indices wheres body) own = tt
        each_form line (If test body) own = each_by line (condition own test) (block_ran g v call body) (Through []) own (each_block body own) tt
        each_form line (IfElse test body other) own = each_by line (condition own test) (block_ran g v call body) (block_ran g v call other) own (each_block body own) (each_block other own)
        each_form line (Call procedure) own = calls_each procedure own
        each_form line form own = each_statement line form own

    -- procedures
    each_call : (depth q : ℕ) (own : Own) → EachBefore P (calls_ran g v depth q own)
    each_call zero q own = tt
    each_call (suc depth) q own =
        each_then
        (block_ran g v (calls_ran g v depth) (procedure_body g q) (none_bound own))
        (λ o. Through [] (with_values own.values o))
        (each_block (calls_ran g v depth) (each_call depth) (procedure_body g q) (none_bound own))
        (λ o. tt)

    -- a body that may be left out
    each_left_out : (met : Bool) (body : Own → Ran) (own : Own) → EachBefore P (body own) → EachBefore P (ran_unless_left_out met body own)
    each_left_out true body own e = e
    each_left_out false body own e = tt

    -- iterations
    pub each_iteration : (depth : ℕ) (wheres : List Cond) (body : Block) (own : Own) → EachBefore P (iteration_ran g v depth wheres body own)
    each_iteration depth wheres body own =
        each_left_out (all_met own wheres) (block_ran g v (calls_ran g v depth) body) own (each_block (calls_ran g v depth) (each_call depth) body own)

-- no trap is among the deeds before the end
abbrev pub Clear : Ran → Type 0
Clear (Through before own) = traps before ≡ []
Clear (Broke before trap own) = traps before ≡ []

-- whether a deed is no trap
abbrev IsNoTrap : Deed → Type 0
IsNoTrap d = traps (d ∷ []) ≡ []

-- deeds that are no traps
none_traps : (ds : List Deed) → Each IsNoTrap ds → traps ds ≡ []
none_traps [] e = refl
none_traps (Reads t ∷ ds) e = none_traps ds e.1
none_traps (Writes t words ∷ ds) e = none_traps ds e.1
none_traps (Adds s n ∷ ds) e = none_traps ds e.1
none_traps (Traps t ∷ ds) e = absurd cc

-- none before the end
clear_by : (x : Ran) → EachBefore IsNoTrap x → Clear x
clear_by (Through before own) e = none_traps before e
clear_by (Broke before trap own) e = none_traps before e

-- a statement
pub clear_statement : (g : Setting) (v : View) (line : ℕ) (form : Plain) (own : Own) → Clear (statement_ran g v line form own)
clear_statement g v line form own = clear_by (statement_ran g v line form own) (each_statement g v IsNoTrap (λ p l. refl) (λ s n. refl) (λ p h l w. refl) line form own)

-- iterations
pub clear_iteration : (g : Setting) (v : View) (depth : ℕ) (wheres : List Cond) (body : Block) (own : Own) → Clear (iteration_ran g v depth wheres body own)
clear_iteration g v depth wheres body own =
    clear_by (iteration_ran g v depth wheres body own) (each_iteration g v IsNoTrap (λ p l. refl) (λ s n. refl) (λ p h l w. refl) depth wheres body own)
