-- An iteration leaves the created flags.
use Rattle.std.proofs.Common.{◌≡◌, ℕ, zero, suc, List, [], ◌∷◌, Bool, true, false, Option, Some, None, Ok, Err, refl, ap, ◌∙◌}
use Rattle.sial_syntax.specs.declared.condition.Cond.{Cond}
use Rattle.sial_syntax.specs.Tree.{Block, End, Then, Plain, Do, DoIn, Pardo, If, IfElse, Call, Get, Request, Put, Prepare}
use Rattle.sial_meaning.specs.declared.trap.TrapKind.{TrapKind}
use Rattle.sial_meaning.specs.Access.{Touch}
use Rattle.sial_meaning.specs.Deeds.{Deed}
use Rattle.sial_meaning.specs.LocalStep.{Done, Answer, words_of, local_step}
use Rattle.sial_meaning.specs.Meaning.{condition, all_met, segments_over, pieces_over}
use Rattle.sial_meaning.specs.Own.{Own, bound, all_bound, none_bound, with_values}
use Rattle.sial_meaning.specs.Ran.{View, Ran, Through, Broke, behind, and_so, ran_over, ran_by, touch_of, reads_done, values_seen, no_partials, local_ran, put_ran, effect_ran, unless_broken, statement_ran, block_ran, form_ran, calls_ran, ran_unless_left_out, iteration_ran}
use Rattle.sial_meaning.specs.Setting.{Setting, procedure_body}
use Rattle.sial_meaning.specs.Statement.{named, reads_of, created_trap}
use Rattle.sial_meaning.proofs.StepsReachTheFold.KeptNumbers.{Frame, frame_of, AnswersWith, step_answers}

-- the flags are these
abbrev pub HasFlags : List Bool → Ran → Type 0
HasFlags flags (Through before own) = own.created ≡ flags
HasFlags flags (Broke before trap own) = own.created ≡ flags

module _ (flags : List Bool) where
  -- what was done behind other deeds
  flags_behind : (first : List Deed) (x : Ran) → HasFlags flags x → HasFlags flags (behind first x)
  flags_behind first (Through before own) e = e
  flags_behind first (Broke before trap own) e = e

  -- one thing after another
  flags_then : (x : Ran) (next : Own → Ran) → HasFlags flags x → ((own : Own) → own.created ≡ flags → HasFlags flags (next own)) → HasFlags flags (and_so x next)
  flags_then (Through before own) next e h = flags_behind before (next own) (h own e)
  flags_then (Broke before trap own) next e h = e

  -- one thing after another for each number
  flags_over : {X : Type 0} (xs : List X) (turn : X → Own → Ran) → ((x : X) (own : Own) → own.created ≡ flags → HasFlags flags (turn x own)) → (own : Own) → own.created ≡ flags → HasFlags flags (ran_over xs turn own)
  flags_over [] turn h own e = e
  flags_over (x ∷ xs) turn h own e = flags_then (turn x own) (ran_over xs turn) (h x own e) (flags_over xs turn h)

  -- one of two ways
  flags_by : (line : ℕ) (answer : Answer Bool) (met unmet : Own → Ran) (own : Own) → own.created ≡ flags → HasFlags flags (met own) → HasFlags flags (unmet own) → HasFlags flags (ran_by line answer met unmet own)
  flags_by line (Ok true) met unmet own e a b = a
  flags_by line (Ok false) met unmet own e a b = b
  flags_by line (Err kind) met unmet own e a b = e

  -- a local statement
  flags_local : (g : Setting) (line : ℕ) (form : Plain) (before : List Deed) (own : Own) (answer : Answer Done) → own.created ≡ flags → AnswersWith (frame_of own) answer → HasFlags flags (local_ran g line form before own answer)
  flags_local g line form before own (Ok done) e f = ap (λ (x : Frame). x.1) f ∙ e
  flags_local g line form before own (Err kind) e f = e

  -- a write
  flags_put : (line : ℕ) (touch : Touch) (own : Own) (answer : Answer (List ℕ)) → own.created ≡ flags → HasFlags flags (put_ran line touch own answer)
  flags_put line touch own (Ok words) e = e
  flags_put line touch own (Err kind) e = e

  -- the effect of a statement
  flags_effect : (g : Setting) (v : View) (line : ℕ) (form : Plain) (own : Own) → own.created ≡ flags → HasFlags flags (effect_ran g v line form own)
  flags_effect g v line (Get block) own e = e
  flags_effect g v line (Request block) own e = e
  flags_effect g v line (Put block how from) own e = flags_put line (touch_of v (named g own block) how line) own (words_of g own from []) e
  flags_effect g v line (Prepare block how from) own e = flags_put line (touch_of v (named g own block) how line) own (words_of g own from []) e
  flags_effect g v line form own e =
      flags_local
      g
      line
      form
      (reads_done g v line own (reads_of g form))
      own
      (local_step g form (values_seen g v own (reads_of g form)) own (no_partials g))
      e
      (step_answers g form (values_seen g v own (reads_of g form)) own (no_partials g))

  -- a statement, unless its created flags trap
  flags_unless : (line : ℕ) (own : Own) (trap : Option TrapKind) (next : Own → Ran) → own.created ≡ flags → HasFlags flags (next own) → HasFlags flags (unless_broken line own trap next)
  flags_unless line own None next e h = h
  flags_unless line own (Some kind) next e h = e

  module _ (g : Setting) (v : View) where
    -- a statement
    flags_statement : (line : ℕ) (form : Plain) (own : Own) → own.created ≡ flags → HasFlags flags (statement_ran g v line form own)
    flags_statement line form own e = flags_unless line own (created_trap g form own) (effect_ran g v line form) e (flags_effect g v line form own e)

    module _ (call : ℕ → Own → Ran) (calls_kept : (q : ℕ) (own : Own) → own.created ≡ flags → HasFlags flags (call q own)) where
      mutual
        -- statements
        flags_block : (body : Block) (own : Own) → own.created ≡ flags → HasFlags flags (block_ran g v call body own)
        flags_block End own e = e
        flags_block (Then line form rest) own e = flags_then (form_ran g v call line form own) (block_ran g v call rest) (flags_form line form own e) (flags_block rest)

        -- each of them
        flags_form : (line : ℕ) (form : Plain) (own : Own) → own.created ≡ flags → HasFlags flags (form_ran g v call line form own)
        flags_form line (Do index body) own e =
            flags_then
            (ran_over (segments_over g index) (λ k o. block_ran g v call body (bound index k o)) own)
            (λ o. Through [] (bound index 0 o))
            (flags_over (segments_over g index) (λ k o. block_ran g v call body (bound index k o)) (λ k o f. flags_block body (bound index k o) f) own e)
            (λ o f. f)
        flags_form line (DoIn sub index body) own e =
            flags_then
            (ran_over (pieces_over g own sub index) (λ k o. block_ran g v call body (bound sub k o)) own)
            (λ o. Through [] (bound sub 0 o))
            (flags_over (pieces_over g own sub index) (λ k o. block_ran g v call body (bound sub k o)) (λ k o f. flags_block body (bound sub k o) f) own e)
            (λ o f. f)
        flags_form line (Pardo indices wheres body) own e = e
        flags_form line (If test body) own e = flags_by line (condition own test) (block_ran g v call body) (Through []) own e (flags_block body own e) e
        flags_form line (IfElse test body other) own e = flags_by line (condition own test) (block_ran g v call body) (block_ran g v call other) own e (flags_block body own e) (flags_block other own e)
        flags_form line (Call procedure) own e = calls_kept procedure own e
        flags_form line form own e = flags_statement line form own e

    -- procedures
    flags_call : (depth q : ℕ) (own : Own) → own.created ≡ flags → HasFlags flags (calls_ran g v depth q own)
    flags_call zero q own e = e
    flags_call (suc depth) q own e =
        flags_then
        (block_ran g v (calls_ran g v depth) (procedure_body g q) (none_bound own))
        (λ o. Through [] (with_values own.values o))
        (flags_block (calls_ran g v depth) (flags_call depth) (procedure_body g q) (none_bound own) e)
        (λ o f. f)

    -- a body that may be left out
    flags_left_out : (met : Bool) (body : Own → Ran) (own : Own) → own.created ≡ flags → HasFlags flags (body own) → HasFlags flags (ran_unless_left_out met body own)
    flags_left_out true body own e h = h
    flags_left_out false body own e h = e

    -- iterations
    pub flags_iteration : (depth : ℕ) (wheres : List Cond) (body : Block) (own : Own) → own.created ≡ flags → HasFlags flags (iteration_ran g v depth wheres body own)
    flags_iteration depth wheres body own e =
        flags_left_out (all_met own wheres) (block_ran g v (calls_ran g v depth) body) own e (flags_block (calls_ran g v depth) (flags_call depth) body own e)

-- indices bound leave the created flags
pub flags_bound : (indices tuple : List ℕ) (own : Own) → (all_bound indices tuple own).created ≡ own.created
flags_bound [] tuple own = refl
flags_bound (i ∷ is) [] own = refl
flags_bound (i ∷ is) (n ∷ ns) own = flags_bound is ns (bound i n own)
