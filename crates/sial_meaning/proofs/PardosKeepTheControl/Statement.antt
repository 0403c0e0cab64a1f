-- A statement that may stand within a pardo keeps the control.
use Rattle.std.proofs.Common.{◌≡◌, ℕ, List, [], ◌∷◌, ◌++◌, Bool, true, false, not, ◌||◌, if◌then◌else◌, Option, Some, None, Ok, Err, refl, ap, ◌∙◌, inl, append-nil, IsTrue}
use Rattle.std.specs.List.{list_any}
use Rattle.std.proofs.lemmas.Bool.{or_parts}
use Rattle.sial_syntax.proofs.AmongLemmas.{Among}
use Rattle.sial_syntax.specs.declared.access.Access.{Access}
use Rattle.sial_syntax.specs.declared.access.Access.TheVariants.{Read}
use Rattle.sial_syntax.specs.declared.array.ArrayKind.{ArrayKind}
use Rattle.sial_syntax.specs.declared.array.ArrayKind.TheVariants.{Static, Temp, Local, Distributed, Served}
use Rattle.sial_syntax.specs.declared.classes.ScalarClass.{ScalarClass}
use Rattle.sial_syntax.specs.declared.classes.ScalarClass.TheVariants.{Replicated, Private, Partial}
use Rattle.sial_syntax.specs.declared.classes.Side.TheVariants.{Inner}
use Rattle.sial_syntax.specs.declared.operand.BlockRef.{BlockRef}
use Rattle.sial_syntax.specs.declared.operand.Op.{Op}
use Rattle.sial_syntax.specs.declared.operand.Target.TheVariants as target
use Rattle.sial_syntax.specs.Agreeing.{has_kind}
use Rattle.sial_syntax.specs.Parts.{scalars_written, arrays_named, slotted_array}
use Rattle.sial_syntax.specs.Proper.{proper_form}
use Rattle.sial_syntax.specs.Sides.{is_accumulation}
use Rattle.sial_syntax.specs.Spaces.{same_kind}
use Rattle.sial_syntax.specs.SideRules.{is_pardo, is_sync, is_print, arrays_written}
use Rattle.sial_syntax.specs.Tree.{Plain, Assign, Get, Request, Put, Prepare, Create, Delete, Allocate, Deallocate, Collective, SipBarrier, ServerBarrier, Print, PrintScalar, Integrals}
use Rattle.sial_meaning.specs.declared.trap.TrapKind.{TrapKind}
use Rattle.sial_meaning.specs.declared.trap.TrapKind.TheVariants.{UnsetScalar, LocalMissing, LocalTwice}
use Rattle.sial_meaning.specs.CourseLaws.{KeepsEpochs, KeepsControl, IsKept}
use Rattle.sial_meaning.specs.LocalStep.{Done, Answer, and_then, or_trap, quiet, scalar_assigned, scalar_value, to_scalar, needs_old, with_words, old_words, words_of, matched, is_allocated, integrals, to_block, side_read, all_allocated, all_deallocated, local_step}
use Rattle.sial_meaning.specs.Own.{Own, sight, with_local, scalar_of, number_of, members_of, unset}
use Rattle.sial_meaning.specs.Right.{Side, assigned, is_insertion}
use Rattle.sial_meaning.specs.Setting.{Setting, array_kind, scalar_class, side_of, zeros}
use Rattle.sial_meaning.specs.State.{State, logged}
use Rattle.sial_meaning.specs.Statement.{Outcome, Reading, Named, reads_of, reads_logged, values_of, local_done, put_done, named, created_trap, effect, unless_trapped, statement}
use Rattle.sial_meaning.proofs.PardosKeepTheControl.Changes.{unset_scalar, unset_temp, unset_local}

-- a statement that may stand within a pardo
pub record Calm (g : Setting) (form : Plain) : Type 0 where
  pub pardo : is_pardo form ≡ false
  pub sync : is_sync form ≡ false
  pub print : is_print form ≡ false
  pub static : list_any (has_kind g.program Static) (arrays_written form) ≡ false
  pub scalars : (scalar : ℕ) → Among scalar (scalars_written form) → scalar_class g scalar ≡ Replicated → ⊥
  pub locals : (array : ℕ) → Among array (arrays_named form) → array_kind g array ≡ Local → side_of g array ≡ Inner
  pub slots : (array : ℕ) → Among array (slotted_array form) → array_kind g array ≡ Local
  pub there : IsTrue (proper_form g.program form)
  pub partials : (scalar : ℕ) → Among scalar (scalars_written form) → scalar_class g scalar ≡ Partial → is_accumulation form ≡ true

-- nothing is changed
pub epochs_same : (s : State) → KeepsEpochs s s
epochs_same s = record { copies = refl; epochs = refl; lines = refl }

-- kept, and then kept again
pub epochs_then : (s t u : State) → KeepsEpochs s t → KeepsEpochs t u → KeepsEpochs s u
epochs_then s t u k l = record { copies = l.copies ∙ k.copies; epochs = l.epochs ∙ k.epochs; lines = l.lines ∙ k.lines }

-- nothing is changed
pub control_same : (g : Setting) (s : State) → KeepsControl g s s
control_same g s = record { own = refl; shown = epochs_same s }

-- kept, and then kept again
pub control_then : (g : Setting) (s t u : State) → KeepsControl g s t → KeepsControl g t u → KeepsControl g s u
control_then g s t u k l = record { own = l.own ∙ k.own; shown = epochs_then s t u k.shown l.shown }

-- an answer's worker is the same but for what a pardo unsets, and nothing was printed
abbrev AnswersKept : Setting → Own → Answer Done → Type 0
AnswersKept g own (Ok done) = (unset g done.own ≡ unset g own) × (done.printed ≡ [])
AnswersKept g own (Err kind) = Unit {0}

-- what follows an answer
answers_then : {X : Type 0} (g : Setting) (own : Own) (x : Answer X) (f : X → Answer Done) → ((y : X) → AnswersKept g own (f y)) → AnswersKept g own (and_then x f)
answers_then g own (Ok y) f h = h y
answers_then g own (Err kind) f h = tt

-- one of two answers
answers_if : (g : Setting) (own : Own) (b : Bool) (x y : Answer Done) → AnswersKept g own x → AnswersKept g own y → AnswersKept g own (if b then x else y)
answers_if g own true x y h k = h
answers_if g own false x y h k = k

-- a private scalar assigned
scalar_kept : (g : Setting) (scalar : ℕ) (op : Op) (value : ℕ) (own : Own) (partials : List ℕ) (needed : Bool) (old : Answer ℕ) → scalar_class g scalar ≡ Private → AnswersKept g own (scalar_assigned scalar op value own partials needed old)
scalar_kept g scalar op value own partials false old e = (unset_scalar g scalar value own e, refl)
scalar_kept g scalar op value own partials true (Ok n) e = (unset_scalar g scalar _ own e, refl)
scalar_kept g scalar op value own partials true (Err kind) e = tt

-- a scalar of any class but a replicated one assigned
scalar_target_kept : (g : Setting) (class : ScalarClass) (scalar : ℕ) (op : Op) (side : Side) (own : Own) (partials : List ℕ) → scalar_class g scalar ≡ class → (scalar_class g scalar ≡ Replicated → ⊥) → AnswersKept g own (to_scalar g class scalar op side own partials)
scalar_target_kept g Replicated scalar op side own partials e apart = absurd (apart e)
scalar_target_kept g Private scalar op side own partials e apart =
    scalar_kept g scalar op (scalar_value g side) own partials (needs_old op) (or_trap UnsetScalar (scalar_of own scalar)) e
scalar_target_kept g Partial scalar op side own partials e apart = (refl, refl)

-- a named block with other elements, which is no static array's
words_kept : (g : Setting) (block : BlockRef) (words : List ℕ) (own : Own) (kind : ArrayKind) → array_kind g block.array ≡ kind → has_kind g.program Static block.array ≡ false → (array_kind g block.array ≡ Local → side_of g block.array ≡ Inner) → unset g (with_words g block words own kind) ≡ unset g own
words_kept g block words own Static e apart local = let static : has_kind g.program Static block.array ≡ true = ap (λ k. same_kind k Static) e in absurd cc
words_kept g block words own Temp e apart local = unset_temp g block.array (record { members = members_of g own block.at; words = words }) own
words_kept g block words own Local e apart local = unset_local g block.array (number_of g own block) (Some words) own (local e)
words_kept g block words own Distributed e apart local = refl
words_kept g block words own Served e apart local = refl

-- a named block whose elements are made of its old ones
block_kept : (g : Setting) (block : BlockRef) (words : List ℕ → List ℕ) (own : Own) (partials : List ℕ) (old : Answer (List ℕ)) → has_kind g.program Static block.array ≡ false → (array_kind g block.array ≡ Local → side_of g block.array ≡ Inner) → AnswersKept g own (and_then old (λ o. quiet (with_words g block (words o) own (array_kind g block.array)) partials))
block_kept g block words own partials (Ok o) apart local = (words_kept g block (words o) own (array_kind g block.array) refl apart local, refl)
block_kept g block words own partials (Err trap) apart local = tt

-- no array of one is static
one_static : (g : Setting) (array : ℕ) → list_any (has_kind g.program Static) (array ∷ []) ≡ false → has_kind g.program Static array ≡ false
one_static g array e = (or_parts (has_kind g.program Static array) false e).0

-- local blocks allocated
allocated_kept : (g : Setting) (array : ℕ) (numbers : List ℕ) (own : Own) → side_of g array ≡ Inner → unset g (all_allocated g array numbers own) ≡ unset g own
allocated_kept g array [] own e = refl
allocated_kept g array (n ∷ ns) own e = allocated_kept g array ns (with_local array n (Some (zeros g array n)) own) e ∙ unset_local g array n (Some (zeros g array n)) own e

-- local blocks taken away
deallocated_kept : (g : Setting) (array : ℕ) (numbers : List ℕ) (own : Own) → side_of g array ≡ Inner → unset g (all_deallocated array numbers own) ≡ unset g own
deallocated_kept g array [] own e = refl
deallocated_kept g array (n ∷ ns) own e = deallocated_kept g array ns (with_local array n None own) e ∙ unset_local g array n None own e

-- a local step
step_kept : (g : Setting) (form : Plain) → Calm g form → (values : List (List ℕ)) (own : Own) (partials : List ℕ) → AnswersKept g own (local_step g form values own partials)
step_kept g (Assign (target.Scalar s) op right) calm values own partials =
    answers_then
    g
    own
    (side_read g own right values)
    (λ side. to_scalar g (scalar_class g s) s op side own partials)
    (λ side. scalar_target_kept g (scalar_class g s) s op side own partials refl (calm.scalars s (inl refl)))
step_kept g (Assign (target.Block b) op right) calm values own partials =
    answers_then
    g
    own
    (side_read g own right values)
    (λ side. to_block g b op side own partials)
    (λ side.
    block_kept
    g
    b
    (λ old. assigned g.spaces op (sight g own b old) side)
    own
    partials
    (old_words g own b (needs_old op || is_insertion g.spaces b.at side) (array_kind g b.array))
    (one_static g b.array calm.static)
    (calm.locals b.array (inl refl)))
step_kept g (Allocate array at) calm values own partials =
    answers_if
    g
    own
    (list_any (is_allocated own array) (matched g own array at))
    (Err LocalTwice)
    (quiet (all_allocated g array (matched g own array at) own) partials)
    tt
    (allocated_kept g array (matched g own array at) own (calm.locals array (inl refl) (calm.slots array (inl refl))), refl)
step_kept g (Deallocate array at) calm values own partials =
    answers_if
    g
    own
    (list_any (λ n. not (is_allocated own array n)) (matched g own array at))
    (Err LocalMissing)
    (quiet (all_deallocated array (matched g own array at) own) partials)
    tt
    (deallocated_kept g array (matched g own array at) own (calm.locals array (inl refl) (calm.slots array (inl refl))), refl)
step_kept g (Print text) calm values own partials = let never : true ≡ false = calm.print in absurd cc
step_kept g (PrintScalar scalar) calm values own partials = let never : true ≡ false = calm.print in absurd cc
step_kept g (Integrals block) calm values own partials =
    block_kept
    g
    block
    (λ old. integrals (sight g own block []))
    own
    partials
    (old_words g own block false (array_kind g block.array))
    (one_static g block.array calm.static)
    (calm.locals block.array (inl refl))
step_kept g form calm values own partials = (refl, refl)

-- logged reads
reads_kept : (g : Setting) (line : ℕ) (blocks : List BlockRef) (s : State) → (KeepsEpochs s (reads_logged g line blocks s)) × ((reads_logged g line blocks s).own ≡ s.own)
reads_kept g line [] s = (epochs_same s, refl)
reads_kept g line (b ∷ bs) s =
    let r = reads_kept g line bs (logged s (named g s.own b).class (named g s.own b).block Read line) in
    (record { copies = r.0.copies; epochs = r.0.epochs; lines = r.0.lines }, r.1)

-- a local statement
local_kept : (g : Setting) (line : ℕ) (s r : State) (answer : Answer Done) → KeepsEpochs s r → AnswersKept g s.own answer → IsKept g s (local_done line r answer)
local_kept g line s r (Ok done) k a = record {
  own = a.0;
  shown = record { copies = k.copies; epochs = k.epochs; lines = ap (λ printed. r.lines ++ printed) a.1 ∙ (append-nil r.lines ∙ k.lines) };
}
local_kept g line s r (Err kind) k a = k

-- a write to a shared block
put_kept : (g : Setting) (line : ℕ) (place : Named) (how : Access) (s : State) (answer : Answer (List ℕ)) → IsKept g s (put_done line place how s answer)
put_kept g line place how s (Ok words) = record { own = refl; shown = record { copies = refl; epochs = refl; lines = refl } }
put_kept g line place how s (Err kind) = epochs_same s

-- reads alone
fetch_kept : (g : Setting) (line : ℕ) (blocks : List BlockRef) (s : State) → KeepsControl g s (reads_logged g line blocks s)
fetch_kept g line blocks s = let r = reads_kept g line blocks s in record { own = ap (unset g) r.1; shown = r.0 }

-- the effect of a statement
effect_kept : (reading : Reading) (g : Setting) (line : ℕ) (form : Plain) → Calm g form → (s : State) → IsKept g s (effect reading g line form s)
effect_kept reading g line (Get block) calm s = fetch_kept g line (block ∷ []) s
effect_kept reading g line (Request block) calm s = fetch_kept g line (block ∷ []) s
effect_kept reading g line (Put block how from) calm s = put_kept g line (named g s.own block) how s (words_of g s.own from [])
effect_kept reading g line (Prepare block how from) calm s = put_kept g line (named g s.own block) how s (words_of g s.own from [])
effect_kept reading g line (Create array) calm s = let never : true ≡ false = calm.sync in absurd cc
effect_kept reading g line (Delete array) calm s = let never : true ≡ false = calm.sync in absurd cc
effect_kept reading g line SipBarrier calm s = let never : true ≡ false = calm.sync in absurd cc
effect_kept reading g line ServerBarrier calm s = let never : true ≡ false = calm.sync in absurd cc
effect_kept reading g line (Collective into from) calm s = let never : true ≡ false = calm.sync in absurd cc
effect_kept reading g line form calm s =
    local_kept
    g
    line
    s
    (reads_logged g line (reads_of g form) s)
    (local_step g form (values_of g reading s (reads_of g form)) s.own s.partials)
    (reads_kept g line (reads_of g form) s).0
    (step_kept g form calm (values_of g reading s (reads_of g form)) s.own s.partials)

-- a statement, unless its created flags trap
trapped_kept : (g : Setting) (line : ℕ) (s : State) (trap : Option TrapKind) (next : State → Outcome) → IsKept g s (next s) → IsKept g s (unless_trapped line s trap next)
trapped_kept g line s None next k = k
trapped_kept g line s (Some kind) next k = epochs_same s

-- a statement that may stand within a pardo keeps the control
pub statement_kept : (reading : Reading) (g : Setting) (line : ℕ) (form : Plain) → Calm g form → (s : State) → IsKept g s (statement reading g line form s)
statement_kept reading g line form calm s = trapped_kept g line s (created_trap g form s.own) (effect reading g line form) (effect_kept reading g line form calm s)
