-- Index numbers that statements leave.
use Rattle.std.proofs.Common.{◌≡◌, ℕ, List, [], ◌∷◌, Bool, true, false, not, ◌||◌, if◌then◌else◌, Option, Some, None, Ok, Err, refl, ap}
use Rattle.std.specs.List.{list_any}
use Rattle.sial_syntax.specs.declared.access.Access.{Access}
use Rattle.sial_syntax.specs.declared.array.ArrayKind.{ArrayKind}
use Rattle.sial_syntax.specs.declared.array.ArrayKind.TheVariants.{Static, Temp, Local, Distributed, Served}
use Rattle.sial_syntax.specs.declared.classes.ScalarClass.{ScalarClass}
use Rattle.sial_syntax.specs.declared.classes.ScalarClass.TheVariants.{Replicated, Private, Partial}
use Rattle.sial_syntax.specs.declared.operand.BlockRef.{BlockRef}
use Rattle.sial_syntax.specs.declared.operand.Op.{Op}
use Rattle.sial_syntax.specs.declared.operand.Target.{Target}
use Rattle.sial_syntax.specs.declared.operand.Target.TheVariants as target
use Rattle.sial_syntax.specs.Tree.{Plain, Assign, Get, Request, Put, Prepare, Create, Delete, Allocate, Deallocate, Collective, SipBarrier, ServerBarrier, Print, PrintScalar, Integrals}
use Rattle.sial_meaning.specs.declared.trap.TrapKind.{TrapKind}
use Rattle.sial_meaning.specs.declared.trap.TrapKind.TheVariants.{UnsetScalar, LocalMissing, LocalTwice}
use Rattle.sial_meaning.specs.LocalStep.{Done, Answer, and_then, or_trap, quiet, scalar_assigned, scalar_value, to_scalar, needs_old, with_words, old_words, words_of, matched, is_allocated, integrals, scalar_line, to_target, side_read, all_allocated, all_deallocated, local_step}
use Rattle.sial_meaning.specs.Own.{Own, sight, with_local, scalar_of}
use Rattle.sial_meaning.specs.Right.{Side, assigned, is_insertion}
use Rattle.sial_meaning.specs.Setting.{Setting, array_kind, scalar_class, zeros}
use Rattle.sial_meaning.specs.State.{State}
use Rattle.sial_meaning.specs.Statement.{Outcome, Went, Stopped, Reading, Named, reads_of, reads_logged, values_of, local_done, put_done, named, created_trap, effect, unless_trapped, statement}

-- the index numbers and the created flags of a worker
abbrev pub Frame : Type 0
Frame = List ℕ × List Bool

-- those of a worker
abbrev pub frame_of : Own → Frame
frame_of own = (own.values, own.created)

-- an answer's worker has the same index numbers and created flags
abbrev pub AnswersWith : Frame → Answer Done → Type 0
AnswersWith frame (Ok done) = frame_of done.own ≡ frame
AnswersWith frame (Err kind) = Unit {0}

-- so has what follows an answer
answers_then : {X : Type 0} (frame : Frame) (x : Answer X) (f : X → Answer Done) → ((y : X) → AnswersWith frame (f y)) → AnswersWith frame (and_then x f)
answers_then frame (Ok y) f h = h y
answers_then frame (Err kind) f h = tt

-- one of two answers
answers_if : (frame : Frame) (b : Bool) (x y : Answer Done) → AnswersWith frame x → AnswersWith frame y → AnswersWith frame (if b then x else y)
answers_if frame true x y h k = h
answers_if frame false x y h k = k

-- a scalar assigned
scalar_answers : (frame : Frame) (scalar : ℕ) (op : Op) (value : ℕ) (own : Own) (partials : List ℕ) (needed : Bool) (old : Answer ℕ) → frame_of own ≡ frame → AnswersWith frame (scalar_assigned scalar op value own partials needed old)
scalar_answers frame scalar op value own partials false old e = e
scalar_answers frame scalar op value own partials true (Ok n) e = e
scalar_answers frame scalar op value own partials true (Err kind) e = tt

-- a scalar of any class assigned
scalar_target_answers : (g : Setting) (class : ScalarClass) (scalar : ℕ) (op : Op) (side : Side) (own : Own) (partials : List ℕ) → AnswersWith (frame_of own) (to_scalar g class scalar op side own partials)
scalar_target_answers g Replicated scalar op side own partials =
    scalar_answers (frame_of own) scalar op (scalar_value g side) own partials (needs_old op) (or_trap UnsetScalar (scalar_of own scalar)) refl
scalar_target_answers g Private scalar op side own partials =
    scalar_answers (frame_of own) scalar op (scalar_value g side) own partials (needs_old op) (or_trap UnsetScalar (scalar_of own scalar)) refl
scalar_target_answers g Partial scalar op side own partials = refl

-- a named block with other elements
with_words_values : (g : Setting) (block : BlockRef) (words : List ℕ) (own : Own) (kind : ArrayKind) → frame_of (with_words g block words own kind) ≡ frame_of own
with_words_values g block words own Static = refl
with_words_values g block words own Temp = refl
with_words_values g block words own Local = refl
with_words_values g block words own Distributed = refl
with_words_values g block words own Served = refl

-- a named block whose elements are made of its old ones
block_answers : (g : Setting) (block : BlockRef) (words : List ℕ → List ℕ) (own : Own) (partials : List ℕ) (kind : ArrayKind) (old : Answer (List ℕ)) → AnswersWith (frame_of own) (and_then old (λ o. quiet (with_words g block (words o) own kind) partials))
block_answers g block words own partials kind (Ok o) = with_words_values g block (words o) own kind
block_answers g block words own partials kind (Err trap) = tt

-- an assignment
target_answers : (g : Setting) (to : Target) (op : Op) (side : Side) (own : Own) (partials : List ℕ) → AnswersWith (frame_of own) (to_target g to op side own partials)
target_answers g (target.Scalar s) op side own partials = scalar_target_answers g (scalar_class g s) s op side own partials
target_answers g (target.Block b) op side own partials =
    block_answers
    g
    b
    (λ old. assigned g.spaces op (sight g own b old) side)
    own
    partials
    (array_kind g b.array)
    (old_words g own b (needs_old op || is_insertion g.spaces b.at side) (array_kind g b.array))

-- local blocks allocated
allocated_values : (g : Setting) (array : ℕ) (numbers : List ℕ) (own : Own) → frame_of (all_allocated g array numbers own) ≡ frame_of own
allocated_values g array [] own = refl
allocated_values g array (n ∷ ns) own = allocated_values g array ns (with_local array n (Some (zeros g array n)) own)

-- local blocks taken away
deallocated_values : (array : ℕ) (numbers : List ℕ) (own : Own) → frame_of (all_deallocated array numbers own) ≡ frame_of own
deallocated_values array [] own = refl
deallocated_values array (n ∷ ns) own = deallocated_values array ns (with_local array n None own)

-- a local step leaves the index numbers and the created flags
pub step_answers : (g : Setting) (form : Plain) (values : List (List ℕ)) (own : Own) (partials : List ℕ) → AnswersWith (frame_of own) (local_step g form values own partials)
step_answers g (Assign to op right) values own partials =
    answers_then (frame_of own) (side_read g own right values) (λ side. to_target g to op side own partials) (λ side. target_answers g to op side own partials)
step_answers g (Allocate array at) values own partials =
    answers_if
    (frame_of own)
    (list_any (is_allocated own array) (matched g own array at))
    (Err LocalTwice)
    (quiet (all_allocated g array (matched g own array at) own) partials)
    tt
    (allocated_values g array (matched g own array at) own)
step_answers g (Deallocate array at) values own partials =
    answers_if
    (frame_of own)
    (list_any (λ n. not (is_allocated own array n)) (matched g own array at))
    (Err LocalMissing)
    (quiet (all_deallocated array (matched g own array at) own) partials)
    tt
    (deallocated_values array (matched g own array at) own)
step_answers g (Print text) values own partials = refl
step_answers g (PrintScalar scalar) values own partials =
    answers_then
    (frame_of own)
    (or_trap UnsetScalar (scalar_of own scalar))
    (λ n. Ok (record { own = own; partials = partials; printed = scalar_line g scalar n ∷ [] }))
    (λ n. refl)
step_answers g (Integrals block) values own partials =
    block_answers g block (λ old. integrals (sight g own block [])) own partials (array_kind g block.array) (old_words g own block false (array_kind g block.array))
step_answers g form values own partials = refl

-- an outcome's worker has these index numbers
abbrev pub GoesWith : List ℕ → Outcome → Type 0
GoesWith values (Went s) = s.own.values ≡ values
GoesWith values (Stopped trap s) = Unit {0}

-- logged reads leave what the worker holds
pub reads_own : (g : Setting) (line : ℕ) (blocks : List BlockRef) (s : State) → (reads_logged g line blocks s).own ≡ s.own
reads_own g line [] s = refl
reads_own g line (b ∷ bs) s = reads_own g line bs _

-- a local statement
local_goes : (frame : Frame) (line : ℕ) (s : State) (answer : Answer Done) → AnswersWith frame answer → GoesWith frame.0 (local_done line s answer)
local_goes frame line s (Ok done) e = ap (λ (f : Frame). f.0) e
local_goes frame line s (Err kind) e = tt

-- a write to a shared block
put_goes : (line : ℕ) (place : Named) (how : Access) (s : State) (answer : Answer (List ℕ)) → GoesWith s.own.values (put_done line place how s answer)
put_goes line place how s (Ok words) = refl
put_goes line place how s (Err kind) = tt

-- the effect of a statement
effect_goes : (reading : Reading) (g : Setting) (line : ℕ) (form : Plain) (s : State) → GoesWith s.own.values (effect reading g line form s)
effect_goes reading g line (Get block) s = ap (λ o. o.values) (reads_own g line (block ∷ []) s)
effect_goes reading g line (Request block) s = ap (λ o. o.values) (reads_own g line (block ∷ []) s)
effect_goes reading g line (Put block how from) s = put_goes line (named g s.own block) how s (words_of g s.own from [])
effect_goes reading g line (Prepare block how from) s = put_goes line (named g s.own block) how s (words_of g s.own from [])
effect_goes reading g line (Create array) s = refl
effect_goes reading g line (Delete array) s = refl
effect_goes reading g line SipBarrier s = refl
effect_goes reading g line ServerBarrier s = refl
effect_goes reading g line (Collective into from) s = refl
effect_goes reading g line form s =
    local_goes (frame_of s.own) line (reads_logged g line (reads_of g form) s) (local_step g form (values_of g reading s (reads_of g form)) s.own s.partials) (step_answers g form (values_of g reading s (reads_of g form)) s.own s.partials)

-- a statement, unless its created flags trap
trapped_goes : (values : List ℕ) (line : ℕ) (s : State) (trap : Option TrapKind) (next : State → Outcome) → GoesWith values (next s) → GoesWith values (unless_trapped line s trap next)
trapped_goes values line s None next h = h
trapped_goes values line s (Some kind) next h = tt

-- a statement that holds no other leaves the index numbers
pub statement_goes : (reading : Reading) (g : Setting) (line : ℕ) (form : Plain) (s : State) → GoesWith s.own.values (statement reading g line form s)
statement_goes reading g line form s = trapped_goes s.own.values line s (created_trap g form s.own) (effect reading g line form) (effect_goes reading g line form s)
