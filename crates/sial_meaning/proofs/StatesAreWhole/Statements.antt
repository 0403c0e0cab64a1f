-- A statement that holds no other leaves a whole state, where it breaks no rule and its indices have numbers in their ranges.
use Rattle.std.proofs.Common.{◌≡◌, ℕ, inl, List, [], ◌∷◌, ◌++◌, length, slice_set, Bool, true, false, ◌||◌, not, if◌then◌else◌, Option, Some, Ok, Err, refl, sym, subst}
use Rattle.std.specs.Prelude.{flat_map}
use Rattle.std.specs.List.{list_any}
use Rattle.sial_syntax.specs.declared.array.ArrayKind.{ArrayKind}
use Rattle.sial_syntax.specs.declared.array.ArrayKind.TheVariants.{Static, Temp, Local, Distributed, Served}
use Rattle.sial_syntax.specs.declared.classes.ScalarClass.{ScalarClass}
use Rattle.sial_syntax.specs.declared.classes.ScalarClass.TheVariants.{Replicated, Private, Partial}
use Rattle.sial_syntax.specs.declared.operand.BlockRef.{BlockRef}
use Rattle.sial_syntax.specs.declared.operand.Op.{Op}
use Rattle.sial_syntax.specs.declared.operand.Target.{Target}
use Rattle.sial_syntax.specs.declared.operand.Target.TheVariants as target
use Rattle.sial_syntax.specs.Agreeing.{all_in}
use Rattle.sial_syntax.specs.Parts.{blocks_named, slots_named, slot_index, conditions, condition_indices, indices_used}
use Rattle.sial_syntax.specs.Tree.{Plain, Do, DoIn, Pardo, If, IfElse, Call, Assign, Get, Request, Put, Prepare, Create, Delete, Allocate, Deallocate, Collective, SipBarrier, ServerBarrier, Print, PrintScalar, Integrals}
use Rattle.sial_meaning.specs.declared.trap.TrapKind.TheVariants.{UnsetScalar, LocalMissing, LocalTwice}
use Rattle.sial_meaning.specs.LocalStep.{Done, Answer, and_then, or_trap, quiet, needs_old, scalar_value, scalar_assigned, to_scalar, old_words, with_words, to_target, side_read, matched, is_allocated, all_allocated, all_deallocated, integrals, scalar_line, local_step}
use Rattle.sial_meaning.specs.Own.{Own, sight, scalar_of}
use Rattle.sial_meaning.specs.Right.{Side, assigned, is_insertion}
use Rattle.sial_meaning.specs.Setting.{Setting, array_kind, scalar_class}
use Rattle.sial_meaning.specs.Sound.{IsSound}
use Rattle.sial_meaning.specs.State.{State, Shared}
use Rattle.sial_meaning.specs.Statement.{Outcome, Went, Stopped, reads_logged, local_done}
use Rattle.sial_meaning.specs.WholeStates.{OwnIsWhole, DistributedIsWhole, ServedIsWhole, IsWhole}
use Rattle.sial_meaning.proofs.WritesFitTheirBlocks.Blocks.{Fit, named_volume, front-in, fit-named}
use Rattle.sial_meaning.proofs.Granted.Visits.{Good}
use Rattle.sial_meaning.proofs.StatesAreWhole.OwnLengths.{words-whole, integrals-long, allocated-whole, deallocated-whole}
use Rattle.sial_meaning.proofs.Granted.Ranges.{InRange}
use Rattle.sial_meaning.proofs.AssignmentsReadBack.Elements.{as-many-elements}
use Rattle.sial_meaning.proofs.AcceptedInOtherWords.Pairs.{holds-so}

-- an outcome's state is whole
abbrev pub WholeTo : Setting → Outcome → Type 0
WholeTo g (Went s) = IsWhole g s
WholeTo g (Stopped trap s) = IsWhole g s

-- an answer's worker is whole, with the same created flags
abbrev pub DoneWhole : Setting → Own → Answer Done → Type 0
DoneWhole g own (Ok done) = OwnIsWhole g done.own × (done.own.created ≡ own.created)
DoneWhole g own (Err kind) = Unit {0}

-- what follows an answer
done-then : {X : Type 0} (g : Setting) (own : Own) (x : Answer X) (f : X → Answer Done) → ((y : X) → DoneWhole g own (f y)) → DoneWhole g own (and_then x f)
done-then g own (Ok y) f each = each y
done-then g own (Err kind) f each = tt

done-if : (g : Setting) (own : Own) (b : Bool) (x y : Answer Done) → DoneWhole g own x → DoneWhole g own y → DoneWhole g own (if b then x else y)
done-if g own true x y first second = first
done-if g own false x y first second = second

-- scalars changed
pub scalars-whole : (g : Setting) (own : Own) (scalars : List (Option ℕ)) → OwnIsWhole g own → OwnIsWhole g (record own { scalars = scalars })
scalars-whole g own scalars whole = record { values = whole.values; created = whole.created; static_rows = whole.static_rows; temp_rows = whole.temp_rows; local_rows = whole.local_rows; count = whole.count; statics = whole.statics; temps = whole.temps; locals = whole.locals }

-- a scalar assigned
assigned-scalar : (g : Setting) (scalar : ℕ) (op : Op) (value : ℕ) (own : Own) (partials : List ℕ) (needed : Bool) (old : Answer ℕ) → OwnIsWhole g own → DoneWhole g own (scalar_assigned scalar op value own partials needed old)
assigned-scalar g scalar op value own partials false old whole = (scalars-whole g own (slice_set own.scalars scalar (Some value)) whole, refl)
assigned-scalar g scalar op value own partials true (Err kind) whole = tt
assigned-scalar g scalar op value own partials true (Ok n) whole = (scalars-whole g own _ whole, refl)

scalar-done : (g : Setting) (class : ScalarClass) (scalar : ℕ) (op : Op) (side : Side) (own : Own) (partials : List ℕ) → OwnIsWhole g own → DoneWhole g own (to_scalar g class scalar op side own partials)
scalar-done g Replicated scalar op side own partials whole = assigned-scalar g scalar op (scalar_value g side) own partials (needs_old op) (or_trap UnsetScalar (scalar_of own scalar)) whole
scalar-done g Private scalar op side own partials whole = assigned-scalar g scalar op (scalar_value g side) own partials (needs_old op) (or_trap UnsetScalar (scalar_of own scalar)) whole
scalar-done g Partial scalar op side own partials whole = (whole, refl)

-- the flags of created arrays stay
flags-stay : (g : Setting) (b : BlockRef) (words : List ℕ) (own : Own) (kind : ArrayKind) → (with_words g b words own kind).created ≡ own.created
flags-stay g b words own Static = refl
flags-stay g b words own Temp = refl
flags-stay g b words own Local = refl
flags-stay g b words own Distributed = refl
flags-stay g b words own Served = refl

-- a named block made of its old elements
block-done : (g : Setting) (bound : List ℕ) (own : Own) (b : BlockRef) (partials : List ℕ) (make : List ℕ → List ℕ) (old : Answer (List ℕ)) → IsSound g → InRange g bound own.values → Fit g bound b → OwnIsWhole g own
    → ((o : List ℕ) → length (make o) ≡ named_volume g own b) → DoneWhole g own (and_then old (λ o. quiet (with_words g b (make o) own (array_kind g b.array)) partials))
block-done g bound own b partials make (Err kind) sound in-range fit whole long = tt
block-done g bound own b partials make (Ok o) sound in-range fit whole long =
    (words-whole g bound own b (make o) (array_kind g b.array) sound in-range fit refl whole (long o), flags-stay g b (make o) own (array_kind g b.array))

-- the blocks of an assignment and of integrals fit
pub fit-target : (g : Setting) (line : ℕ) (bound : List ℕ) (within : Bool) (b : BlockRef) (op : Op) (right : _) → Good g (record { line = line; form = Assign (target.Block b) op right; bound = bound; within = within }) → Fit g bound b
fit-target g line bound within b op right good =
    let form = Assign (target.Block b) op right in
    let used = holds-so (all_in (indices_used form) bound) good.unbound in
    fit-named g (record { line = line; form = form; bound = bound; within = within }) bound b good
    (front-in (flat_map (λ (b : BlockRef). b.at) (blocks_named form)) (flat_map slot_index (slots_named form) ++ flat_map condition_indices (conditions form)) bound used).0
    (inl refl)

fit-integrals : (g : Setting) (line : ℕ) (bound : List ℕ) (within : Bool) (b : BlockRef) → Good g (record { line = line; form = Integrals b; bound = bound; within = within }) → Fit g bound b
fit-integrals g line bound within b good =
    let used = holds-so (all_in (indices_used (Integrals b)) bound) good.unbound in
    fit-named g (record { line = line; form = Integrals b; bound = bound; within = within }) bound b good
    (front-in (flat_map (λ (b : BlockRef). b.at) (blocks_named (Integrals b))) (flat_map slot_index (slots_named (Integrals b)) ++ flat_map condition_indices (conditions (Integrals b))) bound used).0
    (inl refl)

-- an assignment
target-done : (g : Setting) (line : ℕ) (bound : List ℕ) (within : Bool) (to : Target) (op : Op) (right : _) (side : Side) (own : Own) (partials : List ℕ) → IsSound g → InRange g bound own.values
    → Good g (record { line = line; form = Assign to op right; bound = bound; within = within }) → OwnIsWhole g own → DoneWhole g own (to_target g to op side own partials)
target-done g line bound within (target.Scalar s) op right side own partials sound in-range good whole = scalar-done g (scalar_class g s) s op side own partials whole
target-done g line bound within (target.Block b) op right side own partials sound in-range good whole =
    block-done g bound own b partials (λ old. assigned g.spaces op (sight g own b old) side)
    (old_words g own b (needs_old op || is_insertion g.spaces b.at side) (array_kind g b.array)) sound in-range (fit-target g line bound within b op right good) whole
    (λ old. as-many-elements g.spaces op (sight g own b old) side)

-- a local step
pub step-done : (g : Setting) (line : ℕ) (bound : List ℕ) (within : Bool) (form : Plain) (values : List (List ℕ)) (own : Own) (partials : List ℕ) → IsSound g → InRange g bound own.values
    → Good g (record { line = line; form = form; bound = bound; within = within }) → OwnIsWhole g own → DoneWhole g own (local_step g form values own partials)
step-done g line bound within (Assign to op right) values own partials sound in-range good whole =
    done-then g own (side_read g own right values) (λ side. to_target g to op side own partials) (λ side. target-done g line bound within to op right side own partials sound in-range good whole)
step-done g line bound within (Allocate array at) values own partials sound in-range good whole =
    done-if g own (list_any (is_allocated own array) (matched g own array at)) (Err LocalTwice) (quiet (all_allocated g array (matched g own array at) own) partials) tt
    (allocated-whole g array (matched g own array at) own whole, allocated-flags g array (matched g own array at) own)
  where
    allocated-flags : (g : Setting) (array : ℕ) (numbers : List ℕ) (own : Own) → (all_allocated g array numbers own).created ≡ own.created
    allocated-flags g array [] own = refl
    allocated-flags g array (n ∷ ns) own = allocated-flags g array ns _
step-done g line bound within (Deallocate array at) values own partials sound in-range good whole =
    done-if g own (list_any (λ n. not (is_allocated own array n)) (matched g own array at)) (Err LocalMissing) (quiet (all_deallocated array (matched g own array at) own) partials) tt
    (deallocated-whole g array (matched g own array at) own whole, deallocated-flags array (matched g own array at) own)
  where
    deallocated-flags : (array : ℕ) (numbers : List ℕ) (own : Own) → (all_deallocated array numbers own).created ≡ own.created
    deallocated-flags array [] own = refl
    deallocated-flags array (n ∷ ns) own = deallocated-flags array ns _
step-done g line bound within (Print text) values own partials sound in-range good whole = (whole, refl)
step-done g line bound within (PrintScalar scalar) values own partials sound in-range good whole =
    done-then g own (or_trap UnsetScalar (scalar_of own scalar)) (λ n. Ok (record { own = own; partials = partials; printed = scalar_line g scalar n ∷ [] })) (λ n. (whole, refl))
step-done g line bound within (Integrals b) values own partials sound in-range good whole =
    block-done g bound own b partials (λ old. integrals (sight g own b [])) (old_words g own b false (array_kind g b.array)) sound in-range (fit-integrals g line bound within b good) whole (λ old. integrals-long g own b)
step-done g line bound within (Do index body) values own partials sound in-range good whole = (whole, refl)
step-done g line bound within (DoIn sub index body) values own partials sound in-range good whole = (whole, refl)
step-done g line bound within (Pardo indices wheres body) values own partials sound in-range good whole = (whole, refl)
step-done g line bound within (If test body) values own partials sound in-range good whole = (whole, refl)
step-done g line bound within (IfElse test body other) values own partials sound in-range good whole = (whole, refl)
step-done g line bound within (Call procedure) values own partials sound in-range good whole = (whole, refl)
step-done g line bound within (Get block) values own partials sound in-range good whole = (whole, refl)
step-done g line bound within (Request block) values own partials sound in-range good whole = (whole, refl)
step-done g line bound within (Put block how from) values own partials sound in-range good whole = (whole, refl)
step-done g line bound within (Prepare block how from) values own partials sound in-range good whole = (whole, refl)
step-done g line bound within (Create array) values own partials sound in-range good whole = (whole, refl)
step-done g line bound within (Delete array) values own partials sound in-range good whole = (whole, refl)
step-done g line bound within (Collective into from) values own partials sound in-range good whole = (whole, refl)
step-done g line bound within SipBarrier values own partials sound in-range good whole = (whole, refl)
step-done g line bound within ServerBarrier values own partials sound in-range good whole = (whole, refl)

-- logged reads change the log alone
pub reads-same : (g : Setting) (line : ℕ) (blocks : List BlockRef) (s : State) → ((reads_logged g line blocks s).own ≡ s.own) × ((reads_logged g line blocks s).shared ≡ s.shared) × ((reads_logged g line blocks s).copies ≡ s.copies)
reads-same g line [] s = (refl, refl, refl)
reads-same g line (b ∷ bs) s = reads-same g line bs _

-- a state with the same blocks is whole too
pub same-whole : (g : Setting) (s t : State) → t.own ≡ s.own → t.shared ≡ s.shared → t.copies ≡ s.copies → IsWhole g s → IsWhole g t
same-whole g s t own shared copies whole = record {
  own = subst (λ (o : Own). OwnIsWhole g o) (sym own) whole.own;
  distributed = subst (λ (h : Shared). DistributedIsWhole g t.own.created h.distributed) (sym shared) (subst (λ (o : Own). DistributedIsWhole g o.created s.shared.distributed) (sym own) whole.distributed);
  served = subst (λ (h : Shared). ServedIsWhole g h.served) (sym shared) whole.served;
  distributed_copies = subst (λ (h : Shared). DistributedIsWhole g t.own.created h.distributed) (sym copies) (subst (λ (o : Own). DistributedIsWhole g o.created s.copies.distributed) (sym own) whole.distributed_copies);
  served_copies = subst (λ (h : Shared). ServedIsWhole g h.served) (sym copies) whole.served_copies;
}

-- reads alone
pub reads-whole : (g : Setting) (line : ℕ) (blocks : List BlockRef) (s : State) → IsWhole g s → IsWhole g (reads_logged g line blocks s)
reads-whole g line blocks s whole = let same = reads-same g line blocks s in same-whole g s (reads_logged g line blocks s) same.0 same.1 same.2 whole

-- a local statement
pub local-whole-to : (g : Setting) (line : ℕ) (s : State) (answer : Answer Done) → IsWhole g s → DoneWhole g s.own answer → WholeTo g (local_done line s answer)
local-whole-to g line s (Err kind) whole done = whole
local-whole-to g line s (Ok answer) whole done = record {
  own = done.0;
  distributed = subst (λ flags. DistributedIsWhole g flags s.shared.distributed) (sym done.1) whole.distributed;
  served = whole.served;
  distributed_copies = subst (λ flags. DistributedIsWhole g flags s.copies.distributed) (sym done.1) whole.distributed_copies;
  served_copies = whole.served_copies;
}
