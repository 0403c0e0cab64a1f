-- Statements that hold no other leave states that have numbers alone.
use Rattle.std.proofs.Common.{◌≡◌, ℕ, zero, suc, ◌+◌, ◌%◌, ◌^◌, List, [], ◌∷◌, drop, length, slice_index_or, slice_set, replicate, Bool, true, false, ◌||◌, not, if◌then◌else◌, Option, Some, None, Ok, Err, unwrap_or, refl, sym, subst}
use Rattle.std.specs.List.{list_any}
use Rattle.std.specs.Option.{IfSome}
use Rattle.sial_syntax.specs.declared.access.Access.{Access}
use Rattle.sial_syntax.specs.declared.access.Class.TheVariants as class
use Rattle.sial_syntax.specs.declared.array.ArrayKind.{ArrayKind}
use Rattle.sial_syntax.specs.declared.array.ArrayKind.TheVariants.{Static, Temp, Local, Distributed, Served}
use Rattle.sial_syntax.specs.declared.classes.ScalarClass.{ScalarClass}
use Rattle.sial_syntax.specs.declared.classes.ScalarClass.TheVariants.{Replicated, Private, Partial}
use Rattle.sial_syntax.specs.declared.operand.BlockRef.{BlockRef}
use Rattle.sial_syntax.specs.declared.operand.Op.{Op}
use Rattle.sial_syntax.specs.declared.operand.Operand.{Operand}
use Rattle.sial_syntax.specs.declared.operand.Operand.TheVariants as operand
use Rattle.sial_syntax.specs.declared.operand.Right.{Right}
use Rattle.sial_syntax.specs.declared.operand.Right.TheVariants.{One, Two}
use Rattle.sial_syntax.specs.declared.operand.Target.{Target}
use Rattle.sial_syntax.specs.declared.operand.Target.TheVariants as target
use Rattle.sial_syntax.specs.Boxes.{tuples}
use Rattle.sial_syntax.specs.Tree.{Plain, Do, DoIn, Pardo, If, IfElse, Call, Assign, Get, Request, Put, Prepare, Create, Delete, Allocate, Deallocate, Collective, SipBarrier, ServerBarrier, Print, PrintScalar, Integrals}
use Rattle.sial_meaning.specs.declared.trap.TrapKind.{TrapKind}
use Rattle.sial_meaning.specs.declared.trap.TrapKind.TheVariants.{UnsetBlock, UnsetScalar, LocalMissing, LocalTwice}
use Rattle.sial_meaning.specs.LocalStep.{Done, Answer, and_then, or_trap, quiet, held_words, words_by_kind, words_of, term_of, shared_operand, side_read, needs_old, scalar_value, scalar_assigned, to_scalar, old_or_empty, old_words, with_words, to_target, matched, is_allocated, all_allocated, all_deallocated, integral, whole_positions, integrals, local_step}
use Rattle.sial_meaning.specs.Number.{combined}
use Rattle.sial_meaning.specs.NumberStates.{IsNumber, AreNumbers, HoldsNumbers, OwnHasNumbers, SharedHasNumbers, HasNumbers}
use Rattle.sial_meaning.specs.Own.{Own, Held, sight, scalar_of, with_scalar, with_created, members_of, same_members, number_of, temp_of, local_block, with_local, for_each}
use Rattle.sial_meaning.specs.Right.{Side, assigned, is_insertion, side_at}
use Rattle.sial_meaning.specs.Setting.{Setting, array_kind, scalar_class, block_words, block_count, first_of_class, zeros}
use Rattle.sial_meaning.specs.Sight.{lengths}
use Rattle.sial_meaning.specs.State.{Shared, State, shared_block, with_run}
use Rattle.sial_meaning.specs.Statement.{Outcome, Went, Stopped, Reading, Present, Copied, Named, named, reads_of, reads_logged, seen_by, values_of, created_trap, local_done, stored, put_done, created, deleted, effect, unless_trapped, statement}
use Rattle.sial_meaning.proofs.StatesHaveNumbers.Lists.{left-number, nothing-numbers, mapped-numbers, zero-numbers, replaced-numbers, replaced-has, mapped-has, alike-has, combined-number, accessed-numbers, TermHas, SideHas, side-number, or-none, assigned-numbers}

-- rows of blocks
abbrev Rows : List (List (List ℕ)) → Type 0
Rows rows = (array number : ℕ) → AreNumbers (slice_index_or (slice_index_or rows array []) number [])

-- rows of blocks that may be missing
abbrev MaybeRows : List (List (Option (List ℕ))) → Type 0
MaybeRows rows = (array number : ℕ) → IfSome (slice_index_or (slice_index_or rows array []) number None) AreNumbers

-- what an answer gives has a property
abbrev IfAnswer : {X : Type 0} → (X → Type 0) → Answer X → Type 0
IfAnswer P (Ok x) = P x
IfAnswer P (Err kind) = Unit {0}

-- what follows an answer
then-has : {X Y : Type 0} (P : X → Type 0) (Q : Y → Type 0) (x : Answer X) (f : X → Answer Y) → IfAnswer P x → ((y : X) → P y → IfAnswer Q (f y)) → IfAnswer Q (and_then x f)
then-has P Q (Ok x) f has each = each x has
then-has P Q (Err kind) f has each = tt

-- a value that must be there
must-have : {X : Type 0} (P : X → Type 0) (kind : TrapKind) (x : Option X) → IfSome x P → IfAnswer P (or_trap kind x)
must-have P kind None has = tt
must-have P kind (Some x) has = has

-- a temp's elements
held-has : (held : Option Held) (members : List (ℕ × ℕ)) → IfSome held HoldsNumbers → IfSome (held_words held members) AreNumbers
held-has None members has = tt
held-has (Some held) members has =
    elim (same_members held.members members) as (λ b. IfSome (if b then Some held.words else None) AreNumbers) [
      | true ↦ has
      | false ↦ tt
    ]

-- the values of shared operands
abbrev pub ValuesHave : List (List ℕ) → Type 0
ValuesHave values = (k : ℕ) → AreNumbers (slice_index_or values k [])

-- those that are left
left-have : (values : List (List ℕ)) (n : ℕ) → ValuesHave values → ValuesHave (drop n values)
left-have values zero has = has
left-have [] (suc n) has = has
left-have (v ∷ vs) (suc n) has = left-have vs n (λ k. has (suc k))

-- the elements of a named block
words-have : (g : Setting) (own : Own) (block : BlockRef) (values : List (List ℕ)) (kind : ArrayKind) → OwnHasNumbers own → ValuesHave values → IfAnswer AreNumbers (words_by_kind g own block values kind)
words-have g own block values Static has given = has.statics block.array (number_of g own block)
words-have g own block values Temp has given =
    must-have AreNumbers UnsetBlock (held_words (temp_of own block.array) (members_of g own block.at)) (held-has (temp_of own block.array) (members_of g own block.at) (has.temps block.array))
words-have g own block values Local has given = must-have AreNumbers LocalMissing (local_block own block.array (number_of g own block)) (has.locals block.array (number_of g own block))
words-have g own block values Distributed has given = given 0
words-have g own block values Served has given = given 0

-- the numbers that an operand writes out
abbrev pub OperandHas : Operand → Type 0
OperandHas (operand.Number n) = IsNumber n
OperandHas (operand.Scalar s) = Unit {0}
OperandHas (operand.Block b) = Unit {0}

-- those of a right side
abbrev pub RightHas : Right → Type 0
RightHas (One a) = OperandHas a
RightHas (Two a bin b) = OperandHas a × OperandHas b

-- an operand, read
term-has : (g : Setting) (own : Own) (a : Operand) (values : List (List ℕ)) → OperandHas a → OwnHasNumbers own → ValuesHave values → IfAnswer TermHas (term_of g own a values)
term-has g own (operand.Number n) values out has given = out
term-has g own (operand.Scalar s) values out has given =
    then-has IsNumber TermHas (or_trap UnsetScalar (scalar_of own s)) _ (must-have IsNumber UnsetScalar (scalar_of own s) (has.scalars s)) (λ n number. number)
term-has g own (operand.Block b) values out has given =
    then-has AreNumbers TermHas (words_of g own b values) _ (words-have g own b values (array_kind g b.array) has given) (λ words are. are)

-- a right side, read
side-has : (g : Setting) (own : Own) (right : Right) (values : List (List ℕ)) → RightHas right → OwnHasNumbers own → ValuesHave values → IfAnswer SideHas (side_read g own right values)
side-has g own (One a) values out has given = then-has TermHas SideHas (term_of g own a values) _ (term-has g own a values out has given) (λ x is. is)
side-has g own (Two a bin b) values out has given =
    then-has TermHas SideHas (term_of g own a values) _ (term-has g own a values out.0 has given)
    (λ x first. then-has TermHas SideHas (term_of g own b (drop (length (shared_operand g a)) values)) _
    (term-has g own b (drop (length (shared_operand g a)) values) out.1 has (left-have values (length (shared_operand g a)) given)) (λ y second. (first, second)))

-- what a worker holds after a statement, with the partial scalars
abbrev DoneHas : Done → Type 0
DoneHas done = OwnHasNumbers done.own × AreNumbers done.partials

-- a scalar set
pub scalar-set : (own : Own) (scalar n : ℕ) → OwnHasNumbers own → IsNumber n → OwnHasNumbers (with_scalar scalar n own)
scalar-set own scalar n has number = record {
  values = has.values;
  scalars = replaced-has (λ x. IfSome x IsNumber) own.scalars scalar (Some n) None has.scalars number;
  statics = has.statics;
  temps = has.temps;
  locals = has.locals;
}

-- a scalar assigned
assigned-scalar : (scalar : ℕ) (op : Op) (value : ℕ) (own : Own) (partials : List ℕ) (needed : Bool) (old : Answer ℕ) → OwnHasNumbers own → AreNumbers partials → IsNumber value → IfAnswer DoneHas (scalar_assigned scalar op value own partials needed old)
assigned-scalar scalar op value own partials false old has parts number = (scalar-set own scalar value has number, parts)
assigned-scalar scalar op value own partials true (Err kind) has parts number = tt
assigned-scalar scalar op value own partials true (Ok n) has parts number = (scalar-set own scalar (combined op n value) has (combined-number op n value number), parts)

scalar-done : (g : Setting) (class : ScalarClass) (scalar : ℕ) (op : Op) (side : Side) (own : Own) (partials : List ℕ) → OwnHasNumbers own → AreNumbers partials → SideHas side → IfAnswer DoneHas (to_scalar g class scalar op side own partials)
scalar-done g Replicated scalar op side own partials has parts numbers =
    assigned-scalar scalar op (scalar_value g side) own partials (needs_old op) (or_trap UnsetScalar (scalar_of own scalar)) has parts (or-none (side_at g.spaces [] side) (side-number g.spaces [] side numbers))
scalar-done g Private scalar op side own partials has parts numbers =
    assigned-scalar scalar op (scalar_value g side) own partials (needs_old op) (or_trap UnsetScalar (scalar_of own scalar)) has parts (or-none (side_at g.spaces [] side) (side-number g.spaces [] side numbers))
scalar-done g Partial scalar op side own partials has parts numbers = (
  has,
  replaced-numbers partials scalar (combined op (slice_index_or partials scalar 0) (scalar_value g side)) parts
      (combined-number op (slice_index_or partials scalar 0) (scalar_value g side) (or-none (side_at g.spaces [] side) (side-number g.spaces [] side numbers))),
)

-- rows with one block replaced
rows-replaced : (rows : List (List (List ℕ))) (array number : ℕ) (words : List ℕ) → Rows rows → AreNumbers words → Rows (slice_set rows array (slice_set (slice_index_or rows array []) number words))
rows-replaced rows array number words all are =
    replaced-has (λ row. (n : ℕ) → AreNumbers (slice_index_or row n [])) rows array (slice_set (slice_index_or rows array []) number words) [] all
    (replaced-has AreNumbers (slice_index_or rows array []) number words [] (all array) are)

maybe-replaced : (rows : List (List (Option (List ℕ)))) (array number : ℕ) (words : Option (List ℕ)) → MaybeRows rows → IfSome words AreNumbers → MaybeRows (slice_set rows array (slice_set (slice_index_or rows array []) number words))
maybe-replaced rows array number words all are =
    replaced-has (λ row. (n : ℕ) → IfSome (slice_index_or row n None) AreNumbers) rows array (slice_set (slice_index_or rows array []) number words) [] all
    (replaced-has (λ x. IfSome x AreNumbers) (slice_index_or rows array []) number words None (all array) are)

-- a local block allocated or taken away
local-set : (own : Own) (array number : ℕ) (words : Option (List ℕ)) → OwnHasNumbers own → IfSome words AreNumbers → OwnHasNumbers (with_local array number words own)
local-set own array number words has are =
    record { values = has.values; scalars = has.scalars; statics = has.statics; temps = has.temps; locals = maybe-replaced own.locals array number words has.locals are }

-- a named block with other elements
words-set : (g : Setting) (block : BlockRef) (words : List ℕ) (own : Own) (kind : ArrayKind) → OwnHasNumbers own → AreNumbers words → OwnHasNumbers (with_words g block words own kind)
words-set g block words own Static has are = record {
  values = has.values;
  scalars = has.scalars;
  statics = rows-replaced own.statics block.array (number_of g own block) words has.statics are;
  temps = has.temps;
  locals = has.locals;
}
words-set g block words own Temp has are = record {
  values = has.values;
  scalars = has.scalars;
  statics = has.statics;
  temps = replaced-has (λ x. IfSome x HoldsNumbers) own.temps block.array (Some (record { members = members_of g own block.at; words = words })) None has.temps are;
  locals = has.locals;
}
words-set g block words own Local has are = local-set own block.array (number_of g own block) (Some words) has are
words-set g block words own Distributed has are = has
words-set g block words own Served has are = has

-- a target's old elements
maybe-empty : (words : Option (List ℕ)) → IfSome words AreNumbers → AreNumbers (unwrap_or words [])
maybe-empty None has = nothing-numbers
maybe-empty (Some words) has = has

empty-has : (needed : Bool) (old : Option (List ℕ)) → IfSome old AreNumbers → IfAnswer AreNumbers (old_or_empty needed old)
empty-has true old has = must-have AreNumbers UnsetBlock old has
empty-has false old has = maybe-empty old has

old-has : (g : Setting) (own : Own) (block : BlockRef) (needed : Bool) (kind : ArrayKind) → OwnHasNumbers own → IfAnswer AreNumbers (old_words g own block needed kind)
old-has g own block needed Static has = has.statics block.array (number_of g own block)
old-has g own block needed Temp has =
    empty-has needed (held_words (temp_of own block.array) (members_of g own block.at)) (held-has (temp_of own block.array) (members_of g own block.at) (has.temps block.array))
old-has g own block needed Local has = must-have AreNumbers LocalMissing (local_block own block.array (number_of g own block)) (has.locals block.array (number_of g own block))
old-has g own block needed Distributed has = nothing-numbers
old-has g own block needed Served has = nothing-numbers

-- an assignment
target-done : (g : Setting) (to : Target) (op : Op) (side : Side) (own : Own) (partials : List ℕ) → OwnHasNumbers own → AreNumbers partials → SideHas side → IfAnswer DoneHas (to_target g to op side own partials)
target-done g (target.Scalar s) op side own partials has parts numbers = scalar-done g (scalar_class g s) s op side own partials has parts numbers
target-done g (target.Block b) op side own partials has parts numbers =
    then-has AreNumbers DoneHas (old_words g own b (needs_old op || is_insertion g.spaces b.at side) (array_kind g b.array)) _
    (old-has g own b (needs_old op || is_insertion g.spaces b.at side) (array_kind g b.array) has)
    (λ old are.
    (words-set g b (assigned g.spaces op (sight g own b old) side) own (array_kind g b.array) has (assigned-numbers g.spaces op (sight g own b old) side are numbers), parts))

-- local blocks made zeros, and taken away
allocated-has : (g : Setting) (array : ℕ) (numbers : List ℕ) (own : Own) → OwnHasNumbers own → OwnHasNumbers (all_allocated g array numbers own)
allocated-has g array [] own has = has
allocated-has g array (n ∷ ns) own has =
    allocated-has g array ns (with_local array n (Some (zeros g array n)) own) (local-set own array n (Some (zeros g array n)) has (zero-numbers (block_words g array n)))

deallocated-has : (array : ℕ) (numbers : List ℕ) (own : Own) → OwnHasNumbers own → OwnHasNumbers (all_deallocated array numbers own)
deallocated-has array [] own has = has
deallocated-has array (n ∷ ns) own has = deallocated-has array ns (with_local array n None own) (local-set own array n None has tt)

-- one answer or another
if-has : (b : Bool) (x y : Answer Done) → IfAnswer DoneHas x → IfAnswer DoneHas y → IfAnswer DoneHas (if b then x else y)
if-has true x y first second = first
if-has false x y first second = second

-- the numbers that a statement writes out
abbrev pub FormHas : Plain → Type 0
FormHas (Assign target op right) = RightHas right
FormHas form = Unit {0}

-- a local step
local-done : (g : Setting) (form : Plain) (values : List (List ℕ)) (own : Own) (partials : List ℕ) → FormHas form → OwnHasNumbers own → AreNumbers partials → ValuesHave values → IfAnswer DoneHas (local_step g form values own partials)
local-done g (Assign to op right) values own partials out has parts given =
    then-has SideHas DoneHas (side_read g own right values) _ (side-has g own right values out has given) (λ side numbers. target-done g to op side own partials has parts numbers)
local-done g (Allocate array at) values own partials out has parts given =
    if-has (list_any (is_allocated own array) (matched g own array at)) (Err LocalTwice) (quiet (all_allocated g array (matched g own array at) own) partials) tt
    (allocated-has g array (matched g own array at) own has, parts)
local-done g (Deallocate array at) values own partials out has parts given =
    if-has (list_any (λ n. not (is_allocated own array n)) (matched g own array at)) (Err LocalMissing) (quiet (all_deallocated array (matched g own array at) own) partials) tt
    (deallocated-has array (matched g own array at) own has, parts)
local-done g (Print text) values own partials out has parts given = (has, parts)
local-done g (PrintScalar scalar) values own partials out has parts given =
    then-has IsNumber DoneHas (or_trap UnsetScalar (scalar_of own scalar)) _ (must-have IsNumber UnsetScalar (scalar_of own scalar) (has.scalars scalar)) (λ n number. (has, parts))
local-done g (Integrals b) values own partials out has parts given =
    then-has AreNumbers DoneHas (old_words g own b false (array_kind g b.array)) _ (old-has g own b false (array_kind g b.array) has)
    (λ old are. (
      words-set g b (integrals (sight g own b [])) own (array_kind g b.array) has
          (mapped-numbers (λ t. integral 1 (whole_positions (sight g own b []).extents t) % 2 ^ 64) (tuples (lengths (sight g own b []).extents)) (λ t. left-number _)),
      parts,
    ))
local-done g (Do index body) values own partials out has parts given = (has, parts)
local-done g (DoIn sub index body) values own partials out has parts given = (has, parts)
local-done g (Pardo indices wheres body) values own partials out has parts given = (has, parts)
local-done g (If test body) values own partials out has parts given = (has, parts)
local-done g (IfElse test body other) values own partials out has parts given = (has, parts)
local-done g (Call procedure) values own partials out has parts given = (has, parts)
local-done g (Get block) values own partials out has parts given = (has, parts)
local-done g (Request block) values own partials out has parts given = (has, parts)
local-done g (Put block how from) values own partials out has parts given = (has, parts)
local-done g (Prepare block how from) values own partials out has parts given = (has, parts)
local-done g (Create array) values own partials out has parts given = (has, parts)
local-done g (Delete array) values own partials out has parts given = (has, parts)
local-done g (Collective into from) values own partials out has parts given = (has, parts)
local-done g SipBarrier values own partials out has parts given = (has, parts)
local-done g ServerBarrier values own partials out has parts given = (has, parts)

-- where a statement leads
abbrev pub OutcomeHas : Outcome → Type 0
OutcomeHas (Went s) = HasNumbers s
OutcomeHas (Stopped trap s) = HasNumbers s

-- logged reads change the log alone
reads-has : (g : Setting) (line : ℕ) (blocks : List BlockRef) (s : State) → HasNumbers s → HasNumbers (reads_logged g line blocks s)
reads-has g line [] s has = has
reads-has g line (b ∷ bs) s has = reads-has g line bs _ (record { own = has.own; partials = has.partials; shared = has.shared; copies = has.copies })

-- a shared block is one of its class
class-has : (shared : Shared) (c : _) (n : ℕ) → SharedHasNumbers shared → AreNumbers (shared_block shared c n)
class-has shared class.Distributed n has = has.distributed n
class-has shared class.Served n has = has.served n

-- the values of shared operands
values-have : (g : Setting) (reading : Reading) (s : State) (blocks : List BlockRef) → HasNumbers s → ValuesHave (values_of g reading s blocks)
values-have g reading s blocks has =
    mapped-has AreNumbers (λ b. shared_block (seen_by reading s) (named g s.own b).class (named g s.own b).block) blocks []
    (λ b. class-has (seen_by reading s) (named g s.own b).class (named g s.own b).block (seen reading)) nothing-numbers
  where
    seen : (r : Reading) → SharedHasNumbers (seen_by r s)
    seen Present = has.shared
    seen Copied = has.copies

-- a shared block after an access
stored-has : (line : ℕ) (place : Named) (how : Access) (words : List ℕ) (s : State) → HasNumbers s → AreNumbers words → HasNumbers (stored line place how words s)
stored-has line place how words s has are = by-class place.class place.block
  where
    by-class : (c : _) (n : ℕ) → HasNumbers (stored line (record { class = c; block = n }) how words s)
    by-class class.Distributed n =
        let old = slice_index_or s.shared.distributed n [] in
        record {
          own = has.own;
          partials = has.partials;
          shared = record { distributed = replaced-has AreNumbers s.shared.distributed n _ [] has.shared.distributed (accessed-numbers how old words (has.shared.distributed n) are); served = has.shared.served };
          copies = has.copies;
        }
    by-class class.Served n =
        let old = slice_index_or s.shared.served n [] in
        record {
          own = has.own;
          partials = has.partials;
          shared = record { distributed = has.shared.distributed; served = replaced-has AreNumbers s.shared.served n _ [] has.shared.served (accessed-numbers how old words (has.shared.served n) are) };
          copies = has.copies;
        }

put-has : (line : ℕ) (place : Named) (how : Access) (s : State) (words : Answer (List ℕ)) → HasNumbers s → IfAnswer AreNumbers words → OutcomeHas (put_done line place how s words)
put-has line place how s (Ok words) has are = stored-has line place how words s has are
put-has line place how s (Err kind) has are = has

-- consecutive blocks replaced
run-has : (first : ℕ) (ys xs : List (List ℕ)) → ((k : ℕ) → AreNumbers (slice_index_or ys k [])) → ((k : ℕ) → AreNumbers (slice_index_or xs k [])) → (k : ℕ) → AreNumbers (slice_index_or (with_run first ys xs) k [])
run-has first [] xs new old = old
run-has first (y ∷ ys) xs new old = run-has (first + 1) ys (slice_set xs first y) (λ k. new (suc k)) (replaced-has AreNumbers xs first y [] old (new 0))

-- an array created or deleted
run-state : (g : Setting) (array : ℕ) (now : Bool) (ys : List (List ℕ)) (s : State) → HasNumbers s → ((k : ℕ) → AreNumbers (slice_index_or ys k []))
    → (own : Own) → own ≡ with_created array now s.own → SharedHasNumbers (record s.shared { distributed = with_run (first_of_class g array) ys s.shared.distributed }) × OwnHasNumbers own
run-state g array now ys s has new own is = (
  record { distributed = run-has (first_of_class g array) ys s.shared.distributed new has.shared.distributed; served = has.shared.served },
  subst OwnHasNumbers (sym is) (record { values = has.own.values; scalars = has.own.scalars; statics = has.own.statics; temps = has.own.temps; locals = has.own.locals }),
)

created-has : (g : Setting) (array : ℕ) (s : State) → HasNumbers s → HasNumbers (created g array s)
created-has g array s has =
    let all = run-state g array true (for_each (block_count g array) (zeros g array)) s has
    (mapped-has AreNumbers (zeros g array) _ [] (λ n. zero-numbers (block_words g array n)) nothing-numbers) (with_created array true s.own) refl in
    record { own = all.1; partials = has.partials; shared = all.0; copies = record { distributed = all.0.distributed; served = has.copies.served } }

deleted-has : (g : Setting) (array : ℕ) (s : State) → HasNumbers s → HasNumbers (deleted g array s)
deleted-has g array s has =
    let all = run-state g array false (replicate (block_count g array) []) s has (alike-has AreNumbers (block_count g array) [] [] nothing-numbers nothing-numbers) (with_created array false s.own) refl in
    record { own = all.1; partials = has.partials; shared = all.0; copies = record { distributed = all.0.distributed; served = has.copies.served } }

-- a local statement
local-has : (line : ℕ) (s : State) (answer : Answer Done) → HasNumbers s → IfAnswer DoneHas answer → OutcomeHas (local_done line s answer)
local-has line s (Err kind) has done = has
local-has line s (Ok answer) has done = record { own = done.0; partials = done.1; shared = has.shared; copies = has.copies }

-- the effect of a statement
effect-has : (reading : Reading) (g : Setting) (line : ℕ) (form : Plain) (s : State) → FormHas form → HasNumbers s → OutcomeHas (effect reading g line form s)
effect-has reading g line (Get block) s out has = reads-has g line (block ∷ []) s has
effect-has reading g line (Request block) s out has = reads-has g line (block ∷ []) s has
effect-has reading g line (Put block how from) s out has =
    put-has line (named g s.own block) how s (words_of g s.own from []) has (words-have g s.own from [] (array_kind g from.array) has.own (λ k. nothing-numbers))
effect-has reading g line (Prepare block how from) s out has =
    put-has line (named g s.own block) how s (words_of g s.own from []) has (words-have g s.own from [] (array_kind g from.array) has.own (λ k. nothing-numbers))
effect-has reading g line (Create array) s out has = created-has g array s has
effect-has reading g line (Delete array) s out has = deleted-has g array s has
effect-has reading g line SipBarrier s out has =
    record { own = has.own; partials = has.partials; shared = has.shared; copies = record { distributed = has.shared.distributed; served = has.copies.served } }
effect-has reading g line ServerBarrier s out has =
    record { own = has.own; partials = has.partials; shared = has.shared; copies = record { distributed = has.copies.distributed; served = has.shared.served } }
effect-has reading g line (Collective into from) s out has =
    record { own = scalar-set s.own into _ has.own (left-number _); partials = has.partials; shared = has.shared; copies = has.copies }
effect-has reading g line form s out has =
    local-has line (reads_logged g line (reads_of g form) s) (local_step g form (values_of g reading s (reads_of g form)) s.own s.partials) (reads-has g line (reads_of g form) s has)
    (local-done g form (values_of g reading s (reads_of g form)) s.own s.partials out has.own has.partials (values-have g reading s (reads_of g form) has))

-- a statement, unless its created flags trap
pub statement-has : (reading : Reading) (g : Setting) (line : ℕ) (form : Plain) (s : State) → FormHas form → HasNumbers s → OutcomeHas (statement reading g line form s)
statement-has reading g line form s out has = by-trap (created_trap g form s.own)
  where
    by-trap : (trap : Option TrapKind) → OutcomeHas (unless_trapped line s trap (effect reading g line form))
    by-trap None = effect-has reading g line form s out has
    by-trap (Some kind) = has
