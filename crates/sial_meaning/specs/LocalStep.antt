-- What one statement does to what a worker holds, given the values of its shared operands.
use Rattle.std.specs.Prelude.{ℕ, ◌+◌, ◌-◌, ◌*◌, ◌%◌, ◌^◌, List, [], ◌∷◌, ◌++◌, map, drop, length, is_some, Bool, true, false, ◌||◌, not, if◌then◌else◌, slice_index_or, slice_set, Option, Some, None, Result, Ok, Err, unwrap_or, decimal, codes}
use Rattle.std.specs.List.{list_any, flat_map}
use Rattle.sial_syntax.specs.declared.array.ArrayKind.{ArrayKind}
use Rattle.sial_syntax.specs.declared.array.ArrayKind.TheVariants.{Static, Temp, Local, Distributed, Served}
use Rattle.sial_syntax.specs.declared.classes.ScalarClass.{ScalarClass}
use Rattle.sial_syntax.specs.declared.classes.ScalarClass.TheVariants.{Replicated, Private, Partial}
use Rattle.sial_syntax.specs.declared.operand.BlockRef.{BlockRef}
use Rattle.sial_syntax.specs.declared.operand.Op.{Op}
use Rattle.sial_syntax.specs.declared.operand.Op.TheVariants as op
use Rattle.sial_syntax.specs.declared.operand.Operand.{Operand}
use Rattle.sial_syntax.specs.declared.operand.Operand.TheVariants as operand
use Rattle.sial_syntax.specs.declared.operand.Right.{Right}
use Rattle.sial_syntax.specs.declared.operand.Right.TheVariants.{One, Two}
use Rattle.sial_syntax.specs.declared.operand.Slot.{Slot}
use Rattle.sial_syntax.specs.declared.operand.Slot.TheVariants.{At, All}
use Rattle.sial_syntax.specs.declared.operand.Target.{Target}
use Rattle.sial_syntax.specs.declared.operand.Target.TheVariants as target
use Rattle.sial_syntax.specs.Boxes.{numbers_from, place_of, tuples}
use Rattle.sial_syntax.specs.Spaces.{first_of, count_of, box_of, Extent}
use Rattle.sial_syntax.specs.Tree.{Plain, Assign, Allocate, Deallocate, Print, PrintScalar, Integrals}
use Rattle.sial_meaning.specs.declared.trap.TrapKind.{TrapKind}
use Rattle.sial_meaning.specs.declared.trap.TrapKind.TheVariants.{UnsetBlock, UnsetScalar, LocalMissing, LocalTwice}
use Rattle.sial_meaning.specs.Number.{combined}
use Rattle.sial_meaning.specs.Sight.{Sight, lengths}
use Rattle.sial_meaning.specs.Right.{Term, Plain as Uniform, Shown, Side, Alone, Joined, side_at, assigned, is_insertion}
use Rattle.sial_meaning.specs.Setting.{Setting, array_kind, dims_of, scalar_class, scalar_name, zeros}
use Rattle.sial_meaning.specs.Own.{Own, Held, value_of, sight, number_of, members_of, same_members, static_block, with_static, temp_of, with_temp, local_block, with_local, scalar_of, with_scalar}

-- what a worker holds after a statement, with the partial scalars and the lines that it printed
pub record Done : Type 0 where
  pub own : Own
  pub partials : List ℕ
  pub printed : List (List ℕ)

-- the answer of a step that may trap
abbrev pub Answer : Type 0 → Type 0
Answer X = Result X TrapKind

-- what follows an answer that is no trap
abbrev pub and_then : {X Y : Type 0} → Answer X → (X → Answer Y) → Answer Y
and_then (Ok x) f = f x
and_then (Err kind) f = Err kind

-- a value that must be there
abbrev pub or_trap : {X : Type 0} → TrapKind → Option X → Answer X
or_trap kind None = Err kind
or_trap kind (Some x) = Ok x

-- a temp's elements, where it holds the named block
abbrev pub held_words : Option Held → List (ℕ × ℕ) → Option (List ℕ)
held_words None members = None
held_words (Some held) members = if same_members held.members members then Some held.words else None

-- whether a kind of array is shared
abbrev pub is_shared_kind : ArrayKind → Bool
is_shared_kind Static = false
is_shared_kind Temp = false
is_shared_kind Local = false
is_shared_kind Distributed = true
is_shared_kind Served = true

-- the first of the values that are left, for a shared operand
abbrev pub first_value : List (List ℕ) → List ℕ
first_value values = slice_index_or values 0 []

-- the elements of a named block of an array of this kind, the first value where it is shared
abbrev pub words_by_kind : Setting → Own → BlockRef → List (List ℕ) → ArrayKind → Answer (List ℕ)
words_by_kind g own block values Static = Ok (static_block own block.array (number_of g own block))
words_by_kind g own block values Temp = or_trap UnsetBlock (held_words (temp_of own block.array) (members_of g own block.at))
words_by_kind g own block values Local = or_trap LocalMissing (local_block own block.array (number_of g own block))
words_by_kind g own block values Distributed = Ok (first_value values)
words_by_kind g own block values Served = Ok (first_value values)

-- the elements of a named block
abbrev pub words_of : Setting → Own → BlockRef → List (List ℕ) → Answer (List ℕ)
words_of g own block values = words_by_kind g own block values (array_kind g block.array)

-- an operand, read
abbrev pub term_of : Setting → Own → Operand → List (List ℕ) → Answer Term
term_of g own (operand.Number n) values = Ok (Uniform n)
term_of g own (operand.Scalar s) values = and_then (or_trap UnsetScalar (scalar_of own s)) (λ n. Ok (Uniform n))
term_of g own (operand.Block b) values = and_then (words_of g own b values) (λ words. Ok (Shown (sight g own b words)))

-- the shared block that an operand names
abbrev pub shared_operand : Setting → Operand → List BlockRef
shared_operand g (operand.Number n) = []
shared_operand g (operand.Scalar s) = []
shared_operand g (operand.Block b) = if is_shared_kind (array_kind g b.array) then b ∷ [] else []

-- the shared blocks that a right side names, as written
abbrev pub shared_in : Setting → Right → List BlockRef
shared_in g (One a) = shared_operand g a
shared_in g (Two a bin b) = shared_operand g a ++ shared_operand g b

-- a right side, its operands read from left to right
abbrev pub side_read : Setting → Own → Right → List (List ℕ) → Answer Side
side_read g own (One a) values = and_then (term_of g own a values) (λ x. Ok (Alone x))
side_read g own (Two a bin b) values =
    and_then (term_of g own a values) (λ x. and_then (term_of g own b (drop (length (shared_operand g a)) values)) (λ y. Ok (Joined x bin y)))

-- whether an assignment needs its target's old value
abbrev pub needs_old : Op → Bool
needs_old op.Set = false
needs_old op.Add = true
needs_old op.Subtract = true
needs_old op.Scale = true

-- the worker's part after a statement that printed nothing
abbrev pub quiet : Own → List ℕ → Answer Done
quiet own partials = Ok (record { own = own; partials = partials; printed = [] })

-- the number of a right side for a scalar
abbrev pub scalar_value : Setting → Side → ℕ
scalar_value g side = unwrap_or (side_at g.spaces [] side) 0

-- a scalar after an assignment, where the old value is at hand or isn't needed
abbrev pub scalar_assigned : (scalar : ℕ) → Op → ℕ → Own → List ℕ → Bool → Answer ℕ → Answer Done
scalar_assigned scalar op value own partials false old = quiet (with_scalar scalar value own) partials
scalar_assigned scalar op value own partials true old = and_then old (λ n. quiet (with_scalar scalar (combined op n value) own) partials)

-- an assignment to a scalar of this class
abbrev pub to_scalar : Setting → ScalarClass → (scalar : ℕ) → Op → Side → Own → List ℕ → Answer Done
to_scalar g Replicated scalar op side own partials = scalar_assigned scalar op (scalar_value g side) own partials (needs_old op) (or_trap UnsetScalar (scalar_of own scalar))
to_scalar g Private scalar op side own partials = scalar_assigned scalar op (scalar_value g side) own partials (needs_old op) (or_trap UnsetScalar (scalar_of own scalar))
to_scalar g Partial scalar op side own partials = quiet own (slice_set partials scalar (combined op (slice_index_or partials scalar 0) (scalar_value g side)))

-- the elements of a temp that an assignment replaces, where none are needed
abbrev pub old_or_empty : Bool → Option (List ℕ) → Answer (List ℕ)
old_or_empty true old = or_trap UnsetBlock old
old_or_empty false old = Ok (unwrap_or old [])

-- a target's elements before an assignment: a temp's where they are needed, and a local block's always
abbrev pub old_words : Setting → Own → BlockRef → Bool → ArrayKind → Answer (List ℕ)
old_words g own block needed Static = Ok (static_block own block.array (number_of g own block))
old_words g own block needed Temp = old_or_empty needed (held_words (temp_of own block.array) (members_of g own block.at))
old_words g own block needed Local = or_trap LocalMissing (local_block own block.array (number_of g own block))
old_words g own block needed Distributed = Ok []
old_words g own block needed Served = Ok []

-- what a worker holds with these elements in a named block; shared blocks aren't its own
abbrev pub with_words : Setting → BlockRef → List ℕ → Own → ArrayKind → Own
with_words g block words own Static = with_static block.array (number_of g own block) words own
with_words g block words own Temp = with_temp block.array (record { members = members_of g own block.at; words = words }) own
with_words g block words own Local = with_local block.array (number_of g own block) (Some words) own
with_words g block words own Distributed = own
with_words g block words own Served = own

-- an assignment to a block
abbrev pub to_block : Setting → BlockRef → Op → Side → Own → List ℕ → Answer Done
to_block g block op side own partials =
    and_then
    (old_words g own block (needs_old op || is_insertion g.spaces block.at side) (array_kind g block.array))
    (λ old. quiet (with_words g block (assigned g.spaces op (sight g own block old) side) own (array_kind g block.array)) partials)

-- an assignment whose right side was read
abbrev pub to_target : Setting → Target → Op → Side → Own → List ℕ → Answer Done
to_target g (target.Scalar s) op side own partials = to_scalar g (scalar_class g s) s op side own partials
to_target g (target.Block b) op side own partials = to_block g b op side own partials

-- the numbers in one dimension that a slot matches, counted from the first
abbrev pub matched_by : Setting → Own → (dim : ℕ) → Slot → List ℕ
matched_by g own dim (At index) = (value_of own index - first_of g.spaces dim) ∷ []
matched_by g own dim All = numbers_from 0 (count_of g.spaces dim)

-- the tuples that the slots match
abbrev pub matched_tuples : Setting → Own → List ℕ → List Slot → List (List ℕ)
matched_tuples g own [] slots = [] ∷ []
matched_tuples g own (d ∷ ds) [] = []
matched_tuples g own (d ∷ ds) (x ∷ xs) = flat_map (λ k. map (λ t. k ∷ t) (matched_tuples g own ds xs)) (matched_by g own d x)

-- the numbers of the blocks that the slots match
abbrev pub matched : Setting → Own → (array : ℕ) → List Slot → List ℕ
matched g own array slots = map (place_of (box_of g.spaces (dims_of g array))) (matched_tuples g own (dims_of g array) slots)

-- whether a local block is allocated
abbrev pub is_allocated : Own → (array number : ℕ) → Bool
is_allocated own array number = is_some (local_block own array number)

-- these local blocks made zeros
abbrev pub all_allocated : Setting → (array : ℕ) → List ℕ → Own → Own
all_allocated g array [] own = own
all_allocated g array (n ∷ ns) own = all_allocated g array ns (with_local array n (Some (zeros g array n)) own)

-- these local blocks taken away
abbrev pub all_deallocated : (array : ℕ) → List ℕ → Own → Own
all_deallocated array [] own = own
all_deallocated array (n ∷ ns) own = all_deallocated array ns (with_local array n None own)

-- `allocate`, which no matched block may have met
abbrev pub allocated : Setting → (array : ℕ) → List ℕ → Own → List ℕ → Answer Done
allocated g array numbers own partials =
    if list_any (is_allocated own array) numbers then Err LocalTwice else quiet (all_allocated g array numbers own) partials

-- `deallocate`, which each matched block must have met
abbrev pub deallocated : (array : ℕ) → List ℕ → Own → List ℕ → Answer Done
deallocated array numbers own partials =
    if list_any (λ n. not (is_allocated own array n)) numbers then Err LocalMissing else quiet (all_deallocated array numbers own) partials

-- the integral at whole positions: 1, 3, 5, .. times the first, the second, the third, .. position
abbrev pub integral : (weight : ℕ) → List ℕ → ℕ
integral weight [] = 0
integral weight (p ∷ ps) = weight * p + integral (weight + 2) ps

-- the whole positions that a tuple of offsets names
abbrev pub whole_positions : List Extent → List ℕ → List ℕ
whole_positions [] tuple = []
whole_positions (e ∷ es) [] = []
whole_positions (e ∷ es) (k ∷ ks) = (e.start + k) ∷ whole_positions es ks

-- a block of integrals
abbrev pub integrals : Sight → List ℕ
integrals target = map (λ t. integral 1 (whole_positions target.extents t) % 2 ^ 64) (tuples (lengths target.extents))

-- `compute_integrals`
abbrev pub integrated : Setting → BlockRef → Own → List ℕ → Answer Done
integrated g block own partials =
    and_then
    (old_words g own block false (array_kind g block.array))
    (λ old. quiet (with_words g block (integrals (sight g own block [])) own (array_kind g block.array)) partials)

-- the line of `print_scalar`
abbrev pub scalar_line : Setting → (scalar number : ℕ) → List ℕ
scalar_line g scalar number = scalar_name g scalar ++ (codes " " ++ decimal number)

-- what a statement that touches only what the worker holds does, or its trap; `values` are the shared operands' in order
abbrev pub local_step : Setting → Plain → (values : List (List ℕ)) → Own → (partials : List ℕ) → Answer Done
local_step g (Assign target op right) values own partials = and_then (side_read g own right values) (λ side. to_target g target op side own partials)
local_step g (Allocate array at) values own partials = allocated g array (matched g own array at) own partials
local_step g (Deallocate array at) values own partials = deallocated array (matched g own array at) own partials
local_step g (Print text) values own partials = Ok (record { own = own; partials = partials; printed = text ∷ [] })
local_step g (PrintScalar scalar) values own partials =
    and_then (or_trap UnsetScalar (scalar_of own scalar)) (λ n. Ok (record { own = own; partials = partials; printed = scalar_line g scalar n ∷ [] }))
local_step g (Integrals block) values own partials = integrated g block own partials
local_step g _ values own partials = quiet own partials
