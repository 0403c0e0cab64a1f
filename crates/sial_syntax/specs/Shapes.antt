-- The shape rules: for each rule, whether a statement or a declaration breaks it, and the first fault.
use Rattle.std.specs.Prelude.{ℕ, List, [], ◌∷◌, ◌++◌, map, filter, flat_map, Bool, false, ◌==◌, ◌&&◌, ◌||◌, not, nat_lt, length, Option, Some, None, if◌then◌else◌}
use Rattle.std.specs.List.{list_any}
use Rattle.sial_syntax.specs.declared.array.ArrayDecl.{ArrayDecl}
use Rattle.sial_syntax.specs.declared.array.ArrayKind.TheVariants.{Temp, Local, Distributed, Served}
use Rattle.sial_syntax.specs.declared.index.IndexDecl.{IndexDecl}
use Rattle.sial_syntax.specs.declared.index.Range.{Range}
use Rattle.sial_syntax.specs.declared.index.Range.TheVariants.{Segments, Sub}
use Rattle.sial_syntax.specs.declared.operand.BlockRef.{BlockRef}
use Rattle.sial_syntax.specs.declared.operand.Target.{Target}
use Rattle.sial_syntax.specs.declared.operand.Target.TheVariants as target
use Rattle.sial_syntax.specs.Agreeing.{all_in, has_twice, share_any, same_list, has_kind, array_in, is_own, is_sub, is_sub_of, fits_dims, slots_fit, form_stands, assignment_agrees}
use Rattle.sial_syntax.specs.Parts.{blocks_named, slots_named, slot_index, condition_scalars, indices_used, indices_bound}
use Rattle.sial_syntax.specs.Spaces.{same_kind}
use Rattle.sial_syntax.specs.Tree.{Tree, Plain, Do, DoIn, Pardo, Assign, Get, Request, Put, Prepare, Create, Delete, Allocate, Deallocate, Integrals}
use Rattle.sial_syntax.specs.Visits.{Visit, all_visits}

-- a rule that is broken at a line
pub record Fault : Type 0 where
  pub line : ℕ
  pub rule : ℕ

-- whether a fault comes before another: by line, then by the rule's number
abbrev pub comes_before : Fault → Fault → Bool
comes_before a b = nat_lt a.line b.line || ((a.line == b.line) && nat_lt a.rule b.rule)

-- the earlier of a fault and perhaps another
abbrev pub earlier : Fault → Option Fault → Fault
earlier a None = a
earlier a (Some b) = if comes_before b a then b else a

-- the first fault, by line, then by the rule's number
abbrev pub first_fault : List Fault → Option Fault
first_fault [] = None
first_fault (f ∷ fs) = Some (earlier f (first_fault fs))

-- the indices that the conditions of a statement see bound beside those of its place
abbrev pub bound_in_conditions : Plain → List ℕ
bound_in_conditions (Pardo indices wheres body) = indices
bound_in_conditions _ = []

-- Unbound: an index is used that isn't bound there
abbrev pub breaks_unbound : Tree → Visit → Bool
breaks_unbound p v = not (all_in (indices_used v.form) (bound_in_conditions v.form ++ v.bound))

-- Rebound: a bound index is bound again, or a pardo names one twice
abbrev pub breaks_rebound : Tree → Visit → Bool
breaks_rebound p v = share_any (indices_bound v.form) v.bound || has_twice (indices_bound v.form)

-- Repeated: an index stands twice in one block or one slot list
abbrev pub breaks_repeated : Tree → Visit → Bool
breaks_repeated p v = list_any (λ (b : BlockRef). has_twice b.at) (blocks_named v.form) || has_twice (flat_map slot_index (slots_named v.form))

-- whether a loop or a pardo runs over an index that isn't of its kind
abbrev pub wrong_loop : Tree → Plain → Bool
wrong_loop p (Do index body) = is_sub p index
wrong_loop p (DoIn sub index body) = not (is_sub_of p sub index)
wrong_loop p (Pardo indices wheres body) = list_any (is_sub p) indices
wrong_loop p _ = false

-- whether a `where` names a scalar
abbrev pub wrong_where : Plain → Bool
wrong_where (Pardo indices wheres body) = nat_lt 0 (length (flat_map condition_scalars wheres))
wrong_where _ = false

-- whether a block's index may not stand where the array declares another
abbrev pub wrong_dims : Tree → BlockRef → Bool
wrong_dims p block = not (fits_dims p block.at (array_in p block.array).dims)

-- whether a slot may not stand where the array declares its index
abbrev pub wrong_slots : Tree → Plain → Bool
wrong_slots p (Allocate array at) = not (slots_fit p at (array_in p array).dims)
wrong_slots p (Deallocate array at) = not (slots_fit p at (array_in p array).dims)
wrong_slots p _ = false

-- whether a transfer's shared block isn't of this kind, or its source no block of the worker's own
abbrev pub wrong_transfer : Tree → (shared : Bool) → (from : ℕ) → Bool
wrong_transfer p shared from = not shared || not (is_own (array_in p from).kind)

-- whether an array isn't of the kind that its statement wants
abbrev pub wrong_array : Tree → Plain → Bool
wrong_array p (Get block) = not (has_kind p Distributed block.array)
wrong_array p (Request block) = not (has_kind p Served block.array)
wrong_array p (Put block how from) = wrong_transfer p (has_kind p Distributed block.array) from.array
wrong_array p (Prepare block how from) = wrong_transfer p (has_kind p Served block.array) from.array
wrong_array p (Create array) = not (has_kind p Distributed array)
wrong_array p (Delete array) = not (has_kind p Distributed array)
wrong_array p (Allocate array at) = not (has_kind p Local array)
wrong_array p (Deallocate array at) = not (has_kind p Local array)
wrong_array p _ = false

-- whether an assignment has none of its forms
abbrev pub wrong_form : Plain → Bool
wrong_form (Assign target op right) = not (form_stands target op right)
wrong_form _ = false

-- WrongKind: an index, an array or an operand is of a kind that may not stand there
abbrev pub breaks_kind : Tree → Visit → Bool
breaks_kind p v =
    (wrong_loop p v.form || wrong_where v.form) || ((list_any (wrong_dims p) (blocks_named v.form) || wrong_slots p v.form) || (wrong_array p v.form || wrong_form v.form))

-- whether a range cuts a subindex
abbrev pub cuts_sub : Tree → Range → Bool
cuts_sub p (Segments kind lo hi) = false
cuts_sub p (Sub super) = is_sub p super

-- WrongKind in a declaration: a subindex of a subindex
abbrev pub index_breaks_kind : Tree → IndexDecl → Bool
index_breaks_kind p index = cuts_sub p index.range

-- WrongKind in a declaration: a subindex in an array that isn't temp
abbrev pub array_breaks_kind : Tree → ArrayDecl → Bool
array_breaks_kind p array = not (same_kind array.kind Temp) && list_any (is_sub p) array.dims

-- whether a block hasn't the declared rank
abbrev pub wrong_rank : Tree → BlockRef → Bool
wrong_rank p block = not (length block.at == length (array_in p block.array).dims)

-- whether a slot list hasn't the declared rank
abbrev pub wrong_slot_rank : Tree → Plain → Bool
wrong_slot_rank p (Allocate array at) = not (length at == length (array_in p array).dims)
wrong_slot_rank p (Deallocate array at) = not (length at == length (array_in p array).dims)
wrong_slot_rank p _ = false

-- whether the indices of an assignment or a transfer don't agree
abbrev pub disagrees : Tree → Plain → Bool
disagrees p (Assign target op right) = not (assignment_agrees p target right)
disagrees p (Put block how from) = not (same_list block.at from.at)
disagrees p (Prepare block how from) = not (same_list block.at from.at)
disagrees p _ = false

-- WrongIndices: the rank isn't the declared one, or the indices of a form don't agree
abbrev pub breaks_indices : Tree → Visit → Bool
breaks_indices p v = list_any (wrong_rank p) (blocks_named v.form) || (wrong_slot_rank p v.form || disagrees p v.form)

-- whether a target is a shared block
abbrev pub is_shared_target : Tree → Target → Bool
is_shared_target p (target.Scalar s) = false
is_shared_target p (target.Block b) = not (is_own (array_in p b.array).kind)

-- whether a statement writes a shared block as if it were the worker's own
abbrev pub writes_shared : Tree → Plain → Bool
writes_shared p (Assign target op right) = is_shared_target p target
writes_shared p (Integrals block) = not (is_own (array_in p block.array).kind)
writes_shared p _ = false

-- NotWritable: an assignment or `compute_integrals` to a distributed or served array
abbrev pub breaks_writable : Tree → Visit → Bool
breaks_writable p v = writes_shared p v.form

-- a rule, broken at the lines of these statements
abbrev pub broken_at : (rule : ℕ) → (Visit → Bool) → List Visit → List Fault
broken_at rule breaks visits = map (λ (v : Visit). record { line = v.line; rule = rule }) (filter breaks visits)

-- the declarations that break WrongKind
abbrev pub declarations_broken : Tree → List Fault
declarations_broken p =
    map (λ (i : IndexDecl). record { line = i.line; rule = 4 }) (filter (index_breaks_kind p) p.indices)
    ++ map (λ (a : ArrayDecl). record { line = a.line; rule = 4 }) (filter (array_breaks_kind p) p.arrays)

-- all faults of shape: 1 Unbound, 2 Rebound, 3 Repeated, 4 WrongKind, 5 WrongIndices, 6 NotWritable
abbrev pub shape_faults : Tree → List Fault
shape_faults p =
    broken_at 1 (breaks_unbound p) (all_visits p)
    ++ broken_at 2 (breaks_rebound p) (all_visits p)
    ++ broken_at 3 (breaks_repeated p) (all_visits p)
    ++ declarations_broken p
    ++ broken_at 4 (breaks_kind p) (all_visits p)
    ++ broken_at 5 (breaks_indices p) (all_visits p)
    ++ broken_at 6 (breaks_writable p) (all_visits p)

-- the first fault of shape, none where the shape rules grant the program
abbrev pub shape_fault : Tree → Option Fault
shape_fault p = first_fault (shape_faults p)
