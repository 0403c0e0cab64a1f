-- The rules that one statement breaks where it stands, and those that its parts break.
use Rattle.std.specs.Prelude.{ℕ, List, ◌++◌, flat_map, length, Bool, false, ◌==◌, ◌||◌, nat_lt, not}
use Rattle.std.specs.List.{list_any}
use Rattle.sial_syntax.specs.declared.array.ArrayKind.TheVariants.{Local, Distributed, Served}
use Rattle.sial_syntax.specs.declared.condition.Cond.{Cond}
use Rattle.sial_syntax.specs.declared.operand.BlockRef.{BlockRef}
use Rattle.sial_syntax.specs.declared.operand.Op.{Op}
use Rattle.sial_syntax.specs.declared.operand.Operand.{Operand}
use Rattle.sial_syntax.specs.declared.operand.Operand.TheVariants as operand
use Rattle.sial_syntax.specs.declared.operand.Right.{Right}
use Rattle.sial_syntax.specs.declared.operand.Right.TheVariants.{One, Two}
use Rattle.sial_syntax.specs.declared.operand.Slot.{Slot}
use Rattle.sial_syntax.specs.declared.operand.Target.{Target}
use Rattle.sial_syntax.specs.declared.operand.Target.TheVariants as target
use Rattle.sial_syntax.specs.Agreeing.{all_in, contains, has_twice, share_any, same_list, has_kind, array_in, is_own, is_sub, is_sub_of, slots_fit, form_stands, assignment_agrees}
use Rattle.sial_syntax.specs.Parts.{slot_index, condition_indices, condition_scalars}
use Rattle.sial_syntax.specs.Shapes.{breaks_unbound, breaks_rebound, breaks_repeated, breaks_kind, breaks_indices, breaks_writable, wrong_dims, wrong_rank, wrong_transfer, is_shared_target}
use Rattle.sial_syntax.specs.Tree.{Tree, Plain, Do, DoIn, Pardo, If, IfElse, Call, Assign, Get, Request, Put, Prepare, Create, Delete, Allocate, Deallocate, Collective, SipBarrier, ServerBarrier, Print, PrintScalar, Integrals}
use Rattle.sial_syntax.specs.Visits.{Visit}
use Rattle.shape_check.specs.declared.broken.Broken.{Broken}

-- the rules that a statement breaks where it stands
abbrev pub breaks : Tree → Visit → Broken
breaks p v = record {
  unbound = breaks_unbound p v;
  rebound = breaks_rebound p v;
  repeated = breaks_repeated p v;
  kind = breaks_kind p v;
  indices = breaks_indices p v;
  writable = breaks_writable p v;
}

-- no rule
abbrev pub nothing : Broken
nothing = record { unbound = false; rebound = false; repeated = false; kind = false; indices = false; writable = false }

-- at most the rule on kinds
abbrev pub only_kind : Bool → Broken
only_kind kind = record { unbound = false; rebound = false; repeated = false; kind = kind; indices = false; writable = false }

-- at most the rule that indices are bound
abbrev pub only_unbound : Bool → Broken
only_unbound unbound = record { unbound = unbound; rebound = false; repeated = false; kind = false; indices = false; writable = false }

-- the rules of both
abbrev pub either : Broken → Broken → Broken
either a b = record {
  unbound = a.unbound || b.unbound;
  rebound = a.rebound || b.rebound;
  repeated = a.repeated || b.repeated;
  kind = a.kind || b.kind;
  indices = a.indices || b.indices;
  writable = a.writable || b.writable;
}

-- a block where it is named
abbrev pub block_breaks : Tree → List ℕ → BlockRef → Broken
block_breaks p bound block = record {
  unbound = not (all_in block.at bound);
  rebound = false;
  repeated = has_twice block.at;
  kind = wrong_dims p block;
  indices = wrong_rank p block;
  writable = false;
}

-- the indices of a slot list
abbrev pub indices_of_slots : List Slot → List ℕ
indices_of_slots at = flat_map slot_index at

-- the slots of an array
abbrev pub slots_break : Tree → List ℕ → (array : ℕ) → List Slot → Broken
slots_break p bound array at = record {
  unbound = not (all_in (indices_of_slots at) bound);
  rebound = false;
  repeated = has_twice (indices_of_slots at);
  kind = not (slots_fit p at (array_in p array).dims) || not (has_kind p Local array);
  indices = not (length at == length (array_in p array).dims);
  writable = false;
}

-- a condition
abbrev pub condition_breaks : List ℕ → Cond → Broken
condition_breaks bound cond = only_unbound (not (all_in (condition_indices cond) bound))

-- an operand
abbrev pub operand_breaks : Tree → List ℕ → Operand → Broken
operand_breaks p bound (operand.Number n) = nothing
operand_breaks p bound (operand.Scalar s) = nothing
operand_breaks p bound (operand.Block b) = block_breaks p bound b

-- a right side's operands
abbrev pub right_breaks : Tree → List ℕ → Right → Broken
right_breaks p bound (One a) = operand_breaks p bound a
right_breaks p bound (Two a bin b) = either (operand_breaks p bound a) (operand_breaks p bound b)

-- a target
abbrev pub target_breaks : Tree → List ℕ → Target → Broken
target_breaks p bound (target.Scalar s) = nothing
target_breaks p bound (target.Block b) = block_breaks p bound b

-- an assignment's form and indices, and whether its target may be written
abbrev pub agreement_breaks : Tree → Target → Op → Right → Broken
agreement_breaks p target op right = record {
  unbound = false;
  rebound = false;
  repeated = false;
  kind = not (form_stands target op right);
  indices = not (assignment_agrees p target right);
  writable = is_shared_target p target;
}

-- an assignment
abbrev pub assignment_breaks : Tree → List ℕ → Target → Op → Right → Broken
assignment_breaks p bound target op right =
    either (either (target_breaks p bound target) (right_breaks p bound right)) (agreement_breaks p target op right)

-- a transfer whose shared block is of its kind or not
abbrev pub transfer_breaks : Tree → List ℕ → (shared : Bool) → BlockRef → (from : BlockRef) → Broken
transfer_breaks p bound shared block from = either (either (block_breaks p bound block) (block_breaks p bound from)) (record {
  unbound = false;
  rebound = false;
  repeated = false;
  kind = wrong_transfer p shared from.array;
  indices = not (same_list block.at from.at);
  writable = false;
})

-- a block that is named alone, of an array that is of the kind wanted or not
abbrev pub named_breaks : Tree → List ℕ → (wanted : Bool) → BlockRef → Broken
named_breaks p bound wanted block = either (block_breaks p bound block) (only_kind (not wanted))

-- a block that is computed
abbrev pub integrals_break : Tree → List ℕ → BlockRef → Broken
integrals_break p bound block = either (block_breaks p bound block) (record {
  unbound = false;
  rebound = false;
  repeated = false;
  kind = false;
  indices = false;
  writable = not (is_own (array_in p block.array).kind);
})

-- a loop over an index
abbrev pub loop_breaks : Tree → List ℕ → (index : ℕ) → Broken
loop_breaks p bound index = record {
  unbound = false;
  rebound = contains bound index;
  repeated = false;
  kind = is_sub p index;
  indices = false;
  writable = false;
}

-- a loop over the pieces of an index
abbrev pub pieces_break : Tree → List ℕ → (sub index : ℕ) → Broken
pieces_break p bound sub index = record {
  unbound = not (contains bound index);
  rebound = contains bound sub;
  repeated = false;
  kind = not (is_sub_of p sub index);
  indices = false;
  writable = false;
}

-- a pardo's indices and its conditions, which see these indices bound
abbrev pub pardo_breaks : Tree → List ℕ → (indices : List ℕ) → List Cond → Broken
pardo_breaks p bound indices wheres = record {
  unbound = not (all_in (flat_map condition_indices wheres) (indices ++ bound));
  rebound = share_any indices bound || has_twice indices;
  repeated = false;
  kind = list_any (is_sub p) indices || nat_lt 0 (length (flat_map condition_scalars wheres));
  indices = false;
  writable = false;
}

-- a statement, form by form
abbrev pub form_breaks : Tree → List ℕ → Plain → Broken
form_breaks p bound (Do index body) = loop_breaks p bound index
form_breaks p bound (DoIn sub index body) = pieces_break p bound sub index
form_breaks p bound (Pardo indices wheres body) = pardo_breaks p bound indices wheres
form_breaks p bound (If cond body) = condition_breaks bound cond
form_breaks p bound (IfElse cond body other) = condition_breaks bound cond
form_breaks p bound (Call procedure) = nothing
form_breaks p bound (Assign target op right) = assignment_breaks p bound target op right
form_breaks p bound (Get block) = named_breaks p bound (has_kind p Distributed block.array) block
form_breaks p bound (Request block) = named_breaks p bound (has_kind p Served block.array) block
form_breaks p bound (Put block how from) = transfer_breaks p bound (has_kind p Distributed block.array) block from
form_breaks p bound (Prepare block how from) = transfer_breaks p bound (has_kind p Served block.array) block from
form_breaks p bound (Create array) = only_kind (not (has_kind p Distributed array))
form_breaks p bound (Delete array) = only_kind (not (has_kind p Distributed array))
form_breaks p bound (Allocate array at) = slots_break p bound array at
form_breaks p bound (Deallocate array at) = slots_break p bound array at
form_breaks p bound (Collective into from) = nothing
form_breaks p bound SipBarrier = nothing
form_breaks p bound ServerBarrier = nothing
form_breaks p bound (Print text) = nothing
form_breaks p bound (PrintScalar scalar) = nothing
form_breaks p bound (Integrals block) = integrals_break p bound block
