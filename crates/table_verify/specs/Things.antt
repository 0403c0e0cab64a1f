-- The numbers of things and texts that tables name.
use Rattle.std.specs.Prelude.{ℕ, ◌+◌, List, [], ◌∷◌, Bool, true, false, ◌&&◌, ◌==◌, if◌then◌else◌, Option, Some, None, slice_get}
use Rattle.std.specs.List.{list_all}
use Rattle.sial_syntax.specs.Limits.{most_pardo, most_rank}
use Rattle.sial_syntax.specs.Names.{is_text}
use Rattle.sial_syntax.specs.Proper.{has_index, has_array, has_scalar, has_procedure, has_length, proper_block, proper_cond, proper_right, proper_slot, proper_target, is_write}
use Rattle.sial_syntax.specs.Tree.{Tree}
use Rattle.sip_tables.specs.declared.instruction.Instruction.{Instruction}
use Rattle.sip_tables.specs.declared.instruction.Operation.{Operation}
use Rattle.sip_tables.specs.declared.instruction.Operation.TheVariants as op
use Rattle.table_verify.specs.Closings.{begins}

-- whether the things that an operation names are there, in a program
abbrev pub names_things : Tree → Operation → Bool
names_things p (op.Do index past) = has_index p index
names_things p (op.DoIn sub index past) = has_index p sub && has_index p index
names_things p (op.If cond otherwise) = proper_cond p cond
names_things p (op.Where cond) = proper_cond p cond
names_things p (op.Pardo indices end) = has_length most_pardo indices && list_all (has_index p) indices
names_things p (op.Call procedure entry) = has_procedure p procedure
names_things p (op.Assign target combining right) = proper_target p target && proper_right p right
names_things p (op.Get block) = proper_block p block
names_things p (op.Request block) = proper_block p block
names_things p (op.Put block how from) = proper_block p block && (is_write how && proper_block p from)
names_things p (op.Prepare block how from) = proper_block p block && (is_write how && proper_block p from)
names_things p (op.Create array) = has_array p array
names_things p (op.Delete array) = has_array p array
names_things p (op.Allocate array at) = has_array p array && (has_length most_rank at && list_all (proper_slot p) at)
names_things p (op.Deallocate array at) = has_array p array && (has_length most_rank at && list_all (proper_slot p) at)
names_things p (op.Collective into from) = has_scalar p into && has_scalar p from
names_things p (op.PrintScalar scalar) = has_scalar p scalar
names_things p (op.Integrals block) = proper_block p block
names_things p _ = true

-- whether there is a text and it may be printed
abbrev pub is_printed : Option (List ℕ) → Bool
is_printed None = false
is_printed (Some text) = is_text text

-- whether an operation prints no text but the next one
abbrev pub prints_next : List (List ℕ) → (next : ℕ) → Operation → Bool
prints_next texts next (op.Print number) = (number == next) && is_printed (slice_get texts number)
prints_next texts next _ = true

-- whether both hold
abbrev pub is_right : Tree → List (List ℕ) → (next : ℕ) → Operation → Bool
is_right p texts next operation = names_things p operation && prints_next texts next operation

-- how many texts an operation prints
abbrev pub prints_of : Operation → ℕ
prints_of (op.Print number) = 1
prints_of _ = 0

-- how many texts code prints
abbrev pub prints_in : List Instruction → ℕ
prints_in [] = 0
prints_in (i ∷ code) = prints_of i.operation + prints_in code

-- how many statements begin in code
abbrev pub begun : Operation → ℕ
begun operation = if begins operation then 1 else 0

abbrev pub begun_in : List Instruction → ℕ
begun_in [] = 0
begun_in (i ∷ code) = begun i.operation + begun_in code
