-- What `allocate` and `deallocate` need, and how their answers are those of the definitions.
use Rattle.std.specs.Prelude.{◌≡◌, ℕ, ◌≤◌, Bool, true, false, not, Result, Ok, Err}
use Rattle.sial_syntax.specs.declared.array.ArrayKind.TheVariants.{Local}
use Rattle.sial_meaning.specs.declared.trap.TrapKind.{TrapKind}
use Rattle.sial_meaning.specs.LocalStep.{Answer, Done}
use Rattle.sial_meaning.specs.Own.{Own}
use Rattle.sial_meaning.specs.Setting.{Setting, block_count}
use Rattle.block_pool.specs.Memory.{Memory, free_in, last_class}
use Rattle.block_seats.specs.Counted.{empty_count}
use Rattle.exec_blocks.specs.Kept.{Kept, place_by}

-- a slot is free for each block of a local array that isn't allocated
abbrev pub HasLocalRoom : Setting → Memory → Kept → (array : ℕ) → Type 0
HasLocalRoom g p b array = empty_count b.seats.slots (place_by g b array 0 Local) (block_count g array) ≤ free_in p last_class

-- a call did what a statement does, and so the blocks stand for what a worker holds after it; or it answered the statement's trap
abbrev pub Answers : Answer Done → (stand : Own → Type 0) → Result (Unit {0}) TrapKind → Type 0
Answers (Ok done) stand (Ok x) = stand done.own
Answers (Ok done) stand (Err trap) = ⊥
Answers (Err kind) stand (Ok x) = ⊥
Answers (Err kind) stand (Err trap) = trap ≡ kind

-- a test, or its contrary
abbrev pub is_as : (wanted : Bool) → Bool → Bool
is_as true b = b
is_as false b = not b
