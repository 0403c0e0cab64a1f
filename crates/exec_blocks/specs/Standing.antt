-- A worker's own blocks stand in a pool, and they are those of a state.
use Rattle.std.specs.Prelude.{◌≡◌, ℕ, ◌+◌, ◌<◌, List, [], length, map, false, slice_index_or, Some, None}
use Rattle.std.specs.Option.{option_map}
use Rattle.index_spaces.specs.Placed.{bare}
use Rattle.sial_syntax.specs.declared.array.ArrayKind.TheVariants.{Static, Temp, Local}
use Rattle.sial_syntax.specs.declared.operand.BlockRef.{BlockRef}
use Rattle.sial_syntax.specs.Spaces.{blocks_together, same_kind}
use Rattle.sial_meaning.specs.LocalStep.{is_shared_kind}
use Rattle.sial_meaning.specs.Own.{Own, Held, static_block, local_block, temp_of}
use Rattle.sial_meaning.specs.Setting.{Setting, array_kind, dims_of, block_count}
use Rattle.block_pool.specs.Memory.{Memory, free_in, last_class}
use Rattle.block_pool.specs.Standing.{lease_at}
use Rattle.block_seats.specs.Seated.{SeatsStand, block_at}
use Rattle.exec_names.specs.Naming.{IsAmong}
use Rattle.exec_blocks.specs.Kept.{Kept, place_by, place_of}

-- there is a place for each block of a static or local array, and one for each array
pub record IsLaidOut (g : Setting) (b : Kept) : Type 0 where
  pub locals_at : b.locals_at ≡ blocks_together g.spaces Static g.program.arrays
  pub temps_at : b.temps_at ≡ b.locals_at + blocks_together g.spaces Local g.program.arrays
  pub places : length b.seats.slots ≡ b.temps_at + length g.program.arrays
  pub tuples : length b.tuples ≡ length g.program.arrays
  pub ranks : (array : ℕ) → array < length g.program.arrays → length (slice_index_or b.tuples array []) ≡ length (dims_of g array)

-- the blocks stand in a pool, each at its place
pub record AreIn (g : Setting) (p : Memory) (b : Kept) : Type 0 where
  pub seats : SeatsStand p b.seats
  pub laid : IsLaidOut g b

-- a state has as many rows as the program has arrays, each with as many blocks as the array
pub record HasRows (g : Setting) (own : Own) : Type 0 where
  pub statics : length own.statics ≡ length g.program.arrays
  pub temps : length own.temps ≡ length g.program.arrays
  pub locals : length own.locals ≡ length g.program.arrays
  pub static_rows : (array : ℕ) → array_kind g array ≡ Static → length (slice_index_or own.statics array []) ≡ block_count g array
  pub local_rows : (array : ℕ) → array_kind g array ≡ Local → length (slice_index_or own.locals array []) ≡ block_count g array

-- of an array of another kind a state has no static row, no local row, and no block of a temp, for which none stands
abbrev pub HasNoOthers : Setting → Memory → Kept → Own → Type 0
HasNoOthers g p b own =
    (array : ℕ) → array < length g.program.arrays
    → (same_kind (array_kind g array) Static ≡ false → slice_index_or own.statics array [] ≡ [])
    × (same_kind (array_kind g array) Local ≡ false → slice_index_or own.locals array [] ≡ [])
    × (same_kind (array_kind g array) Temp ≡ false → (temp_of own array ≡ None) × (block_at p b.seats (place_by g b array 0 Temp) ≡ None))

-- the blocks in a pool are those of a state: each static block, each local block that is allocated, and the one that each temp holds
pub record BlocksStand (g : Setting) (p : Memory) (b : Kept) (own : Own) : Type 0 where
  pub rows : HasRows g own
  pub statics : (array number : ℕ) → array_kind g array ≡ Static → number < block_count g array → block_at p b.seats (place_by g b array number Static) ≡ Some (static_block own array number)
  pub locals : (array number : ℕ) → array_kind g array ≡ Local → number < block_count g array → block_at p b.seats (place_by g b array number Local) ≡ local_block own array number
  pub temps : (array : ℕ) → array < length g.program.arrays → array_kind g array ≡ Temp → block_at p b.seats (place_by g b array 0 Temp) ≡ option_map (λ (held : Held). held.words) (temp_of own array)
  pub tuples : (array : ℕ) (held : Held) → array < length g.program.arrays → array_kind g array ≡ Temp → temp_of own array ≡ Some held → slice_index_or b.tuples array [] ≡ held.members
  pub others : HasNoOthers g p b own

-- a block that a statement names: of a declared array, with as many indices; one of the array's, if that isn't temp
pub record IsNamed (g : Setting) (values : List ℕ) (block : BlockRef) : Type 0 where
  pub declared : block.array < length g.program.arrays
  pub rank : length block.at ≡ length (dims_of g block.array)
  pub among : same_kind (array_kind g block.array) Temp ≡ false → IsAmong g.spaces (map bare g.program.arrays) values block.array block.at

-- a slot is free where a named block of the worker's own isn't there
abbrev pub HasRoom : Setting → Memory → Kept → (values : List ℕ) → BlockRef → Type 0
HasRoom g p b values block = is_shared_kind (array_kind g block.array) ≡ false → lease_at b.seats.slots (place_of g b values block) ≡ None → 0 < free_in p last_class
