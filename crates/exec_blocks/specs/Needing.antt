-- How many slots a worker's own blocks take at most, and that a pool has them.
use Rattle.std.specs.Prelude.{ℕ, ◌+◌, ◌≤◌, length, filter}
use Rattle.sial_syntax.specs.declared.array.ArrayDecl.{ArrayDecl}
use Rattle.sial_syntax.specs.declared.array.ArrayKind.TheVariants.{Temp, Local}
use Rattle.sial_syntax.specs.Spaces.{blocks_together, same_kind}
use Rattle.sial_meaning.specs.Setting.{Setting}
use Rattle.block_pool.specs.Memory.{Memory, free_in, last_class}
use Rattle.block_seats.specs.Counted.{held_count}
use Rattle.exec_blocks.specs.Beginning.{static_blocks}
use Rattle.exec_blocks.specs.Kept.{Kept}

-- how many temps there are
abbrev pub temp_count : Setting → ℕ
temp_count g = length (filter (λ (a : ArrayDecl). same_kind a.kind Temp) g.program.arrays)

-- a slot for each block of a static or local array, and one for each temp
abbrev pub need_of : Setting → ℕ
need_of g = static_blocks g + (blocks_together g.spaces Local g.program.arrays + temp_count g)

-- the slots that are free and those that the blocks have already are as many
abbrev pub MeetsNeed : Setting → Memory → Kept → Type 0
MeetsNeed g p b = need_of g ≤ free_in p last_class + held_count b.seats.slots
