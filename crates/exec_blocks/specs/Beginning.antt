-- What a worker's own blocks need as a program begins.
use Rattle.std.specs.Prelude.{◌≡◌, ℕ, ◌<◌}
use Rattle.sial_syntax.specs.declared.array.ArrayKind.{ArrayKind}
use Rattle.sial_syntax.specs.declared.array.ArrayKind.TheVariants.{Static}
use Rattle.sial_syntax.specs.Spaces.{blocks_together}
use Rattle.sial_meaning.specs.Setting.{Setting, array_kind, block_count, block_words}
use Rattle.block_pool.specs.Memory.{Memory}
use Rattle.block_seats.specs.Seated.{IsWide}

-- each slot of a pool is wide enough for each block of the arrays of a kind
abbrev pub IsWideFor : Setting → Memory → ArrayKind → Type 0
IsWideFor g p kind = (array number : ℕ) → array_kind g array ≡ kind → number < block_count g array → IsWide p (block_words g array number)

-- how many blocks the static arrays have together
abbrev pub static_blocks : Setting → ℕ
static_blocks g = blocks_together g.spaces Static g.program.arrays
