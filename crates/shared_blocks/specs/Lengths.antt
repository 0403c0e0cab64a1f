-- The lengths of all blocks of a kind.
use Rattle.std.specs.Prelude.{ℕ, List, [], length, if◌then◌else◌}
use Rattle.std.specs.List.{flat_map}
use Rattle.sial_syntax.specs.declared.array.ArrayKind.{ArrayKind}
use Rattle.sial_syntax.specs.Spaces.{same_kind}
use Rattle.sial_meaning.specs.Own.{for_each}
use Rattle.sial_meaning.specs.Setting.{Setting, array_kind, block_count, block_words}

-- the lengths of an array's blocks, where it is of the kind
abbrev pub lengths_if : Setting → ArrayKind → (array : ℕ) → List ℕ
lengths_if g kind array = if same_kind (array_kind g array) kind then for_each (block_count g array) (block_words g array) else []

-- the lengths of the blocks of all arrays of a kind, by the blocks' numbers
abbrev pub lengths_of : Setting → ArrayKind → List ℕ
lengths_of g kind = flat_map (lengths_if g kind) (for_each (length g.program.arrays) (λ a. a))
