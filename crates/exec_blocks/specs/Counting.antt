-- How many blocks the arrays of a kind have.
use Rattle.std.specs.Prelude.{ℕ, if◌then◌else◌}
use Rattle.sial_syntax.specs.declared.array.ArrayDecl.{ArrayDecl}
use Rattle.sial_syntax.specs.declared.array.ArrayKind.{ArrayKind}
use Rattle.sial_syntax.specs.Spaces.{Spaces, blocks_of, same_kind}

-- the blocks of an array, where it is of the kind
abbrev pub count_if : Spaces → ArrayKind → ArrayDecl → ℕ
count_if spaces kind array = if same_kind array.kind kind then blocks_of spaces array else 0
