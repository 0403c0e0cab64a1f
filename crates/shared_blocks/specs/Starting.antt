-- Blocks of served arrays, while the input's are put down.
use Rattle.std.specs.Prelude.{◌≡◌, ℕ, ◌+◌, ◌<◌, List, [], slice_index_or, find}
use Rattle.sial_syntax.specs.declared.array.ArrayKind.TheVariants.{Served}
use Rattle.sial_meaning.specs.Own.{given_or, start_block}
use Rattle.sial_meaning.specs.Setting.{Setting, Given, array_kind, block_count, first_of_class}
use Rattle.exec_blocks.specs.Starting.{is_at}

-- they are those of the start once the given blocks that are left are put down
abbrev pub AreStartBut : Setting → List (List ℕ) → (left : List Given) → Type 0
AreStartBut g blocks left =
    (array number : ℕ) → array_kind g array ≡ Served → number < block_count g array
    → given_or (find (is_at array number) left) (slice_index_or blocks (first_of_class g array + number) []) ≡ start_block g array number
