-- What follows for crates that hold shared blocks.
use Rattle.std.specs.Prelude.{◌≡◌, ℕ, ◌+◌, ◌<◌, length, false}
use Rattle.sial_syntax.specs.declared.access.Class.{Class}
use Rattle.sial_syntax.specs.declared.access.Class.TheVariants as class
use Rattle.sial_syntax.specs.declared.array.ArrayKind.TheVariants.{Distributed}
use Rattle.sial_meaning.specs.Own.{Own, with_created}
use Rattle.sial_meaning.specs.Setting.{Setting, array_kind, block_words, first_of_class}
use Rattle.sial_meaning.specs.State.{Shared, blocks_of_class, shared_block, without}
use Rattle.shared_blocks.specs.Standing.{IsThere, SharedStand}

-- a block of an array that is there is one of those that are held, and has its length
abbrev pub WhatIsThereIsHeld : Type 0
WhatIsThereIsHeld =
    (g : Setting) (held : Shared) (own : Own) (shared : Shared) (class : Class) (array number : ℕ)
    → SharedStand g held own shared → IsThere g own class array number
    → (first_of_class g array + number < length (blocks_of_class held class))
    × (length (shared_block held class (first_of_class g array + number)) ≡ block_words g array number)

-- the same blocks stand for a state after an array is deleted
abbrev pub DeletesKeepWords : Type 0
DeletesKeepWords =
    (g : Setting) (held : Shared) (own : Own) (shared : Shared) (array : ℕ)
    → SharedStand g held own shared → array_kind g array ≡ Distributed
    → SharedStand g held (with_created array false own) (without g array class.Distributed shared)
