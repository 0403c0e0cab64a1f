-- What an assignment leaves of its target's old numbers.
use Rattle.std.specs.Prelude.{◌≡◌, ℕ, List, false}
use Rattle.sial_syntax.specs.declared.operand.Op.TheVariants.{Set}
use Rattle.sial_syntax.specs.Spaces.{Spaces}
use Rattle.sial_meaning.specs.Right.{Side, assigned, is_insertion}
use Rattle.sial_meaning.specs.Sight.{Sight}
use Rattle.exec_sides.specs.Fits.{Fits}

-- a block with other numbers
abbrev pub with_words : List ℕ → Sight → Sight
with_words words block = record { at = block.at; extents = block.extents; words = words }

-- with `=`, and a right side that names all of the target, it doesn't matter which numbers the target had, nor whether it had any
abbrev pub OldNumbersAreForgotten : Type 0
OldNumbersAreForgotten =
    (spaces : Spaces) (values : List ℕ) (to : Sight) (side : Side) (others : List ℕ)
    → Fits spaces values Set to side → is_insertion spaces to.at side ≡ false
    → assigned spaces Set (with_words others to) side ≡ assigned spaces Set to side
