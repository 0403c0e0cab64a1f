-- The marks of the blocks of a class, in order of the blocks.
use Rattle.std.specs.Prelude.{ℕ, List, Option, Some, None, slice_index_or}
use Rattle.sial_syntax.specs.declared.access.Access.{Access}
use Rattle.sial_meaning.specs.Access.{Mark}
use Rattle.access_marks.specs.declared.marks.Slot.{Slot}

-- the mark of a block, none where it has none
abbrev pub mark_at : List (Option Mark) → ℕ → Option Mark
mark_at marks block = slice_index_or marks block None

-- the mark with this kind
abbrev pub mark_if : Option Access → (epoch line : ℕ) → Option Mark
mark_if None epoch line = None
mark_if (Some kind) epoch line = Some (record { epoch = epoch; kind = kind; line = line })

-- the mark that a slot holds
abbrev pub mark_of : Slot → Option Mark
mark_of slot = mark_if slot.kind slot.epoch slot.line
