-- Size classes: which slots a block of an array takes, and how wide they are.
use Rattle.std.specs.Prelude.{ℕ, ◌^◌, max, List, map, filter, ◌==◌, ◌||◌, if◌then◌else◌, nat_le, find, unwrap_or}
use Rattle.sial_syntax.specs.declared.array.ArrayDecl.{ArrayDecl}
use Rattle.sial_syntax.specs.declared.array.ArrayKind.TheVariants.{Distributed, Served}
use Rattle.sial_syntax.specs.Boxes.{numbers_from}
use Rattle.sial_syntax.specs.Widths.{most_of, widest_block}
use Rattle.sial_meaning.specs.Costs.{block_width, arrays_of}
use Rattle.sial_meaning.specs.Setting.{Setting, array_of}

-- how many size classes there are
abbrev pub class_count : ℕ
class_count = 17

-- the width of an array: the words of its widest block, at least 1
abbrev pub width_of : Setting → ArrayDecl → ℕ
width_of g array = max 1 (widest_block g.spaces array.dims)

-- the size class of a width: the least k with 2^k not below it
abbrev pub class_of_width : (width : ℕ) → ℕ
class_of_width width = unwrap_or (find (λ k. nat_le width (2 ^ k)) (numbers_from 0 class_count)) 16

-- the size class of an array
abbrev pub size_class : Setting → ArrayDecl → ℕ
size_class g array = class_of_width (width_of g array)

-- the size class of an array by its number
abbrev pub class_at : Setting → (array : ℕ) → ℕ
class_at g array = size_class g (array_of g array)

-- the width of the widest shared array, 1 where there is none
abbrev pub shared_width : Setting → ℕ
shared_width g = max 1 (most_of (map (width_of g) (arrays_of g Distributed Served)))

-- the shared class, in which cached, awaited and posted blocks lie
abbrev pub shared_class : Setting → ℕ
shared_class g = class_of_width (shared_width g)

-- the widest class
abbrev pub widest_class : Setting → ℕ
widest_class g = class_of_width (block_width g)

-- the widths of the arrays of a class
abbrev pub array_widths : Setting → (class : ℕ) → List ℕ
array_widths g class = map (width_of g) (filter (λ (a : ArrayDecl). size_class g a == class) g.program.arrays)

-- at least 1 for the shared and the widest class
abbrev pub least_width : Setting → (class : ℕ) → ℕ
least_width g class = if (class == shared_class g) || (class == widest_class g) then 1 else 0

-- the width of a class: the greatest of its arrays, 0 where it has none
abbrev pub width_of_class : Setting → (class : ℕ) → ℕ
width_of_class g class = max (least_width g class) (most_of (array_widths g class))

-- the widths of all classes
abbrev pub widths : Setting → List ℕ
widths g = map (width_of_class g) (numbers_from 0 class_count)
