-- What statements write and name on a side, number by number.
use Rattle.std.specs.Prelude.{ℕ, List, [], ◌∷◌, map, flat_map, Bool, true, false, ◌&&◌, not, if◌then◌else◌, length, replicate, slice_index_or, slice_set}
use Rattle.std.specs.List.{enumerate_from}
use Rattle.sial_syntax.specs.declared.array.ArrayDecl.{ArrayDecl}
use Rattle.sial_syntax.specs.declared.array.ArrayKind.{ArrayKind}
use Rattle.sial_syntax.specs.declared.array.ArrayKind.TheVariants.{Local}
use Rattle.sial_syntax.specs.declared.classes.ScalarClass.{ScalarClass}
use Rattle.sial_syntax.specs.declared.classes.Side.{Side}
use Rattle.sial_syntax.specs.declared.classes.Side.TheVariants.{Unused}
use Rattle.sial_syntax.specs.Boxes.{numbers_from}
use Rattle.sial_syntax.specs.Parts.{scalars_written, arrays_named}
use Rattle.sial_syntax.specs.Sides.{Sided, is_inner, is_outer, is_accumulation, class_by, side_by}
use Rattle.sial_syntax.specs.Spaces.{same_kind}

-- some numbers, where a test says so
abbrev pub only_if : Bool → List ℕ → List ℕ
only_if true numbers = numbers
only_if false numbers = []

-- the scalars that are written within
abbrev pub written_within : Sided → List ℕ
written_within s = only_if (is_inner s) (scalars_written s.form)

-- the scalars that are written within other than by adding
abbrev pub mixed_within : Sided → List ℕ
mixed_within s = only_if (is_inner s && not (is_accumulation s.form)) (scalars_written s.form)

-- the arrays that are named within
abbrev pub named_within : Sided → List ℕ
named_within s = only_if (is_inner s) (arrays_named s.form)

-- the arrays that are named outside
abbrev pub named_outside : Sided → List ℕ
named_outside s = only_if (is_outer s) (arrays_named s.form)

-- places that are marked, beside those that are
abbrev pub marked : List ℕ → List Bool → List Bool
marked [] marks = marks
marked (n ∷ ns) marks = marked ns (slice_set marks n true)

-- the marks of numbers that some statements tell, of so many places
abbrev pub marks_of : (Sided → List ℕ) → (count : ℕ) → List Sided → List Bool
marks_of told count all = marked (flat_map told all) (replicate count false)

-- the class of a scalar by its marks
abbrev pub class_marked : (written mixed : List Bool) → (scalar : ℕ) → ScalarClass
class_marked written mixed q = class_by (slice_index_or written q false) (not (slice_index_or mixed q false))

-- the class of each of so many scalars by these marks
abbrev pub classes_of : (count : ℕ) → List Sided → List ScalarClass
classes_of count all = map (class_marked (marks_of written_within count all) (marks_of mixed_within count all)) (numbers_from 0 count)

-- the side of an array of a kind by whether it is named within and outside
abbrev pub side_marked : ArrayKind → (inner outer : Bool) → Side
side_marked kind inner outer = if same_kind kind Local then side_by inner outer else Unused

-- the side of an array with its number, by its marks
abbrev pub array_marked : (within outside : List Bool) → ℕ × ArrayDecl → Side
array_marked within outside x = side_marked x.1.kind (slice_index_or within x.0 false) (slice_index_or outside x.0 false)

-- the side of each array by the marks of those that are named
abbrev pub sides_by : List ArrayDecl → List Sided → List Side
sides_by arrays all =
    map (array_marked (marks_of named_within (length arrays) all) (marks_of named_outside (length arrays) all)) (enumerate_from 0 arrays)
