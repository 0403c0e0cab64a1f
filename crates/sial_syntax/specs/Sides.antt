-- On which side of the pardos statements stand, and the classes of scalars and local arrays.
use Rattle.std.specs.Prelude.{ℕ, zero, suc, List, [], ◌∷◌, ◌++◌, map, filter, length, Bool, true, false, ◌&&◌, ◌||◌, not, replicate, if◌then◌else◌, fold, slice_index_or}
use Rattle.std.specs.List.{list_any, enumerate_from}
use Rattle.sial_syntax.specs.declared.array.ArrayKind.TheVariants.{Local}
use Rattle.sial_syntax.specs.declared.classes.ScalarClass.{ScalarClass}
use Rattle.sial_syntax.specs.declared.classes.ScalarClass.TheVariants.{Replicated, Private, Partial}
use Rattle.sial_syntax.specs.declared.classes.Side.{Side}
use Rattle.sial_syntax.specs.declared.classes.Side.TheVariants.{Outer, Inner, Unused}
use Rattle.sial_syntax.specs.declared.operand.Op.{Op}
use Rattle.sial_syntax.specs.declared.operand.Op.TheVariants.{Set, Add, Subtract, Scale}
use Rattle.sial_syntax.specs.Agreeing.{contains, has_kind}
use Rattle.sial_syntax.specs.Parts.{scalars_read, scalars_written, arrays_named}
use Rattle.sial_syntax.specs.Tree.{Tree, Procedure, Block, Plain, Call, Assign}
use Rattle.sial_syntax.specs.Visits.{Visit, body_visits}

-- the sides on which something stands: outside all pardos, within one, both or none
pub record Sides : Type 0 where
  pub outer : Bool
  pub inner : Bool

-- on no side
abbrev pub no_side : Sides
no_side = record { outer = false; inner = false }

-- on either's sides
abbrev pub either_side : Sides → Sides → Sides
either_side a b = record { outer = a.outer || b.outer; inner = a.inner || b.inner }

-- the sides of a statement of a body that has these sides: inner ones alone where it stands within a pardo
abbrev pub sides_at : Sides → (within : Bool) → Sides
sides_at sides true = record { outer = false; inner = sides.outer || sides.inner }
sides_at sides false = sides

-- the procedure that a statement calls
abbrev pub called_by : Plain → List ℕ
called_by (Call procedure) = procedure ∷ []
called_by _ = []

-- a statement with the sides on which it stands
pub record Sided : Type 0 where
  pub line : ℕ
  pub form : Plain
  pub sides : Sides

-- the statements of a body that has these sides
abbrev pub sided_body : Sides → Block → List Sided
sided_body sides body = map (λ (v : Visit). record { line = v.line; form = v.form; sides = sides_at sides v.within }) (body_visits body)

-- the statements of procedures that have these sides
abbrev pub sided_procedures : List Procedure → List Sides → List Sided
sided_procedures [] sides = []
sided_procedures (q ∷ qs) [] = []
sided_procedures (q ∷ qs) (s ∷ ss) = sided_body s q.body ++ sided_procedures qs ss

-- all statements, where the procedures have these sides; the program's body stands outside
abbrev pub sided : Tree → List Sides → List Sided
sided p procedures = sided_body (record { outer = true; inner = false }) p.body ++ sided_procedures p.procedures procedures

-- the sides that the calls among these statements give a procedure
abbrev pub sides_given : List Sided → (procedure : ℕ) → Sides
sides_given calls procedure = fold either_side no_side (map (λ (s : Sided). s.sides) (filter (λ (s : Sided). contains (called_by s.form) procedure) calls))

-- the sides of the procedures that calls so deep give
abbrev pub procedure_sides : Tree → (depth : ℕ) → List Sides
procedure_sides p zero = replicate (length p.procedures) no_side
procedure_sides p (suc depth) = map (λ (q : ℕ × Procedure). sides_given (sided p (procedure_sides p depth)) q.0) (enumerate_from 0 p.procedures)

-- the sides of a procedure
abbrev pub sides_of : Tree → (procedure : ℕ) → Sides
sides_of p procedure = slice_index_or (procedure_sides p (length p.procedures)) procedure no_side

-- all statements with their sides; a chain of calls that repeats no procedure has at most as many calls as there are procedures
abbrev pub all_sided : Tree → List Sided
all_sided p = sided p (procedure_sides p (length p.procedures))

-- whether a statement stands outside
abbrev pub is_outer : Sided → Bool
is_outer s = s.sides.outer

-- whether a statement stands within
abbrev pub is_inner : Sided → Bool
is_inner s = s.sides.inner

-- whether a statement writes a scalar
abbrev pub writes : (scalar : ℕ) → Sided → Bool
writes scalar s = contains (scalars_written s.form) scalar

-- whether a statement reads a scalar
abbrev pub reads : (scalar : ℕ) → Sided → Bool
reads scalar s = contains (scalars_read s.form) scalar

-- whether an operation only adds or subtracts
abbrev pub accumulates : Op → Bool
accumulates Set = false
accumulates Add = true
accumulates Subtract = true
accumulates Scale = false

-- whether a statement that writes a scalar only adds to it or subtracts; `collective` adds
abbrev pub is_accumulation : Plain → Bool
is_accumulation (Assign target op right) = accumulates op
is_accumulation _ = true

-- the class of a scalar by its writes within pardos: whether there are any, and whether all of them accumulate
abbrev pub class_by : (written accumulated : Bool) → ScalarClass
class_by false accumulated = Replicated
class_by true true = Partial
class_by true false = Private

-- the class of a scalar
abbrev pub class_of_scalar : List Sided → (scalar : ℕ) → ScalarClass
class_of_scalar all scalar =
    class_by
    (list_any (λ s. is_inner s && writes scalar s) all)
    (not (list_any (λ s. is_inner s && (writes scalar s && not (is_accumulation s.form))) all))

-- the class of each scalar
abbrev pub scalar_classes : Tree → List ScalarClass
scalar_classes p = map (λ (x : ℕ × List ℕ). class_of_scalar (all_sided p) x.0) (enumerate_from 0 p.scalars)

-- the side by whether an array is used within and outside
abbrev pub side_by : (inner outer : Bool) → Side
side_by true outer = Inner
side_by false true = Outer
side_by false false = Unused

-- the side of a local array; other arrays have none
abbrev pub side_of_array : Tree → List Sided → (array : ℕ) → Side
side_of_array p all array =
    if has_kind p Local array
    then side_by (list_any (λ s. is_inner s && contains (arrays_named s.form) array) all) (list_any (λ s. is_outer s && contains (arrays_named s.form) array) all)
    else Unused

-- the side of each array
abbrev pub array_sides : Tree → List Side
array_sides p = map (λ x. side_of_array p (all_sided p) x.0) (enumerate_from 0 p.arrays)
