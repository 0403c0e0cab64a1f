-- The side rules that one statement breaks, and the one that is told.
use Rattle.std.specs.Prelude.{ℕ, List, [], ◌∷◌, Bool, true, false, ◌&&◌, ◌||◌, not, nat_lt, Option, Some, None, slice_index_or}
use Rattle.std.specs.List.{list_any}
use Rattle.sial_syntax.specs.declared.classes.ScalarClass.{ScalarClass}
use Rattle.sial_syntax.specs.declared.classes.ScalarClass.TheVariants.{Replicated, Private, Partial}
use Rattle.sial_syntax.specs.Limits.{most_depth}
use Rattle.sial_syntax.specs.Parts.{scalars_read, scalars_written}
use Rattle.sial_syntax.specs.Shapes.{Fault, earlier}
use Rattle.sial_syntax.specs.SideRules.{breaks_pardo, breaks_shared_write, breaks_sync, breaks_print, breaks_static, wrong_source, sets_zero, is_partial}
use Rattle.sial_syntax.specs.Sides.{Sided, is_outer, called_by}
use Rattle.sial_syntax.specs.Tree.{Tree, Plain, Collective}

-- the class of a scalar; one that isn't declared is replicated
abbrev pub class_at : List ScalarClass → (scalar : ℕ) → ScalarClass
class_at classes scalar = slice_index_or classes scalar Replicated

-- whether a class is private
abbrev pub is_private : ScalarClass → Bool
is_private Replicated = false
is_private Private = true
is_private Partial = false

-- whether a scalar has a class: partial, or else private
abbrev pub is_wanted : List ScalarClass → (partial : Bool) → (scalar : ℕ) → Bool
is_wanted classes true scalar = is_partial (class_at classes scalar)
is_wanted classes false scalar = is_private (class_at classes scalar)

-- whether a write of a scalar of this class outside mixes its sides; `= 0` doesn't mix those of a partial one
abbrev pub write_mixes : (zero : Bool) → ScalarClass → Bool
write_mixes zero Replicated = false
write_mixes zero Private = true
write_mixes zero Partial = not zero

-- MixedScalar, by the scalars that the statement names
abbrev pub mixes_named : List ScalarClass → Sided → Bool
mixes_named classes s =
    (is_outer s
    && (list_any (λ q. write_mixes (sets_zero s.form) (class_at classes q)) (scalars_written s.form)
    || list_any (λ q. is_private (class_at classes q)) (scalars_read s.form)))
    || wrong_source classes s.form

-- whether a statement is `collective`, which may read a partial scalar
abbrev pub is_collective : Plain → Bool
is_collective (Collective into from) = true
is_collective _ = false

-- PartialRead, by the scalars that the statement reads
abbrev pub reads_partial : List ScalarClass → Sided → Bool
reads_partial classes s = not (is_collective s.form) && list_any (λ q. is_partial (class_at classes q)) (scalars_read s.form)

-- CallTooDeep, by the depths of procedures
abbrev pub calls_deep : (depths : List ℕ) → Sided → Bool
calls_deep depths s = list_any (λ q. nat_lt most_depth (slice_index_or depths q 1)) (called_by s.form)

-- the fault of this rule on this line, where it is broken
abbrev pub fault_if : Bool → (line rule : ℕ) → Option Fault
fault_if true line rule = Some (record { line = line; rule = rule })
fault_if false line rule = None

-- this rule's fault, where it is broken, and else another's
abbrev pub or_else : Bool → (line rule : ℕ) → Option Fault → Option Fault
or_else true line rule other = Some (record { line = line; rule = rule })
or_else false line rule other = other

-- of the rules that a statement breaks, the one that is told
abbrev pub told : Tree → List ScalarClass → (depths : List ℕ) → Sided → Option Fault
told p classes depths s =
    or_else (breaks_pardo s) s.line 1
    (or_else (breaks_shared_write s) s.line 2
    (or_else (breaks_sync s) s.line 3
    (or_else (breaks_print s) s.line 4
    (or_else (breaks_static p s) s.line 5
    (or_else (mixes_named classes s) s.line 7
    (or_else (reads_partial classes s) s.line 8
    (or_else (calls_deep depths s) s.line 10 None)))))))

-- the earlier of two faults, where there are any
abbrev pub sooner : Option Fault → Option Fault → Option Fault
sooner None other = other
sooner (Some fault) other = Some (earlier fault other)

-- the first fault of statements, one after another
abbrev pub first_told : Tree → List ScalarClass → (depths : List ℕ) → List Sided → Option Fault → Option Fault
first_told p classes depths [] first = first
first_told p classes depths (s ∷ ss) first = first_told p classes depths ss (sooner first (told p classes depths s))
