-- The least lines on which arrays are named on a side, and the local arrays that are named on both.
use Rattle.std.specs.Prelude.{ℕ, ◌+◌, max, List, [], ◌∷◌, Option, Some, None, if◌then◌else◌, slice_index_or, slice_set}
use Rattle.sial_syntax.specs.declared.array.ArrayDecl.{ArrayDecl}
use Rattle.sial_syntax.specs.declared.array.ArrayKind.{ArrayKind}
use Rattle.sial_syntax.specs.declared.array.ArrayKind.TheVariants.{Local}
use Rattle.sial_syntax.specs.Shapes.{Fault}
use Rattle.sial_syntax.specs.Sides.{Sided}
use Rattle.sial_syntax.specs.Spaces.{same_kind}
use Rattle.scalar_discipline.specs.Judging.{sooner}
use Rattle.scalar_discipline.specs.Rounds.{lesser}

-- the least lines of arrays, once these are named on a line
abbrev pub noted : List ℕ → (line : ℕ) → List (Option ℕ) → List (Option ℕ)
noted [] line lines = lines
noted (a ∷ others) line lines = noted others line (slice_set lines a (lesser (slice_index_or lines a None) (Some line)))

-- the same, once statements name those that are told
abbrev pub lines_of : (Sided → List ℕ) → List Sided → List (Option ℕ) → List (Option ℕ)
lines_of told [] lines = lines
lines_of told (s ∷ ss) lines = lines_of told ss (noted (told s) s.line lines)

-- MixedLocal at the line up to which both sides name an array
abbrev pub mixed_told : Option ℕ → Option ℕ → Option Fault
mixed_told None inner = None
mixed_told (Some outer) None = None
mixed_told (Some outer) (Some inner) = Some (record { line = max outer inner; rule = 6 })

-- the same of an array of a kind
abbrev pub array_mixed : ArrayKind → (outer inner : Option ℕ) → Option Fault
array_mixed kind outer inner = if same_kind kind Local then mixed_told outer inner else None

-- the earlier of a fault and the first one of arrays, from one of a number on
abbrev pub first_mixed : (outer inner : List (Option ℕ)) → (place : ℕ) → List ArrayDecl → Option Fault → Option Fault
first_mixed outer inner place [] first = first
first_mixed outer inner place (a ∷ others) first =
    first_mixed outer inner (place + 1) others
    (sooner first (array_mixed a.kind (slice_index_or outer place None) (slice_index_or inner place None)))
