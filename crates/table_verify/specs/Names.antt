-- What a program declares, read from entries and texts.
use Rattle.std.specs.Prelude.{◌^◌, List, [], ◌∷◌, ◌++◌, nat_lt, if◌then◌else◌, Some, None}
use Rattle.sial_syntax.specs.declared.array.ArrayDecl.{ArrayDecl}
use Rattle.sial_syntax.specs.declared.index.Bound.{Bound}
use Rattle.sial_syntax.specs.declared.index.Bound.TheVariants as bound
use Rattle.sial_syntax.specs.declared.index.IndexDecl.{IndexDecl}
use Rattle.sial_syntax.specs.declared.index.Kind.{Kind}
use Rattle.sial_syntax.specs.declared.index.Range.{Range}
use Rattle.sial_syntax.specs.declared.index.Range.TheVariants as range
use Rattle.sial_syntax.specs.Tree.{Procedure, End}
use Rattle.sip_tables.specs.declared.array.ArrayEntry.{ArrayEntry}
use Rattle.sip_tables.specs.declared.index.BoundEntry.{BoundEntry}
use Rattle.sip_tables.specs.declared.index.BoundEntry.TheVariants.{Number, Named}
use Rattle.sip_tables.specs.declared.index.IndexEntry.{IndexEntry}
use Rattle.sip_tables.specs.declared.index.RangeEntry.{RangeEntry}
use Rattle.sip_tables.specs.declared.index.RangeEntry.TheVariants.{Segments, Sub}
use Rattle.sip_tables.specs.declared.procedure.ProcedureEntry.{ProcedureEntry}
use Rattle.table_verify.specs.Rest.{Left, Read, numbered, ◌>>=◌}

-- what is read for each entry, behind what was read before
unfoldable pub each : {E D : Type 0} → (E → Left → Read D) → List D → List E → Left → Read (List D)
each read front [] left = Some (front, left)
each read front (e ∷ es) left = read e left >>= λ x. each read (front ++ x.0 ∷ []) es x.1

-- a bound
abbrev pub bound_of : BoundEntry → Left → Read Bound
bound_of (Number n) left = Some (bound.Number n, left)
bound_of (Named number) left = numbered number left >>= λ x. Some (bound.Named x.0, x.1)

-- the range of two bounds
unfoldable pub segments : Kind → BoundEntry → BoundEntry → Left → Read Range
segments kind lo hi left = do
  x ← bound_of lo left
  y ← bound_of hi x.1
  Some (range.Segments kind x.0 y.0, y.1)

-- a range; the number of a super index has 16 bits
abbrev pub range_of : RangeEntry → Left → Read Range
range_of (Segments kind lo hi) left = segments kind lo hi left
range_of (Sub super) left = if nat_lt super (2 ^ 16) then Some (range.Sub super, left) else None

-- an index
unfoldable pub index : IndexEntry → Left → Read IndexDecl
index entry left = do
  x ← numbered entry.text left
  y ← range_of entry.range x.1
  Some (record { name = x.0; line = entry.line; range = y.0 }, y.1)

-- an array
unfoldable pub array : ArrayEntry → Left → Read ArrayDecl
array entry left = do
  x ← numbered entry.text left
  Some (record { name = x.0; line = entry.line; kind = entry.kind; dims = entry.dims }, x.1)

-- a procedure's name, with no statement yet
unfoldable pub named : ProcedureEntry → Left → Read Procedure
named entry left = do
  x ← numbered entry.text left
  Some (record { name = x.0; body = End }, x.1)
