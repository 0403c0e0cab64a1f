-- Entries of indices, arrays, scalars, procedures and texts, read field by field.
use Rattle.std.specs.Prelude.{ℕ, List, ◌==◌, ◌&&◌, nat_le, if◌then◌else◌, Option, Some, None, Result, Ok, Err}
use Rattle.sial_syntax.specs.declared.array.ArrayKind.{ArrayKind}
use Rattle.sial_syntax.specs.declared.array.ArrayKind.TheVariants.{Static, Temp, Local, Distributed, Served}
use Rattle.sial_syntax.specs.declared.index.Kind.{Kind}
use Rattle.sial_syntax.specs.declared.index.Kind.TheVariants.{Ao, Mo, Moa, Mob, Index}
use Rattle.sial_syntax.specs.Limits.{most_name, most_text}
use Rattle.sial_syntax.specs.Names.{is_name}
use Rattle.sip_tables.specs.declared.array.ArrayEntry.{ArrayEntry}
use Rattle.sip_tables.specs.declared.index.BoundEntry.{BoundEntry}
use Rattle.sip_tables.specs.declared.index.BoundEntry.TheVariants.{Number, Named}
use Rattle.sip_tables.specs.declared.index.IndexEntry.{IndexEntry}
use Rattle.sip_tables.specs.declared.index.RangeEntry.TheVariants.{Segments, Sub}
use Rattle.sip_tables.specs.declared.procedure.ProcedureEntry.{ProcedureEntry}
use Rattle.table_file.specs.declared.fault.TableFault.{TableFault}
use Rattle.table_file.specs.declared.fault.TableFault.TheVariants.{Field, TooMany}
use Rattle.table_file.specs.Fields.{◌>>=◌, or_field, byte, number, taken, exactly, unused, name, rank, tuple}

-- what an index counts
abbrev pub kind_of : ℕ → Option Kind
kind_of n =
    if n == 1 then Some Ao
    else if n == 2 then Some Mo
    else if n == 3 then Some Moa
    else if n == 4 then Some Mob
    else if n == 5 then Some Index
    else None

-- where an array's blocks live
abbrev pub array_kind_of : ℕ → Option ArrayKind
array_kind_of n =
    if n == 1 then Some Static
    else if n == 2 then Some Temp
    else if n == 3 then Some Local
    else if n == 4 then Some Distributed
    else if n == 5 then Some Served
    else None

-- the first text, which is the program's name
unfoldable pub program_name : List ℕ → (at : ℕ) → Result (List ℕ × ℕ) TableFault
program_name bytes at = do
  len ← number 2 bytes at
  if nat_le 1 len.0 && nat_le len.0 most_name then (do
    text ← taken len.0 bytes len.1
    if is_name text.0 then Ok text else Err (Field at))
      else Err (Field at)

-- another text
unfoldable pub text : List ℕ → (at : ℕ) → Result (List ℕ × ℕ) TableFault
text bytes at = do
  len ← number 2 bytes at
  if nat_le len.0 most_text then taken len.0 bytes len.1 else Err (TooMany at)

-- an end of a range
unfoldable pub bound : (texts : List (List ℕ)) → List ℕ → (at : ℕ) → Result (BoundEntry × ℕ) TableFault
bound texts bytes at = do
  tag ← byte bytes at
  if tag.0 == 0 then (do
    n ← number 8 bytes tag.1
    Ok (Number n.0, n.1))
      else if tag.0 == 1 then (do
        n ← name texts 8 bytes tag.1
        Ok (Named n.0, n.1))
      else Err (Field at)

-- the rest of an index over segments
unfoldable pub segments : (texts : List (List ℕ)) → Kind → List ℕ → (at : ℕ) → Result (IndexEntry × ℕ) TableFault
segments texts kind bytes at = do
  text ← name texts 4 bytes at
  line ← number 4 bytes text.1
  lo ← bound texts bytes line.1
  hi ← bound texts bytes lo.1
  Ok (record { text = text.0; line = line.0; range = Segments kind lo.0 hi.0 }, hi.1)

-- the rest of a subindex
unfoldable pub subindex : (texts : List (List ℕ)) → List ℕ → (at : ℕ) → Result (IndexEntry × ℕ) TableFault
subindex texts bytes at = do
  text ← name texts 4 bytes at
  line ← number 4 bytes text.1
  lo ← exactly 2 bytes line.1
  super ← number 8 bytes lo
  hi ← exactly 2 bytes super.1
  next ← unused 8 bytes hi
  Ok (record { text = text.0; line = line.0; range = Sub super.0 }, next)

-- an index
unfoldable pub index : (texts : List (List ℕ)) → List ℕ → (at : ℕ) → Result (IndexEntry × ℕ) TableFault
index texts bytes at = do
  counted ← byte bytes at
  if counted.0 == 6 then subindex texts bytes counted.1
      else (do
        kind ← or_field (kind_of counted.0) at
        segments texts kind bytes counted.1)

-- an array's kind
unfoldable pub array_kind : List ℕ → (at : ℕ) → Result (ArrayKind × ℕ) TableFault
array_kind bytes at = do
  n ← byte bytes at
  kind ← or_field (array_kind_of n.0) at
  Ok (kind, n.1)

-- an array
unfoldable pub array : (texts : List (List ℕ)) → List ℕ → (at : ℕ) → Result (ArrayEntry × ℕ) TableFault
array texts bytes at = do
  kind ← array_kind bytes at
  text ← name texts 4 bytes kind.1
  line ← number 4 bytes text.1
  r ← rank bytes line.1
  dims ← tuple r.0 bytes r.1
  Ok (record { text = text.0; line = line.0; kind = kind.0; dims = dims.0 }, dims.1)

-- a scalar
abbrev pub scalar : (texts : List (List ℕ)) → List ℕ → (at : ℕ) → Result (ℕ × ℕ) TableFault
scalar texts bytes at = name texts 4 bytes at

-- a procedure
unfoldable pub procedure : (texts : List (List ℕ)) → List ℕ → (at : ℕ) → Result (ProcedureEntry × ℕ) TableFault
procedure texts bytes at = do
  text ← name texts 4 bytes at
  entry ← number 4 bytes text.1
  Ok (record { text = text.0; entry = entry.0 }, entry.1)
