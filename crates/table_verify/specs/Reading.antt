-- Whole programs read from their tables.
use Rattle.std.specs.Prelude.{ℕ, List, [], ◌∷◌, Bool, true, false, ◌==◌, ◌&&◌, if◌then◌else◌, length, map, slice_index, Option, Some, None}
use Rattle.std.specs.List.{enumerate_from}
use Rattle.sial_syntax.specs.Limits.{most_nesting}
use Rattle.sial_syntax.specs.Tree.{Tree, Procedure, End}
use Rattle.sip_tables.specs.Lists.{Lists}
use Rattle.sip_tables.specs.declared.procedure.ProcedureEntry.{ProcedureEntry}
use Rattle.table_verify.specs.Rest.{Left, Read, text, numbered, ◌>>=◌}
use Rattle.table_verify.specs.Closings.{stop, return_from}
use Rattle.table_verify.specs.Names.{each, index, array, named}
use Rattle.table_verify.specs.Statements.{body}

-- nothing has been read yet
abbrev pub start : Lists → Left
start t = record { at = 0; text = 0; code = t.code; texts = t.texts }

-- the numbers of the procedures' first instructions
abbrev pub entries_in : List ProcedureEntry → List ℕ
entries_in procedures = map (λ (q : ProcedureEntry). q.entry) procedures

-- a program's name and what it declares, with no statement yet
unfoldable pub heads : Lists → Read Tree
heads t = do
  name ← text (start t)
  indices ← each index [] t.indices name.1
  arrays ← each array [] t.arrays indices.1
  scalars ← each numbered [] t.scalars arrays.1
  procedures ← each named [] t.procedures scalars.1
  Some (record { name = name.0; indices = indices.0; arrays = arrays.0; scalars = scalars.0; procedures = procedures.0; body = End }, procedures.1)

-- the statements of a procedure, and its return
unfoldable pub procedure_of : (entries : List ℕ) → (most : ℕ) → (name : List ℕ) → Left → Read Procedure
procedure_of entries most name left = do
  x ← body entries most most_nesting left
  y ← return_from x.1
  Some (record { name = name; body = x.0 }, y)

-- the same of a numbered procedure, if its first instruction comes next
abbrev pub filled : (entries : List ℕ) → (most : ℕ) → ℕ × Procedure → Left → Read Procedure
filled entries most x left = if slice_index entries x.0 == left.at then procedure_of entries most x.1.name left else None

-- the statements of a program of which all else is known
unfoldable pub bodies : (entries : List ℕ) → (most : ℕ) → Tree → Left → Read Tree
bodies entries most p left = do
  x ← body entries most most_nesting left
  stopped ← stop x.1
  procedures ← each (filled entries most) [] (enumerate_from 0 p.procedures) stopped
  Some (record p { procedures = procedures.0; body = x.0 }, procedures.1)

-- whether nothing is left
abbrev pub is_over : {X : Type 0} → List X → Bool
is_over [] = true
is_over (x ∷ xs) = false

-- a program, if nothing is left behind it
unfoldable pub read : Lists → Option Tree
read t = do
  p ← heads t
  q ← bodies (entries_in t.procedures) (length t.code) p.0 p.1
  if is_over q.1.code && is_over q.1.texts then Some q.0 else None
