-- Rows: instructions by their fields.
use Rattle.std.specs.Prelude.{ℕ, List}
use Rattle.table_file.specs.Bytes.{row}
use Rattle.table_file.specs.declared.rows.Row.{Row}

-- the bytes of a row
abbrev pub row_bytes : Row → List ℕ
row_bytes r = row r.operation r.mode r.line r.jump r.a r.b r.c
