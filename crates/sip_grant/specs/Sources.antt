-- The file of a program: its text, or the file of its tables.
use Rattle.std.specs.Prelude.{ℕ, List, Bool, true, false, ◌==◌, codes}
use Rattle.std.specs.List.{starts_with}
use Rattle.sial_parser.specs.Words.{IsTextOf}
use Rattle.sial_syntax.specs.Proper.{IsProper}
use Rattle.sial_syntax.specs.Tree.{Tree}
use Rattle.sip_tables.specs.Flatten.{flatten}
use Rattle.table_file.specs.Fits.{IsFileOf}

-- whether a file is a table file, by its first four bytes
abbrev pub is_table : List ℕ → Bool
is_table bytes = starts_with ◌==◌ bytes (codes "SIPT")

-- the file of a program's tables
pub record IsTableOf (bytes : List ℕ) (p : Tree) : Type 0 where
  pub proper : IsProper p
  pub file : IsFileOf bytes (flatten p)

-- a table file is that of the program's tables, any other file the program's text
abbrev pub IsSourceBy : (table : Bool) → List ℕ → Tree → Type 0
IsSourceBy true bytes p = IsTableOf bytes p
IsSourceBy false bytes p = IsTextOf bytes p

-- the file of a program
abbrev pub IsSourceOf : List ℕ → Tree → Type 0
IsSourceOf bytes p = IsSourceBy (is_table bytes) bytes p
