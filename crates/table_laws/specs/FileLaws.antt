-- A proper program has one table file.
use Rattle.std.specs.Prelude.{◌≡◌, ◌<◌, ◌^◌, length}
use Rattle.sial_syntax.specs.Proper.{IsProper}
use Rattle.sial_syntax.specs.Tree.{Tree}
use Rattle.sip_tables.specs.Flatten.{flatten}
use Rattle.table_file.specs.Bytes.{bytes}
use Rattle.table_file.specs.Fits.{IsFileOf}

-- the tables of a proper program have a file, where instructions can be counted in 32 bits
abbrev pub ProgramsHaveFiles : Type 0
ProgramsHaveFiles = (p : Tree) → IsProper p → length (flatten p).code < 2 ^ 32 → IsFileOf (bytes (flatten p)) (flatten p)

-- two such programs with one file are the same
abbrev pub OneFile : Type 0
OneFile =
    (p q : Tree) → IsProper p → IsProper q → length (flatten p).code < 2 ^ 32 → length (flatten q).code < 2 ^ 32
    → bytes (flatten p) ≡ bytes (flatten q) → p ≡ q
