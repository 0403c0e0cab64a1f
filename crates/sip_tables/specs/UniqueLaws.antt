-- Tables tell their program.
use Rattle.std.specs.Prelude.{◌≡◌}
use Rattle.sial_syntax.specs.Tree.{Tree}
use Rattle.sip_tables.specs.Flatten.{flatten}

-- no two programs have the same tables
abbrev pub OneProgram : Type 0
OneProgram = (p q : Tree) → flatten p ≡ flatten q → p ≡ q
