-- The entries of what a program declares.
use Rattle.std.specs.Prelude.{◌≡◌}
use Rattle.sial_syntax.specs.Tree.{Tree}
use Rattle.sip_tables.specs.Flatten.{flatten}
use Rattle.table_compiler.specs.declared.declared.Declared.{Declared}

-- entries are those of a program's tables
pub record AreDeclared (p : Tree) (d : Declared) : Type 0 where
  pub indices : d.indices.items ≡ (flatten p).indices
  pub arrays : d.arrays.items ≡ (flatten p).arrays
  pub scalars : d.scalars.items ≡ (flatten p).scalars
  pub procedures : d.procedures.items ≡ (flatten p).procedures
