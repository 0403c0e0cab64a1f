-- The tables of a program.
use Rattle.std.specs.Prelude.{length}
use Rattle.sial_syntax.specs.Tree.{Tree}
use Rattle.sip_tables.specs.Code.{entries_of, program_code}
use Rattle.sip_tables.specs.Entries.{index_entries, array_entries, scalar_entries, procedure_entries}
use Rattle.sip_tables.specs.Lists.{Lists}
use Rattle.sip_tables.specs.Texts.{texts, names, index_names, array_names, scalar_names}

-- the texts in order of use, the entries of what is declared, and the code; text 0 is the program's name
abbrev pub flatten : Tree → Lists
flatten p = record {
  texts = texts p;
  indices = index_entries 1 p.indices;
  arrays = array_entries (length (index_names p)) p.arrays;
  scalars = scalar_entries (length (array_names p)) p.scalars;
  procedures = procedure_entries (length (scalar_names p)) (entries_of p);
  code = program_code p (length (names p));
}
