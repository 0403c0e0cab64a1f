use Rattle.std.proofs.Common.{◌≡◌, ◌++◌, drop, length}
use Rattle.std.specs.List.{flat_map}
use Rattle.sip_tables.specs.Entries.{index_entries}
use Rattle.sip_tables.specs.Texts.{index_texts}
use Rattle.table_compiler.proofs.declared.indices.Given as goal

abbrev pub invariant-loop-declared : goal.invariant-loop-declared
invariant-loop-declared l =
    (l.entries.items ++ index_entries (length l.flat.texts.items) (drop l.declared-index l.indices) ≡ index_entries (length l.fn.flat.texts.items) l.indices)
    × ((l.flat.texts.items ++ flat_map index_texts (drop l.declared-index l.indices) ≡ l.fn.flat.texts.items ++ flat_map index_texts l.indices) × (l.flat.code.items ≡ l.fn.flat.code.items))
