use Rattle.std.proofs.Common.{◌≡◌, ◌++◌, drop, length}
use Rattle.sip_tables.specs.Entries.{scalar_entries}
use Rattle.table_compiler.proofs.declared.scalars.Given as goal

abbrev pub invariant-loop-name : goal.invariant-loop-name
invariant-loop-name l =
    (l.entries.items ++ scalar_entries (length l.flat.texts.items) (drop l.name-index l.scalars) ≡ scalar_entries (length l.fn.flat.texts.items) l.scalars)
    × ((l.flat.texts.items ++ drop l.name-index l.scalars ≡ l.fn.flat.texts.items ++ l.scalars) × (l.flat.code.items ≡ l.fn.flat.code.items))
