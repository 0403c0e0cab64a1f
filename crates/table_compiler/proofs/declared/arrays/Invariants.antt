use Rattle.std.proofs.Common.{◌≡◌, ◌++◌, drop, length, map}
use Rattle.sip_tables.specs.Entries.{array_entries}
use Rattle.table_compiler.proofs.declared.arrays.Given as goal

abbrev pub invariant-loop-declared : goal.invariant-loop-declared
invariant-loop-declared l =
    (l.entries.items ++ array_entries (length l.flat.texts.items) (drop l.declared-index l.arrays) ≡ array_entries (length l.fn.flat.texts.items) l.arrays)
    × ((l.flat.texts.items ++ map (λ a. a.name) (drop l.declared-index l.arrays) ≡ l.fn.flat.texts.items ++ map (λ a. a.name) l.arrays) × (l.flat.code.items ≡ l.fn.flat.code.items))
