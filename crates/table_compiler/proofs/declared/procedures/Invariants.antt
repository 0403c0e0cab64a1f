use Rattle.std.proofs.Common.{◌≡◌, ◌++◌, drop, length, map}
use Rattle.sip_tables.specs.Entries.{procedure_entries}
use Rattle.table_compiler.proofs.declared.procedures.Given as goal

abbrev pub invariant-loop-procedure : goal.invariant-loop-procedure
invariant-loop-procedure l =
    (l.named.items ++ procedure_entries (length l.flat.texts.items) (drop (length l.yielded) l.entries) ≡ procedure_entries (length l.fn.flat.texts.items) l.entries)
    × ((l.flat.texts.items ++ map (λ q. q.name) (drop (length l.yielded) l.procedures) ≡ l.fn.flat.texts.items ++ map (λ q. q.name) l.procedures) × (l.flat.code.items ≡ l.fn.flat.code.items))
