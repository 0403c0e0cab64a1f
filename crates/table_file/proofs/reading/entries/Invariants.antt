use Rattle.std.proofs.Common.{◌≡◌, ◌-◌}
use Rattle.table_file.specs.Fields.{entries, behind}
use Rattle.table_file.proofs.reading.entries.Given as goal

abbrev pub invariant-loop : goal.invariant-loop
invariant-loop g l = behind l.read.items (entries (g.T.Listed.reading l.texts) (l.count - l.counter) l.bytes l.next) ≡ behind l.fn.front.items (entries (g.T.Listed.reading l.texts) l.count l.bytes l.at)
