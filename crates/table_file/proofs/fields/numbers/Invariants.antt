use Rattle.std.proofs.Common.{◌≡◌, ◌-◌}
use Rattle.table_file.specs.Fields.{number, entries, behind}
use Rattle.table_file.proofs.fields.numbers.Given as goal

abbrev pub invariant-loop : goal.invariant-loop
invariant-loop l = behind l.numbers.items (entries (number 2) (l.count - l.counter) l.bytes l.next) ≡ entries (number 2) l.count l.bytes l.at
