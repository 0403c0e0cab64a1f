use Rattle.std.proofs.Common.{◌≡◌, ◌-◌}
use Rattle.table_file.specs.Fields.{behind}
use Rattle.table_file.specs.Reading.{instructions}
use Rattle.table_file.proofs.reading.instructions.Given as goal

abbrev pub invariant-loop : goal.invariant-loop
invariant-loop l = behind l.code.items (instructions l.version l.texts l.statements (l.count - l.counter) l.bytes l.next) ≡ instructions l.version l.texts 0 l.count l.bytes l.at
