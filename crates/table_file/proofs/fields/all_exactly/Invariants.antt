use Rattle.std.proofs.Common.{◌≡◌, ◌-◌}
use Rattle.table_file.specs.Fields.{all_exactly}
use Rattle.table_file.proofs.fields.all_exactly.Given as goal

abbrev pub invariant-loop : goal.invariant-loop
invariant-loop l = all_exactly l.wanted (l.count - l.counter) l.bytes l.next ≡ all_exactly l.wanted l.count l.bytes l.at
