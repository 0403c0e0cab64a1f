use Rattle.std.proofs.Common.{◌≡◌, map, replicate, ◌≤◌}
use Rattle.exec_control.proofs.numbers.empty_rows.Given as goal

abbrev pub invariant-loop : goal.invariant-loop
invariant-loop l = (l.counter ≤ 17) × (map (λ row. row.items) l.rows.items ≡ replicate l.counter (replicate l.indices 0))
