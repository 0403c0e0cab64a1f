use Rattle.std.proofs.Common.{◌≡◌, ◌*◌, ◌<◌, ℕ, length}
use Rattle.kernel_contract.specs.Panels.{column_entry, loaded}
use Rattle.kernel_contract.proofs.panel.pack_columns.Given as goal

abbrev pub invariant-loop-q : goal.invariant-loop-q
invariant-loop-q l = record {
  len : length l.panels ≡ 16;
  done : (k j : ℕ) → k < l.part.len → j < 4 * l.q → j < l.columns.len → column_entry l.panels k j ≡ loaded l.from l.columns.b l.part.b k j;
}
