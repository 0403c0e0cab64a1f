use Rattle.std.proofs.Common.{◌≡◌, ◌-◌, ◌%◌, ◌^◌, ◌<◌, ◌≤◌, ℕ, get_or}
use Rattle.kernel_contract.specs.Parts.{term_at}
use Rattle.kernel_contract.specs.Product.{entry}
use Rattle.kernel_contract.specs.Sum.{sum_to}
use Rattle.kernel_contract.specs.Walks.{Stands, count, gone}
use Rattle.kernel_contract.proofs.tile_sums.products.Given as goal

abbrev pub invariant-loop-walk : goal.invariant-loop-walk
invariant-loop-walk g l = record {
  stands : Stands l.shared l.walk;
  within : gone l.shared l.walk ≤ count l.shared;
  done : (i j : ℕ) → i < l.rows.len → j < l.columns.len
      → entry l.sums i j ≡ sum_to (gone l.shared l.walk) (term_at l.a l.b l.shared (get_or l.rows.a i 0) (get_or l.columns.b j 0)) % 2 ^ 64;
}

abbrev pub decreases-loop-walk : goal.decreases-loop-walk
decreases-loop-walk g l = count l.shared - gone l.shared l.walk
