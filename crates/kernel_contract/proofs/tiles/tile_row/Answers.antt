use Rattle.std.proofs.Common.{◌≡◌, ◌∙◌, ◌*◌, ◌+◌, ◌%◌, ◌^◌, ap, arith, get_or, refl}
use Rattle.std.proofs.Math.Nat.{add-mod-mod}
use Rattle.kernel_contract.specs.Product.{entry, row_by}
use Rattle.kernel_contract.proofs.Sums.{sum_next}
use Rattle.kernel_contract.proofs.tiles.tile_row.Goals as goal

pub loop-k-preserved : goal.loop-k-preserved
loop-k-preserved g c j low =
    c.with_scaled-sums.ensures j low
    ∙ sum_next (λ k. get_or c.args.row.now k 0 * entry c.args.b.now k j) c.loop-k.k _ _ (c.loop-k.invariant j low) refl

pub returns : goal.returns
returns g c j low =
    let all : c.loop-k.k ≡ g.row.S = omega arith in
    c.added.ensures j low
    ∙ ap (λ t. (get_or c.args.to.now j 0 + t) % 2 ^ 64) (c.loop-k.invariant j low ∙ ap (λ n. row_by c.args.row.now c.args.b.now n j % 2 ^ 64) all)
    ∙ add-mod-mod (get_or c.args.to.now j 0) (row_by c.args.row.now c.args.b.now g.row.S j) (2 ^ 64)
