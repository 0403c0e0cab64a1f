use Rattle.std.proofs.Common.{◌∙◌}
use Rattle.kernel_contract.specs.Product.{row_of}
use Rattle.kernel_contract.proofs.Products.{row_by-front}
use Rattle.kernel_contract.proofs.tiles.tile_front.Goals as goal

pub returns-clause-front : goal.returns-clause-front
returns-clause-front g c i j row column =
    let product = row_by-front g.row.S (row_of c.args.a.now i) (row_of c.front.result i) c.args.b.now c.front-2.result j
    (λ k h. c.front.ensures i k row h) (λ k h. c.front-2.ensures k j h column) in
    let old = c.front-sums.ensures i j row column in
    c.set_front.ensures.front i j row column ∙ c.tile.ensures i j row column ∙ rw (old, product)
