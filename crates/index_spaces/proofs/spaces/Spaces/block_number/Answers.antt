use Rattle.std.proofs.Common.{◌≡◌, ◌<◌, List, ℕ, ap, ◌∙◌, arith}
use Rattle.sial_syntax.specs.Boxes.{volume}
use Rattle.sial_syntax.specs.Spaces.{box_of, rank_of}
use Rattle.sial_syntax.proofs.RankLemmas.{rank-within}
use Rattle.index_spaces.specs.Placed.{array_among}
use Rattle.index_spaces.proofs.spaces.Spaces.block_number.Goals as goal

pub prove-unreachable-requires : goal.prove-unreachable-requires
prove-unreachable-requires c =
    let spaces = c.args.self.now.spaces in
    let dims = (array_among c.args.self.now.arrays c.args.array).dims in
    let rank : c.rank_of-rank.result ≡ rank_of spaces dims c.args.tuple.now = c.rank_of-rank.ensures ∙ ap (λ (d : List ℕ). rank_of spaces d c.args.tuple.now) c.dims.ensures in
    let count : c.blocks_of-count.result ≡ volume (box_of spaces dims) = c.blocks_of-count.ensures in
    let below : rank_of spaces dims c.args.tuple.now < volume (box_of spaces dims) = rank-within spaces dims c.args.tuple.now c.requires.within in
    omega (arith, c.if-prove.true, rank, count, below)
