use Rattle.std.proofs.Common.{◌≡◌, [], drop, ap, arith, rules}
use Rattle.std.proofs.lemmas.List.{drop_all}
use Rattle.index_spaces.specs.Laid.{kept_together}
use Rattle.index_spaces.proofs.laying.kept.Goals as goal

pub returns : goal.returns
returns c =
    let none : drop c.loop-array.array-index c.args.blocks.now ≡ [] = search (rules, drop_all) in
    let rest : kept_together c.args.kind (drop c.loop-array.array-index c.args.blocks.now) ≡ 0 = ap (kept_together c.args.kind) none in
    omega (arith, rest, c.loop-array.invariant.0, c.loop-array.invariant.1)
