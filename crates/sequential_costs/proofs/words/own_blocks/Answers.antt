use Rattle.std.proofs.Common.{◌≡◌, List, [], drop, length, ap, arith, rules}
use Rattle.std.proofs.lemmas.List.{drop_all}
use Rattle.std.specs.Prelude.{sum_by}
use Rattle.sial_meaning.specs.Costs.{arrays_of}
use Rattle.sial_syntax.specs.declared.array.ArrayDecl.{ArrayDecl}
use Rattle.sial_syntax.specs.declared.array.ArrayKind.TheVariants.{Static, Temp, Local}
use Rattle.sial_syntax.specs.Spaces.{blocks_of}
use Rattle.sequential_costs.specs.Over.{over}
use Rattle.sequential_costs.proofs.words.own_blocks.Goals as goal

pub returns : goal.returns
returns c =
    let spaces = c.args.spaces.now.spaces in
    let left = drop c.loop-array.array-index c.args.arrays.now in
    let none : left ≡ [] = search (rules, drop_all) in
    let blocks : sum_by (blocks_of spaces) (arrays_of (over spaces left) Static Local) ≡ 0 =
    ap (λ (bs : List ArrayDecl). sum_by (blocks_of spaces) (arrays_of (over spaces bs) Static Local)) none in
    let temps : length (arrays_of (over spaces left) Temp Temp) ≡ 0 = ap (λ (bs : List ArrayDecl). length (arrays_of (over spaces bs) Temp Temp)) none in
    omega (arith, blocks, temps, c.loop-array.invariant.0, c.loop-array.invariant.1)
