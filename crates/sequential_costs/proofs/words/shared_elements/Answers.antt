use Rattle.std.proofs.Common.{◌≡◌, List, [], drop, ap, arith, rules}
use Rattle.std.proofs.lemmas.List.{drop_all}
use Rattle.std.specs.Prelude.{sum_by}
use Rattle.sial_meaning.specs.Costs.{arrays_of, elements_of}
use Rattle.sial_syntax.specs.declared.array.ArrayDecl.{ArrayDecl}
use Rattle.sial_syntax.specs.declared.array.ArrayKind.TheVariants.{Distributed, Served}
use Rattle.sequential_costs.specs.Over.{over}
use Rattle.sequential_costs.proofs.words.shared_elements.Goals as goal

pub returns : goal.returns
returns c =
    let spaces = c.args.spaces.now.spaces in
    let left = drop c.loop-array.array-index c.args.arrays.now in
    let none : left ≡ [] = search (rules, drop_all) in
    let rest : sum_by (elements_of spaces) (arrays_of (over spaces left) Distributed Served) ≡ 0 =
    ap (λ (bs : List ArrayDecl). sum_by (elements_of spaces) (arrays_of (over spaces bs) Distributed Served)) none in
    omega (arith, rest, c.loop-array.invariant.0, c.loop-array.invariant.1)
