use Rattle.std.proofs.Common.{◌≡◌, ℕ, ◌≤◌, ◌+◌, ◌-◌, ◌^◌, List, [], drop, fold, map, max, ap, sym, subst, ◌∙◌, arith, rules}
use Rattle.std.proofs.lemmas.List.{drop_all}
use Rattle.sial_syntax.specs.declared.array.ArrayDecl.{ArrayDecl}
use Rattle.sial_syntax.specs.Widths.{widest_block}
use Rattle.sequential_costs.proofs.WordLemmas.{from_item, kept, kept_width, one_width}
use Rattle.sequential_costs.proofs.words.block_width.Goals as goal

pub loop-array-preserved : goal.loop-array-preserved
loop-array-preserved c =
    let arrays = c.args.arrays.now in
    let i = c.loop-array.array-index in
    let a = c.array-item.result in
    let width = c.loop-array.width in
    let of : ArrayDecl → ℕ = λ (b : ArrayDecl). widest_block c.args.spaces.now.spaces b.dims in
    let widths = map of (drop (i + 1) arrays) in
    let wide : c.max-width.result ≡ max (kept (of a)) width = search rules in (
      subst (λ (n : ℕ). n ≤ 2 ^ 64 - 1) (sym wide) (kept_width width (of a) c.loop-array.invariant.0),
      ap (λ (n : ℕ). kept (fold max n widths)) wide
          ∙ (one_width width (of a) widths
          ∙ (ap (λ (bs : List ArrayDecl). kept (fold max width (map of bs))) (sym (from_item arrays i a c.loop-array-test.true c.array-item.is)) ∙ c.loop-array.invariant.1)),
    )

pub returns : goal.returns
returns c =
    let width = c.loop-array.width in
    let of : ArrayDecl → ℕ = λ (b : ArrayDecl). widest_block c.args.spaces.now.spaces b.dims in
    let none : drop c.loop-array.array-index c.args.arrays.now ≡ [] = search (rules, drop_all) in
    let rest : fold max width (map of (drop c.loop-array.array-index c.args.arrays.now)) ≡ width = ap (λ (bs : List ArrayDecl). fold max width (map of bs)) none in
    omega (arith, rest, c.loop-array.invariant.0, c.loop-array.invariant.1)
