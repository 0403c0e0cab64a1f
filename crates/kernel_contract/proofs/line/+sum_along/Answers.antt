use Rattle.std.proofs.Common.{◌≡◌, ◌%◌, ◌^◌, ◌∙◌, List, ap, arith, length, rules, subst, sym}
use Rattle.kernel_contract.specs.Parts.{Reaches, sum_from}
use Rattle.kernel_contract.specs.Positions.{offset_a, offset_b}
use Rattle.kernel_contract.specs.Sum.{sum_to}
use Rattle.kernel_contract.specs.declared.axis.Axis.{Axis}
use Rattle.kernel_contract.proofs.LineLemmas.{Reaches-rest, first_alone, first_and_rest, first_of, reached_at_none, rest_of, sum_from-along, terms_at}
use Rattle.kernel_contract.proofs.Sums.{sum_next}
use Rattle.kernel_contract.proofs.line.+sum_along.Goals as goal

pub number_at-requires : goal.number_at-requires
number_at-requires t c = reached_at_none (λ x. x.a) c.args.shared.now c.args.from_a (length c.args.a.now) c.in-empty.len_below c.requires.in_a

pub number_at-requires-in-empty : goal.number_at-requires-in-empty
number_at-requires-in-empty t c = reached_at_none (λ x. x.b) c.args.shared.now c.args.from_b (length c.args.b.now) c.in-empty.len_below c.requires.in_b

pub sum_of_line-requires-clause-in_a : goal.sum_of_line-requires-clause-in_a
sum_of_line-requires-clause-in_a t c =
    subst (λ (xs : List Axis). Reaches offset_a xs c.args.from_a (length c.args.a.now)) (first_alone c.args.shared.now c.in-len1.len_at_least c.in-len1.len_below) c.requires.in_a

pub sum_of_line-requires-clause-in_b : goal.sum_of_line-requires-clause-in_b
sum_of_line-requires-clause-in_b t c =
    subst (λ (xs : List Axis). Reaches offset_b xs c.args.from_b (length c.args.b.now)) (first_alone c.args.shared.now c.in-len1.len_at_least c.in-len1.len_below) c.requires.in_b

pub sum_along-sum-requires : goal.sum_along-sum-requires
sum_along-sum-requires t c = (
  search rules,
  (
    Reaches-rest (λ x. x.a) c.args.shared.now c.args.from_a c.loop-n.n (length c.args.a.now) (omega (arith, c.in-len1-up.len_at_least)) c.requires.in_a c.loop-n-test.true,
    Reaches-rest (λ x. x.b) c.args.shared.now c.args.from_b c.loop-n.n (length c.args.b.now) (omega (arith, c.in-len1-up.len_at_least)) c.requires.in_b c.loop-n-test.true,
  ),
)

pub loop-n-preserved : goal.loop-n-preserved
loop-n-preserved t c =
    sum_next (terms_at c.args.a.now c.args.b.now (first_of c.args.shared.now) (rest_of c.args.shared.now) c.args.from_a c.args.from_b)
    c.loop-n.n c.loop-n.sum c.sum_along-sum.result c.loop-n.invariant
    (c.sum_along-sum.ensures
    ∙ sum_from-along c.args.a.now c.args.b.now (first_of c.args.shared.now) (rest_of c.args.shared.now) c.args.from_a c.args.from_b c.loop-n.n)

pub returns-after-loop-n : goal.returns-after-loop-n
returns-after-loop-n t c =
    let all : c.loop-n.n ≡ (first_of c.args.shared.now).len = omega (arith, c.loop-n-test.false) in
    c.loop-n.invariant
    ∙ ap (λ n. sum_to n (terms_at c.args.a.now c.args.b.now (first_of c.args.shared.now) (rest_of c.args.shared.now) c.args.from_a c.args.from_b) % 2 ^ 64) all
    ∙ ap (λ (xs : List Axis). sum_from c.args.a.now c.args.b.now xs c.args.from_a c.args.from_b) (sym (first_and_rest c.args.shared.now (omega (arith, c.in-len1-up.len_at_least))))
