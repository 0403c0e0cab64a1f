use Rattle.std.proofs.Common.{◌≡◌, ◌-◌, ◌^◌, List, min, subst}
use Rattle.sial_meaning.specs.Costs as spec
use Rattle.sial_syntax.specs.declared.array.ArrayDecl.{ArrayDecl}
use Rattle.sequential_costs.specs.Over.{over}
use Rattle.sequential_costs.proofs.words.sequential_words.Goals as goal

pub returns : goal.returns
returns c =
    subst (λ (arrays : List ArrayDecl). c.words_over.result ≡ min (spec.sequential_words (over c.args.granted.now.spaces.spaces arrays)) (2 ^ 64 - 1))
    c.as_slice.ensures.value
    c.words_over.ensures
