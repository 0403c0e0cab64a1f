use Rattle.std.proofs.Common.{◌+◌, ◌-◌, ◌++◌, ℕ, Option, List, map, length, slice_index_or, ap, ◌∙◌, arith}
use Rattle.std.proofs.lemmas.List.{length-append}
use Rattle.sial_meaning.specs.Own.{start_own, start_scalar}
use Rattle.sial_meaning.specs.Setting.{scalar_class}
use Rattle.sial_syntax.specs.Boxes.{numbers_from}
use Rattle.sip_setting.specs.Seen.{setting_of}
use Rattle.exec_scalars.proofs.EachLemmas.{added}
use Rattle.exec_scalars.proofs.scalars.start_numbers.Goals as goal

pub loop-scalar-preserved : goal.loop-scalar-preserved
loop-scalar-preserved c =
    let inv = c.loop-scalar.invariant in
    let i = c.loop-scalar.scalar in
    let n = c.scalars_len-scalar-end.result in
    let starts : ℕ → Option ℕ = λ s. start_scalar (scalar_class (setting_of c.args.job.now) s) (slice_index_or (setting_of c.args.job.now).numbers s 0) in (
      ap (λ (xs : List (Option ℕ)). xs ++ map starts (numbers_from (i + 1) (n - (i + 1)))) c.in_ok-push.ensures.items
          ∙ added starts c.loop-scalar.numbers.items (start_own (setting_of c.args.job.now)).scalars c.start_number.result i n c.loop-scalar-test.true c.start_number.ensures inv.0,
      ap length c.in_ok-push.ensures.items ∙ omega (arith, length-append {A = Option ℕ}, inv.1),
      inv.2,
      omega (arith, c.loop-scalar-test.true),
    )
