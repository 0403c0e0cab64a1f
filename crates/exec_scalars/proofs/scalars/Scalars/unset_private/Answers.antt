use Rattle.std.proofs.Common.{None, ap, ◌∙◌, arith}
use Rattle.std.proofs.lemmas.List.{length-set}
use Rattle.sial_meaning.specs.Own.{unset_if_private}
use Rattle.sial_meaning.specs.Setting.{scalar_class}
use Rattle.sip_setting.specs.Seen.{setting_of}
use Rattle.exec_scalars.proofs.EachLemmas.{one-more-set, rest-set, read-any}
use Rattle.exec_scalars.proofs.scalars.Scalars.unset_private.Goals as goal

pub loop-scalar-preserved : goal.loop-scalar-preserved
loop-scalar-preserved c =
    let inv = c.loop-scalar.invariant in
    let now = c.loop-scalar.self-inside.numbers.items in
    let old = c.args.self.now.scalars in
    let i = c.loop-scalar.scalar in (
      one-more-set _ now old _ c.unless_private.result None i (omega (arith, inv.3, c.loop-scalar-test.true)) inv.2 inv.1
          (λ same. c.unless_private.ensures
          ∙ ap (unset_if_private (scalar_class (setting_of c.args.job.now) i)) (c.index.ensures ∙ (read-any now i c.index.result.now None (omega (arith, inv.2, inv.3, c.loop-scalar-test.true)) ∙ same)))
          inv.0,
      rest-set now old c.unless_private.result i inv.1,
      length-set now i c.unless_private.result ∙ inv.2,
      inv.3,
      inv.4,
      omega (arith, c.loop-scalar-test.true),
      inv.6,
    )
