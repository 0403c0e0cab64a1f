use Rattle.std.proofs.Common.{◌≡◌, drop}
use Rattle.table_verify.specs.Nesting as spec
use Rattle.table_verify.specs.NestSeen.{seen}
use Rattle.table_verify.specs.Outline.{outline}
use Rattle.table_verify.proofs.nesting.broken.Given as goal

abbrev pub invariant-loop-at : goal.invariant-loop-at
invariant-loop-at l = spec.broken_at l.at (outline (drop l.at l.code)) (seen l.nest) ≡ spec.broken_at 0 (outline l.fn.code) (spec.start l.fn.procedures)
