use Rattle.std.proofs.Common.{◌≡◌, ◌-◌, ◌≤◌, ◌++◌, map, take, drop, length, slice_index_or, None}
use Rattle.sial_meaning.specs.Own.{for_each, unset_if_private}
use Rattle.sial_meaning.specs.Setting.{scalar_class}
use Rattle.sial_syntax.specs.Boxes.{numbers_from}
use Rattle.sip_setting.specs.Seen.{setting_of}
use Rattle.exec_scalars.proofs.scalars.Scalars.unset_private.Given as goal

abbrev pub invariant-loop-scalar : goal.invariant-loop-scalar
invariant-loop-scalar l =
    (take l.scalar l.self-inside.numbers.items ++ map (λ s. unset_if_private (scalar_class (setting_of l.fn.job) s) (slice_index_or l.fn.self.scalars s None)) (numbers_from l.scalar (length l.fn.self.scalars - l.scalar))
    ≡ for_each (length l.fn.self.scalars) (λ s. unset_if_private (scalar_class (setting_of l.fn.job) s) (slice_index_or l.fn.self.scalars s None)))
    × (drop l.scalar l.self-inside.numbers.items ≡ drop l.scalar l.fn.self.scalars) × (length l.self-inside.numbers.items ≡ length l.fn.self.scalars)
    × (l.scalar-end ≡ length l.fn.self.scalars) × (l.scalar-end ≤ 256) × (l.scalar ≤ l.scalar-end) × (l.self-inside.partials.items ≡ l.fn.self.partials)
