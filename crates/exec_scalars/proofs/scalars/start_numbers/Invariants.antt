use Rattle.std.proofs.Common.{◌≡◌, ◌-◌, ◌≤◌, ◌++◌, map, length, slice_index_or}
use Rattle.sial_meaning.specs.Own.{start_own, start_scalar}
use Rattle.sial_meaning.specs.Setting.{scalar_class}
use Rattle.sial_syntax.specs.Boxes.{numbers_from}
use Rattle.sip_setting.specs.Seen.{setting_of}
use Rattle.exec_scalars.proofs.scalars.start_numbers.Given as goal

abbrev pub invariant-loop-scalar : goal.invariant-loop-scalar
invariant-loop-scalar l =
    (l.numbers.items ++ map (λ s. start_scalar (scalar_class (setting_of l.fn.job) s) (slice_index_or (setting_of l.fn.job).numbers s 0)) (numbers_from l.scalar (l.scalar-end - l.scalar))
    ≡ (start_own (setting_of l.fn.job)).scalars)
    × (length l.numbers.items ≡ l.scalar) × (l.scalar-end ≤ 256) × (l.scalar ≤ l.scalar-end)
