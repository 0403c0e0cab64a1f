-- How a kernel's value meets the number that its target holds.
use Rattle.std.specs.Prelude.{ℕ, ◌+◌, ◌-◌, ◌%◌, ◌^◌}
use Rattle.kernel_permute.specs.declared.how.How.{How}
use Rattle.kernel_permute.specs.declared.how.How.TheVariants.{Set, Add, Subtract}

-- the number that the target holds afterwards
abbrev pub combined : How → ℕ → ℕ → ℕ
combined Set old value = value
combined Add old value = (old + value) % 2 ^ 64
combined Subtract old value = (old + (2 ^ 64 - value)) % 2 ^ 64
