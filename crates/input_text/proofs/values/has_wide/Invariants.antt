use Rattle.std.proofs.Common.{◌≡◌, drop}
use Rattle.std.specs.List.{list_any}
use Rattle.input_text.specs.Adding.{is_wide}
use Rattle.input_text.specs.declared.values.Value.{Value}
use Rattle.input_text.proofs.values.has_wide.Given as goal

-- the values that are left have one where all have
abbrev pub invariant-loop-value : goal.invariant-loop-value
invariant-loop-value l = list_any (λ (v : Value). is_wide v.number) (drop l.value-index l.values) ≡ list_any (λ (v : Value). is_wide v.number) l.values
