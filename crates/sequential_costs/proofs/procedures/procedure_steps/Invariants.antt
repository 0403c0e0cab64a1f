use Rattle.std.proofs.Common.{◌≡◌}
use Rattle.sip_setting.specs.Seen.{setting_of}
use Rattle.sequential_costs.specs.Called.{costs_after}
use Rattle.sequential_costs.proofs.procedures.procedure_steps.Given as goal

-- so many calls are within each other
abbrev pub invariant-loop-turn : goal.invariant-loop-turn
invariant-loop-turn l = l.steps.items ≡ costs_after (setting_of l.granted) l.turn
