use Rattle.std.proofs.Common.{◌≡◌, drop, flat_map}
use Rattle.std.specs.List.{list_any}
use Rattle.sial_syntax.specs.Parts.{condition_scalars}
use Rattle.scalar_discipline.specs.Judging.{is_wanted}
use Rattle.scalar_discipline.proofs.judging.wheres_wanted.Given as goal

-- the conditions that are left read what all read
abbrev pub invariant-loop-cond : goal.invariant-loop-cond
invariant-loop-cond l =
    list_any (is_wanted l.classes l.partial) (flat_map condition_scalars (drop l.cond-index l.wheres)) ≡ list_any (is_wanted l.classes l.partial) (flat_map condition_scalars l.wheres)
