use Rattle.std.proofs.Common.{option_map, sym, ap, ◌∙◌}
use Rattle.sial_syntax.specs.Tree.{tree}
use Rattle.shape_check.specs.Refused.{fault_of}
use Rattle.shape_check.proofs.WalkLemmas.{walk_first, is_cause}
use Rattle.shape_check.proofs.check.shapes.Goals as goal

pub returns-in-Some-clause-fault : goal.returns-in-Some-clause-fault
returns-in-Some-clause-fault c =
    is_cause (tree c.args.program.now) c.in-Some.fault (sym (ap (option_map fault_of) c.in-Some.is) ∙ (c.in_ok-fault.ensures ∙ walk_first (tree c.args.program.now)))

pub returns-in-None-clause-granted : goal.returns-in-None-clause-granted
returns-in-None-clause-granted c =
    sym (walk_first (tree c.args.program.now)) ∙ (sym c.in_ok-fault.ensures ∙ ap (option_map fault_of) c.in-None.is)
