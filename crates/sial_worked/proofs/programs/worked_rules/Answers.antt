use Rattle.sial_worked.proofs.RulesAre as rules
use Rattle.sial_worked.proofs.programs.worked_rules.Goals as goal

pub returns : goal.returns
returns c = record {
  part = rules.part-is-refused;
  small = rules.small-is-proper;
  too_deep = rules.chain-is-refused;
  two_faults = rules.two-faults-on-one-line;
  two_statements = rules.two-statements-on-one-line;
  first_line = rules.first-line-first;
  earlier_line = rules.earlier-line-first;
}
