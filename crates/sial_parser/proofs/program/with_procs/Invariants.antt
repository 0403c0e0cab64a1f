use Rattle.std.proofs.Common.{◌≡◌, length}
use Rattle.sial_parser.specs.Names.{seen}
use Rattle.sial_parser.specs.Parsing as spec
use Rattle.sial_parser.proofs.program.with_procs.Given as goal

-- one word fewer
abbrev pub decreases-loop-rest : goal.decreases-loop-rest
decreases-loop-rest l = length l.rest

-- the names so far, and those that are left
abbrev pub invariant-loop-rest : goal.invariant-loop-rest
invariant-loop-rest l = spec.with_procs (seen l.names) l.number (spec.proc_names l.rest) ≡ spec.with_procs (seen l.fn.names) 0 (spec.proc_names l.words)
