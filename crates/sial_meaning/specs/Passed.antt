-- How many sync points and how many pardos were passed before each point of the course.
use Rattle.std.specs.Prelude.{ℕ, zero, suc, ◌+◌}
use Rattle.sial_meaning.specs.Course.{course}
use Rattle.sial_meaning.specs.Next as next
use Rattle.sial_meaning.specs.Next.{Task, next_of, Asks, Local, Operands, Get, Put, Sync, Collect, asked}
use Rattle.sial_meaning.specs.Setting.{Setting}
use Rattle.sial_meaning.specs.Statement.{Copied}
use Rattle.sial_meaning.specs.Step.{Stepped, Moved, Halted, Ended, step}

-- what was passed: sync points, where all workers meet, and pardos, each an instance
pub record Passed : Type 0 where
  pub syncs : ℕ
  pub instances : ℕ

-- a statement passed: those that end an epoch or collect are sync points
abbrev pub with_asked : Asks → Passed → Passed
with_asked (Sync class) p = record p { syncs = p.syncs + 1 }
with_asked (Collect into from) p = record p { syncs = p.syncs + 1 }
with_asked Local p = p
with_asked (Operands blocks) p = p
with_asked (Get block) p = p
with_asked (Put block how from) p = p

-- what came next passed
abbrev pub with_task : Setting → Task → Passed → Passed
with_task g next.Pardo p = record p { instances = p.instances + 1 }
with_task g (next.Statement line form rest) p = with_asked (asked g form) p
with_task g next.Over p = p
with_task g next.Control p = p
with_task g next.End p = p

-- what came next, where a step leads past it
abbrev pub if_moved : Setting → Task → Stepped → Passed → Passed
if_moved g task (Moved w) p = with_task g task p
if_moved g task (Halted trap s) p = p
if_moved g task Ended p = p

-- what was passed before a point of the course
abbrev pub passed : Setting → ℕ → Passed
passed g zero = record { syncs = 0; instances = 0 }
passed g (suc t) = if_moved g (next_of (course g t).work.rest) (step Copied g (course g t).work) (passed g t)
