-- What an assignment or `compute_integrals` makes of a block, and what a worker holds afterwards.
use Rattle.std.specs.Prelude.{◌≡◌, ℕ, List, [], ◌||◌, Result, Ok, Err}
use Rattle.block_pool.specs.Memory.{Memory}
use Rattle.sial_syntax.specs.declared.operand.BlockRef.{BlockRef}
use Rattle.sial_syntax.specs.declared.operand.Op.{Op}
use Rattle.sial_meaning.specs.declared.trap.TrapKind.{TrapKind}
use Rattle.sial_meaning.specs.LocalStep.{Answer, Done, and_then, needs_old, old_words}
use Rattle.sial_meaning.specs.Own.{Own, sight}
use Rattle.sial_meaning.specs.Right.{Side, assigned, is_insertion}
use Rattle.sial_meaning.specs.Setting.{Setting, array_kind}
use Rattle.exec_blocks.specs.Kept.{Kept}
use Rattle.exec_scalars.specs.Numbers.{Numbers}
use Rattle.exec_assign.specs.Standing.{OwnStands}

-- the elements of a block after an assignment of a right side that was read, or the trap that its old ones are
abbrev pub words_made : Setting → Own → BlockRef → Op → Side → Answer (List ℕ)
words_made g own block op side =
    and_then
    (old_words g own block (needs_old op || is_insertion g.spaces block.at side) (array_kind g block.array))
    (λ old. Ok (assigned g.spaces op (sight g own block old) side))

-- a worker holds what a statement left, which changed blocks alone and printed nothing
pub record BlocksAreDone (g : Setting) (p : Memory) (n : Numbers) (b : Kept) (values : List ℕ) (own : Own) (done : Done) : Type 0 where
  pub stands : OwnStands g p n b values done.own done.partials
  pub rest : done.own ≡ record own { statics = done.own.statics; temps = done.own.temps; locals = done.own.locals }
  pub quiet : done.printed ≡ []

-- a statement ended so, or trapped and left the pool and the blocks as they were
abbrev pub BlocksEnd : Setting → Numbers → (values : List ℕ) → (p p1 : Memory) → (b b1 : Kept) → Own → Answer Done → Result (Unit {0}) TrapKind → Type 0
BlocksEnd g n values p p1 b b1 own (Ok done) (Ok x) = BlocksAreDone g p1 n b1 values own done
BlocksEnd g n values p p1 b b1 own (Ok done) (Err kind) = ⊥
BlocksEnd g n values p p1 b b1 own (Err trap) (Ok x) = ⊥
BlocksEnd g n values p p1 b b1 own (Err trap) (Err kind) = (kind ≡ trap) × (p1 ≡ p) × (b1 ≡ b)
