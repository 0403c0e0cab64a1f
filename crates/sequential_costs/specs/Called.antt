-- The steps of all procedures, call by call.
use Rattle.std.specs.Prelude.{ℕ, zero, suc, List, map, length, replicate, slice_index_or}
use Rattle.sial_meaning.specs.Costs.{block_cost}
use Rattle.sial_meaning.specs.Setting.{Setting}
use Rattle.sial_syntax.specs.Tree.{Procedure}

-- the steps of a procedure by its number; one that isn't there has none
abbrev pub among : List ℕ → ℕ → ℕ
among steps procedure = slice_index_or steps procedure 0

-- the steps of each procedure, where those that it calls have these
abbrev pub with_calls : Setting → List ℕ → List ℕ
with_calls g calls = map (λ (p : Procedure). block_cost g (among calls) p.body) g.program.procedures

-- the steps of procedures that may call so deep
abbrev pub costs_after : Setting → (depth : ℕ) → List ℕ
costs_after g zero = replicate (length g.program.procedures) 0
costs_after g (suc depth) = with_calls g (costs_after g depth)
