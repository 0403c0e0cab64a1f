-- Runs of slots that are equally wide.
use Rattle.std.specs.Prelude.{ℕ, List, [], ◌∷◌, ◌++◌, replicate}
use Rattle.block_pool.specs.declared.runs.Run.{Run}

-- how wide each slot of the runs is
abbrev pub widths_of : List Run → List ℕ
widths_of [] = []
widths_of (run ∷ runs) = replicate run.count run.width ++ widths_of runs
