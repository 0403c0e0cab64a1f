-- A store in memory: the blocks in order of their numbers.
use Rattle.std.specs.Prelude.{◌≡◌, ℕ, ◌+◌, ◌≤◌, List, [], ◌∷◌, map, length, replicate, slice_index, slice_range}
use Rattle.std.specs.FinMap as finite
use Rattle.block_store.specs.Store.{Blocks}

-- the blocks that stand one after another from here on, by where each ends
abbrev pub blocks_from : ℕ → List ℕ → List ℕ → List (List ℕ)
blocks_from start [] words = []
blocks_from start (end ∷ ends) words = slice_range words start end ∷ blocks_from end ends words

-- each block ends where it begins or later, and the last one behind so many numbers
abbrev pub InOrder : ℕ → List ℕ → ℕ → Type 0
InOrder start [] count = start ≡ count
InOrder start (end ∷ ends) count = (start ≤ end) × InOrder end ends count

-- where a block begins
abbrev pub begin_of : List ℕ → ℕ → ℕ
begin_of ends block = slice_index (0 ∷ ends) block

-- where blocks of these sizes end, the first one beginning here
abbrev pub ends_from : ℕ → List ℕ → List ℕ
ends_from start [] = []
ends_from start (size ∷ sizes) = (start + size) ∷ ends_from (start + size) sizes

-- where the last of them ends
abbrev pub end_from : ℕ → List ℕ → ℕ
end_from start [] = start
end_from start (size ∷ sizes) = end_from (start + size) sizes

-- the blocks with their numbers, from this one on
abbrev pub numbered : ℕ → List (List ℕ) → List (ℕ × List ℕ)
numbered number [] = []
numbered number (block ∷ blocks) = (number, block) ∷ numbered (number + 1) blocks

-- the map from each number to its block
abbrev pub blocks_of : List (List ℕ) → Blocks
blocks_of blocks = finite.from_entries (numbered 0 blocks)

-- how many numbers each block has
abbrev pub sizes_of : List (List ℕ) → List ℕ
sizes_of blocks = map length blocks

-- blocks of zeros, of these sizes
abbrev pub zeros : List ℕ → List (List ℕ)
zeros sizes = map (λ size. replicate size 0) sizes
