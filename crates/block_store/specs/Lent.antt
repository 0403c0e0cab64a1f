-- What blocks are after the words of one were lent.
use Rattle.std.specs.Prelude.{ℕ, List, ◌++◌, length, take, drop}
use Rattle.std.specs.List.{concat, refill}
use Rattle.block_store.specs.Memory.{begin_of, blocks_from, ends_from, sizes_of}

-- words written over others from a place on, of which there stay as many
abbrev pub overlaid : List ℕ → ℕ → List ℕ → List ℕ
overlaid words begin ws = refill (length words) words (take begin words ++ (ws ++ drop (length ws) (drop begin words)))

-- blocks that stand one after another with these ends, once words are written over all of them from where one begins
abbrev pub overwritten : (ends : List ℕ) → List (List ℕ) → (block : ℕ) → List ℕ → List (List ℕ)
overwritten ends blocks block ws = blocks_from 0 ends (overlaid (concat blocks) (begin_of ends block) ws)

-- blocks, after the words of one were lent and are these now: as many as the block has replace just that block
abbrev pub written_back : List (List ℕ) → (block : ℕ) → List ℕ → List (List ℕ)
written_back blocks block ws = overwritten (ends_from 0 (sizes_of blocks)) blocks block ws
