-- Words of all slots in one list, cut into those of each slot.
use Rattle.std.specs.Prelude.{ℕ, ◌+◌, List, [], ◌∷◌, ◌++◌, length, map, take, drop}
use Rattle.std.specs.List.{concat, refill}

-- how many words slots of these widths have
abbrev pub total : List ℕ → ℕ
total [] = 0
total (width ∷ widths) = width + total widths

-- words cut into rows of these widths
abbrev pub cut : List ℕ → List ℕ → List (List ℕ)
cut [] words = []
cut (width ∷ widths) words = take width words ∷ cut widths (drop width words)

-- how many words stand before those of a slot
abbrev pub begin_of : List (List ℕ) → ℕ → ℕ
begin_of rows slot = length (concat (take slot rows))

-- words written over others from a place on, of which there stay as many
abbrev pub overlaid : List ℕ → ℕ → List ℕ → List ℕ
overlaid words begin ws = refill (length words) words (take begin words ++ (ws ++ drop (length ws) (drop begin words)))

-- rows, after the words of one were lent and are these now: they stand in one list and are written
-- over it from where the row begins, so as many as the row has replace just that row
abbrev pub written_back : List (List ℕ) → ℕ → List ℕ → List (List ℕ)
written_back rows slot ws = cut (map length rows) (overlaid (concat rows) (begin_of rows slot) ws)
