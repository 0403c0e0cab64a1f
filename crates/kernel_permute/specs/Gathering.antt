-- Numbers read from places that are named one by one.
use Rattle.std.specs.Prelude.{ℕ, ◌<◌, List, map, length, slice_index}
use Rattle.std.specs.List.{All}

-- each place lies in the list
abbrev pub AreWithin : List ℕ → List ℕ → Type 0
AreWithin from places = All (λ place. place < length from) places

-- the number at each of the places
abbrev pub gathered : List ℕ → List ℕ → List ℕ
gathered from places = map (λ place. slice_index from place) places
