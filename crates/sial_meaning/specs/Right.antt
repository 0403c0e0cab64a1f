-- The value of a right side at places, and the block that an assignment makes of its target.
use Rattle.std.specs.Prelude.{ℕ, ◌*◌, ◌%◌, ◌^◌, List, ◌++◌, map, Bool, false, ◌&&◌, not, Option, Some, None, filter, zip, sum_by, unwrap_or}
use Rattle.std.specs.List.{list_any}
use Rattle.sial_syntax.specs.Agreeing.{contains}
use Rattle.sial_syntax.specs.Boxes.{tuples}
use Rattle.sial_syntax.specs.Spaces.{Spaces, Extent}
use Rattle.sial_syntax.specs.declared.operand.Bin.{Bin}
use Rattle.sial_syntax.specs.declared.operand.Bin.TheVariants.{Plus, Minus, Times, Outer}
use Rattle.sial_syntax.specs.declared.operand.Op.{Op}
use Rattle.sial_meaning.specs.Number.{plus, minus, times, combined}
use Rattle.sial_meaning.specs.Sight.{Sight, Places, cuts, element, places_at, word_at, lengths}

-- an operand that was read: the same number everywhere, or a block
pub data Term : Type 0 where
  Plain : ℕ → Term
  Shown : Sight → Term

-- a right side whose operands were read
pub data Side : Type 0 where
  Alone : Term → Side
  Joined : Term → Bin → Term → Side

-- the two numbers' combination, none where either is missing
abbrev pub both : (ℕ → ℕ → ℕ) → Option ℕ → Option ℕ → Option ℕ
both f None b = None
both f (Some a) None = None
both f (Some a) (Some b) = Some (f a b)

-- an operand at places
abbrev pub term_at : Spaces → Places → Term → Option ℕ
term_at spaces places (Plain n) = Some n
term_at spaces places (Shown sight) = element spaces places sight

-- the indices that two blocks share, with what they lie on
abbrev pub shared_dims : Sight → Sight → List (ℕ × Extent)
shared_dims a b = filter (λ d. contains b.at d.0) (zip a.at a.extents)

-- how many positions each of these indices has
abbrev pub dim_lengths : List (ℕ × Extent) → List ℕ
dim_lengths dims = map (λ (d : ℕ × Extent). d.1.len) dims

-- the product of two blocks at places: summed over all positions of the indices that they share
abbrev pub product_at : Spaces → Places → Sight → Sight → ℕ
product_at spaces places a b =
    sum_by
    (λ t. unwrap_or (both (λ x y. x * y) (element spaces (places ++ places_at (shared_dims a b) t) a) (element spaces (places ++ places_at (shared_dims a b) t) b)) 0)
    (tuples (dim_lengths (shared_dims a b)))
    % 2 ^ 64

-- two operands at places
abbrev pub joined_at : Spaces → Places → Term → Bin → Term → Option ℕ
joined_at spaces places a Plus b = both plus (term_at spaces places a) (term_at spaces places b)
joined_at spaces places a Minus b = both minus (term_at spaces places a) (term_at spaces places b)
joined_at spaces places (Plain n) Times b = both times (Some n) (term_at spaces places b)
joined_at spaces places (Shown a) Times (Plain n) = both times (element spaces places a) (Some n)
joined_at spaces places (Shown a) Times (Shown b) = Some (product_at spaces places a b)
joined_at spaces places a Outer b = both times (term_at spaces places a) (term_at spaces places b)

-- a right side at places, none where an inserted block has no element
abbrev pub side_at : Spaces → Places → Side → Option ℕ
side_at spaces places (Alone a) = term_at spaces places a
side_at spaces places (Joined a bin b) = joined_at spaces places a bin b

-- an element after the assignment: one that the right side doesn't name stays
abbrev pub met : Op → ℕ → Option ℕ → ℕ
met op old None = old
met op old (Some value) = combined op old value

-- the target's elements after an assignment
abbrev pub assigned : Spaces → Op → Sight → Side → List ℕ
assigned spaces op target side =
    map (λ t. met op (word_at target t) (side_at spaces (places_at (zip target.at target.extents) t) side)) (tuples (lengths target.extents))

-- whether an index stands for only a part of one of the target's
abbrev pub is_part : Spaces → List ℕ → ℕ → Bool
is_part spaces target index = not (contains target index) && list_any (cuts spaces index) target

-- whether a right side names only a part of the target
abbrev pub is_insertion : Spaces → List ℕ → Side → Bool
is_insertion spaces target (Alone (Plain n)) = false
is_insertion spaces target (Alone (Shown sight)) = list_any (is_part spaces target) sight.at
is_insertion spaces target (Joined a bin b) = false
