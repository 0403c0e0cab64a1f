-- Blocks by number, as the map sees them.
use Rattle.std.proofs.Common.{◌≡◌, ℕ, zero, suc, ◌+◌, ◌<◌, Bool, true, false, cond, List, [], ◌∷◌, length, get_or, set, slice_index, Option, Some, IsSome, refl, sym, ap, ◌∙◌, subst, arith}
use Rattle.std.proofs.lemmas.List.{length-map}
use Rattle.std.proofs.lemmas.Bool.Decides.{nat_tests}
use Rattle.std.specs.FinMap as finite
use Rattle.std.specs.FinMap.{find, same_map, get-from_entries, get-insert, nat_cmp-IsAntisymmetric}
use Rattle.std.specs.Ordering.{nat_cmp, eq_by_cmp}
use Rattle.std.proofs.lemmas.Cmp.{nat_cmp_total}
use Rattle.block_store.specs.Store.{HasBelow}
use Rattle.block_store.specs.Memory.{numbered, blocks_of, sizes_of}

-- a number is found by itself
is_number : (x y : ℕ) → x ≡ y → eq_by_cmp nat_cmp x y ≡ true
is_number x y same = grind (arith, nat_tests)

-- and by no lower one
is_other : (x y : ℕ) → y < x → eq_by_cmp nat_cmp x y ≡ false
is_other x y above = grind (arith, nat_tests)

-- no number is two
apart : (x y z : ℕ) → y < z → eq_by_cmp nat_cmp x y ≡ true → eq_by_cmp nat_cmp x z ≡ true → ⊥
apart x y z above first second = grind (arith, nat_tests)

-- a number's row is found
find-numbered : (number from place : ℕ) (rows : List (List ℕ)) (d : List ℕ) → number ≡ from + place → place < length rows → find nat_cmp number (numbered from rows) ≡ Some (get_or rows place d)
find-numbered number from place [] d is within = absurd (omega arith)
find-numbered number from zero (row ∷ rows) d is within =
    ap (λ b. cond b (Some row) (find nat_cmp number (numbered (from + 1) rows))) (is_number number from (omega arith))
find-numbered number from (suc place) (row ∷ rows) d is within =
    ap (λ b. cond b (Some row) (find nat_cmp number (numbered (from + 1) rows))) (is_other number from (omega arith))
    ∙ find-numbered number (from + 1) place rows d (omega arith) (omega arith)

-- two tests of one number: the inner one is never reached
shadowed : {A : Type 0} (b : Bool) (x y z : A) → cond b x z ≡ cond b x (cond b y z)
shadowed true x y z = refl
shadowed false x y z = refl

-- tests that don't both hold may come in either order
swapped : {A : Type 0} (a b : Bool) (x y z : A) → (a ≡ true → b ≡ true → ⊥) → cond a x (cond b y z) ≡ cond b y (cond a x z)
swapped true true x y z exclude = absurd (exclude refl refl)
swapped true false x y z exclude = refl
swapped false b x y z exclude = refl

-- after a row is replaced, its number finds the new one and every other number what it found
find-numbered-set : (query number from place : ℕ) (rows : List (List ℕ)) (row : List ℕ) → number ≡ from + place → place < length rows → find nat_cmp query (numbered from (set rows place row)) ≡ cond (eq_by_cmp nat_cmp query number) (Some row) (find nat_cmp query (numbered from rows))
find-numbered-set query number from place [] row is within = absurd (omega arith)
find-numbered-set query number from zero (old ∷ rows) row is within =
    let same : from ≡ number = omega arith in
    shadowed (eq_by_cmp nat_cmp query from) (Some row) (Some old) (find nat_cmp query (numbered (from + 1) rows))
    ∙ ap (λ n. cond (eq_by_cmp nat_cmp query n) (Some row) (cond (eq_by_cmp nat_cmp query from) (Some old) (find nat_cmp query (numbered (from + 1) rows)))) same
find-numbered-set query number from (suc place) (old ∷ rows) row is within =
    ap (cond (eq_by_cmp nat_cmp query from) (Some old)) (find-numbered-set query number (from + 1) place rows row (omega arith) (omega arith))
    ∙ swapped (eq_by_cmp nat_cmp query from) (eq_by_cmp nat_cmp query number) (Some old) (Some row) (find nat_cmp query (numbered (from + 1) rows)) (apart query from number (omega arith))

-- there are as many rows as sizes
within_rows : (rows : List (List ℕ)) (place : ℕ) → place < length (sizes_of rows) → place < length rows
within_rows rows place within = simp length-map at within

-- the numbers that a block has
pub get-blocks_of : (rows : List (List ℕ)) (place : ℕ) → place < length (sizes_of rows) → finite.get (blocks_of rows) place ≡ Some (get_or rows place [])
get-blocks_of rows place within =
    get-from_entries nat_cmp_total (numbered 0 rows) place ∙ find-numbered place 0 place rows [] (omega arith) (within_rows rows place within)

-- replacing a block is to insert into the map
pub blocks_of-set : (rows : List (List ℕ)) (place : ℕ) (row : List ℕ) → place < length (sizes_of rows) → blocks_of (set rows place row) ≡ finite.insert (blocks_of rows) place row
blocks_of-set rows place row within =
    same_map nat_cmp_total nat_cmp-IsAntisymmetric _ _ (λ query.
    get-from_entries nat_cmp_total (numbered 0 (set rows place row)) query
    ∙ find-numbered-set query place 0 place rows row (omega arith) (within_rows rows place within)
    ∙ ap (cond (eq_by_cmp nat_cmp query place) (Some row)) (sym (get-from_entries nat_cmp_total (numbered 0 rows) query))
    ∙ sym (get-insert nat_cmp_total (blocks_of rows) place row query))

-- replacing a block by one of its length leaves the sizes
pub sizes_of-set : (rows : List (List ℕ)) (place : ℕ) (row : List ℕ) → place < length (sizes_of rows) → length row ≡ slice_index (sizes_of rows) place → sizes_of (set rows place row) ≡ sizes_of rows
sizes_of-set [] place row within same = absurd (omega arith)
sizes_of-set (first ∷ rows) zero row within same = ap (λ n. n ∷ sizes_of rows) same
sizes_of-set (first ∷ rows) (suc place) row within same = ap (λ sizes. length first ∷ sizes) (sizes_of-set rows place row (omega arith) same)

-- a store in memory has each of its blocks
pub has_block : (rows : List (List ℕ)) (block : ℕ) → block < length (sizes_of rows) → IsSome (finite.get (blocks_of rows) block)
has_block rows block within = subst (λ (found : Option (List ℕ)). IsSome found) (sym (get-blocks_of rows block within)) refl

-- and all below one of them
pub has_below : (rows : List (List ℕ)) (block : ℕ) → block < length (sizes_of rows) → HasBelow block (blocks_of rows)
has_below rows block within lower below = has_block rows lower (omega arith)
